-- P1 to P10 hold: each is computed from the definitions alone. Assumes nothing.
use Rattle.std.proofs.Common.{◌≡◌, map, refl}
use Rattle.layout.specs.Bytes.{number, number_bytes, bit_number}
use Rattle.layout.specs.Field.{header, field_bytes}
use Rattle.scalar.specs.Cast.{cast_entry}
use Rattle.scalar.specs.Integer.{bits_of}
use Rattle.scalar.specs.Pair.{pair_of}
use Rattle.scalar.specs.Text.{same_bytes}
use Rattle.scalar.specs.Types.{type_numbered, mark_numbered}
use Rattle.rule.specs.Tree.{branch_count}
use Rattle.rule.specs.TreeBytes.{bytes_of}
use Rattle.rule.specs.Typing.{type_of, branches_typed, node_typed}
use Rattle.rule.specs.Row.{eval}
use Rattle.rule.specs.Constant.{columns_of, constant_fails}
use Rattle.rule.specs.Reading.{kind_among, unlike_earlier, read_column, literal_value, marked_value, read_literal, close_node, read_unary, read_cast, read_binary, read_branches, read_optional, read_parts, read_case, read_limited_case, read_kind, read_field, read_root, read_tree, read_rule}
use Rattle.rule.specs.Nullable.{stripped, replaced, reachable, nullable}
use Rattle.table.specs.Column.{null_count, value_at, entry_at}
use Rattle.table.specs.Reading.{tagged, tagged_pair, read_count, read_validity, read_values, read_body, read_parts as readTableParts, no_null, read_column as readTableColumn, read_columns, read_table}
use Rattle.table.specs.TableBytes.{column_bytes}
use Rattle.writer.specs.Answer.{some_null, null_entries, numbers_of, texts_of}
use Rattle.writer.specs.Written.{rows_from, entries_of, written_as}
use Rattle.case.specs.Fits.{columns_fit}
use Rattle.case.specs.Run.{run_read, run}
use Rattle.case.specs.Cases.{proved_cases, given}

-- every case gives what is expected
pub cases_hold : map given proved_cases ≡ map (λ c. c.expected) proved_cases
unfolding number number_bytes bit_number header field_bytes cast_entry bits_of pair_of same_bytes type_numbered mark_numbered branch_count bytes_of type_of branches_typed node_typed eval columns_of constant_fails kind_among unlike_earlier read_column literal_value marked_value read_literal close_node read_unary read_cast read_binary read_branches read_optional read_parts read_case read_limited_case read_kind read_field read_root read_tree read_rule stripped replaced reachable nullable null_count value_at entry_at tagged tagged_pair read_count read_validity read_values read_body readTableParts no_null readTableColumn read_columns read_table columns_fit some_null null_entries numbers_of texts_of column_bytes rows_from entries_of written_as run_read run
cases_hold = refl
