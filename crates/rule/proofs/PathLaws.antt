-- What a row's path says of its outcome (01, One row). Assumes nothing.
use mathlib.Core.Path.{◌≡◌, refl, ap, ap₂, sym, ◌∙◌}
use mathlib.Core.Bool.{Bool, true, false, cond, ◌||◌, or-true, or-false, or_assoc}
use mathlib.Core.List.Memᴰ
use mathlib.Core.List.{List, [], ◌∷◌, ◌++◌, Memᴰ}
use Prim.Native.Nat.{ℕ}
use native.Mathlib.Omega.{arith}
use Rattle.scalar.specs.declared.types.DataType.{DataType}
use Rattle.scalar.specs.Entry.{Entry, is_null, Outcome, entry, unfit, on_entry, on_entries}
use Rattle.scalar.specs.Not.{not_entry}
use Rattle.scalar.specs.Negative.{negative_entry}
use Rattle.scalar.specs.IsNotNull.{is_not_null_entry}
use Rattle.scalar.specs.Cast.{cast_entry, is_unfit}
use Rattle.scalar.specs.TryCast.{try_cast_entry}
use Rattle.scalar.specs.Compare.{equal_entry, less_entry}
use Rattle.rule.specs.Tree.{Expr, column, literal, negation, negative, is_not_null, cast, try_cast, equal, less, case_when, Branches, no_more, branch, Optional, absent, present}
use Rattle.rule.specs.Typing.{result_type}
use Rattle.rule.specs.Row.{Row, Test, is_true_test, equals_test, passes, chosen, with_base, eval, eval_base, eval_branches, eval_else}
use Rattle.rule.specs.Path.{Step, reads, casts, holds_misfit, followed_by, cast_step, chosen_path, base_path, path, path_base, path_branches, path_else, reads_column, columns_read}
use Rattle.rule.specs.Constant.{unread}

-- a step fails at a row: its cast doesn't fit, or its column can't be read
abbrev failing : Row → Step → Bool
failing row (reads c) = is_unfit (row c)
failing row (casts t v) = is_unfit (cast_entry t v)

-- a path fails at a row
abbrev fails : Row → List Step → Bool
fails row [] = false
fails row (s ∷ p) = failing row s || fails row p

-- a path fails where one of its parts does
fails_append : (row : Row) (p q : List Step) → fails row (p ++ q) ≡ (fails row p || fails row q)
fails_append row [] q = refl
fails_append row (s ∷ p) q = ap (λ b. failing row s || b) (fails_append row p q) ∙ sym (or_assoc (failing row s) (fails row p) (fails row q))

-- one of two, by the second
or_mono : (a b c : Bool) → (b ≡ true → c ≡ true) → (a || b) ≡ true → (a || c) ≡ true
or_mono true b c f h = refl
or_mono false b c f h = f h

-- a path that holds a misfit fails at every row
misfit_fails : (row : Row) (p : List Step) → holds_misfit p ≡ true → fails row p ≡ true
unfolding holds_misfit
misfit_fails row [] h = h
misfit_fails row (reads c ∷ p) h = rw (misfit_fails row p h) (or-true (is_unfit (row c)))
misfit_fails row (casts t v ∷ p) h = or_mono (is_unfit (cast_entry t v)) (holds_misfit p) (fails row p) (misfit_fails row p) h

-- what follows a misfit changes nothing
fails_followed : (row : Row) (p q : List Step) → fails row (followed_by p q) ≡ (fails row p || fails row q)
unfolding followed_by
fails_followed row p q = go (holds_misfit p) refl
  where
    go : (b : Bool) → holds_misfit p ≡ b → fails row (cond b p (p ++ q)) ≡ (fails row p || fails row q)
    go true h = rw (misfit_fails row p h)
    go false h = fails_append row p q

-- outcomes and paths of the parts, put together
on_fails : (f : Entry → Entry) (o : Outcome) → is_unfit (on_entry (λ v. entry (f v)) o) ≡ is_unfit o
on_fails f (entry v) = refl
on_fails f unfit = refl

both_fail : (f : Entry → Entry → Entry) (a b : Outcome) → is_unfit (on_entries f a b) ≡ (is_unfit a || is_unfit b)
both_fail f (entry a) (entry b) = refl
both_fail f (entry a) unfit = refl
both_fail f unfit (entry b) = refl
both_fail f unfit unfit = refl

module _ (row : Row) where
  cast_fails : (t : DataType) (o : Outcome) → is_unfit (on_entry (cast_entry t) o) ≡ (is_unfit o || fails row (cast_step t o))
  cast_fails t (entry v) = sym (or-false (is_unfit (cast_entry t v)))
  cast_fails t unfit = refl

  either_fails : (b : Bool) (x y : Outcome) (p q : List Step) → is_unfit x ≡ fails row p → is_unfit y ≡ fails row q → is_unfit (cond b x y) ≡ fails row (cond b p q)
  either_fails true x y p q h k = h
  either_fails false x y p q h k = k

  chosen_fails : (test : Test) (o x y : Outcome) (p q : List Step) → is_unfit x ≡ fails row p → is_unfit y ≡ fails row q
      → is_unfit (chosen test o x y) ≡ (is_unfit o || fails row (chosen_path test o p q))
  chosen_fails test (entry v) x y p q h k = either_fails (passes test v) x y p q h k
  chosen_fails test unfit x y p q h k = refl

  base_fails : (o : Outcome) (x : Test → Outcome) (y : Outcome) (p : Test → List Step) (q : List Step) → ((test : Test) → is_unfit (x test) ≡ fails row (p test)) → is_unfit y ≡ fails row q
      → is_unfit (with_base o x y) ≡ (is_unfit o || fails row (base_path o p q))
  base_fails (entry v) x y p q h k = either_fails (is_null v) y (x (equals_test v)) q (p (equals_test v)) k (h (equals_test v))
  base_fails unfit x y p q h k = refl

  -- a part, then what follows it
  followed : (b : Bool) (o : Outcome) (p q : List Step) → is_unfit o ≡ fails row p → b ≡ (is_unfit o || fails row q) → b ≡ fails row (followed_by p q)
  followed b o p q h k = k ∙ ap (λ x. x || fails row q) h ∙ sym (fails_followed row p q)

-- an outcome is "doesn't fit" exactly when its path fails
mutual
  unfolding eval path

  expr_fails : (e : Expr) (row : Row) → is_unfit (eval e row) ≡ fails row (path e row)
  expr_fails (column c) row = sym (or-false (is_unfit (row c.index)))
  expr_fails (literal t v) row = refl
  expr_fails (negation e) row = on_fails not_entry (eval e row) ∙ expr_fails e row
  expr_fails (negative e) row = on_fails negative_entry (eval e row) ∙ expr_fails e row
  expr_fails (is_not_null e) row = on_fails is_not_null_entry (eval e row) ∙ expr_fails e row
  expr_fails (cast t e) row = followed row _ (eval e row) (path e row) (cast_step t (eval e row)) (expr_fails e row) (cast_fails row t (eval e row))
  expr_fails (try_cast t e) row = on_fails (try_cast_entry t) (eval e row) ∙ expr_fails e row
  expr_fails (equal a b) row = followed row _ (eval a row) (path a row) (path b row) (expr_fails a row) (both_fail equal_entry (eval a row) (eval b row) ∙ ap (λ x. is_unfit (eval a row) || x) (expr_fails b row))
  expr_fails (less a b) row = followed row _ (eval a row) (path a row) (path b row) (expr_fails a row) (both_fail less_entry (eval a row) (eval b row) ∙ ap (λ x. is_unfit (eval a row) || x) (expr_fails b row))
  expr_fails (case_when b bs e) row =
      optional_fails_lem b row (λ test. eval_branches bs row test (eval_else e row (result_type bs))) (eval_else e row (result_type bs))
      (λ test. path_branches bs row test (path_else e row)) (path_else e row)
      (λ test. branches_fail_lem bs row test (eval_else e row (result_type bs)) (path_else e row) (else_fails e row (result_type bs)))
      (else_fails e row (result_type bs))

  optional_fails_lem : (b : Optional) (row : Row) (x : Test → Outcome) (y : Outcome) (p : Test → List Step) (q : List Step)
      → ((test : Test) → is_unfit (x test) ≡ fails row (p test)) → is_unfit y ≡ fails row q → is_unfit (eval_base b row x y) ≡ fails row (path_base b row p q)
  optional_fails_lem absent row x y p q h k = h is_true_test
  optional_fails_lem (present b) row x y p q h k =
      followed row _ (eval b row) (path b row) (base_path (eval b row) p q) (expr_fails b row) (base_fails row (eval b row) x y p q h k)

  branches_fail_lem : (bs : Branches) (row : Row) (test : Test) (y : Outcome) (q : List Step) → is_unfit y ≡ fails row q
      → is_unfit (eval_branches bs row test y) ≡ fails row (path_branches bs row test q)
  branches_fail_lem no_more row test y q k = k
  branches_fail_lem (branch w t bs) row test y q k =
      followed row _ (eval w row) (path w row) (chosen_path test (eval w row) (path t row) (path_branches bs row test q)) (expr_fails w row)
      (chosen_fails row test (eval w row) (eval t row) (eval_branches bs row test y) (path t row) (path_branches bs row test q) (expr_fails t row) (branches_fail_lem bs row test y q k))

  else_fails : (e : Optional) (row : Row) (t : DataType) → is_unfit (eval_else e row t) ≡ fails row (path_else e row)
  else_fails absent row t = refl
  else_fails (present e) row t = on_fails (try_cast_entry t) (eval e row) ∙ expr_fails e row

-- a row whose every column can be read
abbrev pub Readable : Row → Type 0
Readable row = (c : ℕ) → (v : Entry) × (row c ≡ entry v)

-- where every column can be read, only a misfit fails
readable_fails : (row : Row) → Readable row → (p : List Step) → fails row p ≡ holds_misfit p
unfolding holds_misfit
readable_fails row h [] = refl
readable_fails row h (reads c ∷ p) = rw (h c).1 (readable_fails row h p)
readable_fails row h (casts t v ∷ p) = ap (λ b. is_unfit (cast_entry t v) || b) (readable_fails row h p)

-- the outcome is "doesn't fit" exactly when the path holds a cast that doesn't fit
pub path_fails : (e : Expr) (row : Row) → Readable row → is_unfit (eval e row) ≡ holds_misfit (path e row)
path_fails e row h = expr_fails e row ∙ readable_fails row h (path e row)

-- where no column can be read, a column that is read fails too
unread_path : (p : List Step) → fails unread p ≡ (reads_column p || holds_misfit p)
unfolding holds_misfit reads_column
unread_path [] = refl
unread_path (reads c ∷ p) = refl
unread_path (casts t v ∷ p) = ap (λ b. is_unfit (cast_entry t v) || b) (unread_path p) ∙ go (is_unfit (cast_entry t v)) (reads_column p) (holds_misfit p)
  where
    go : (a b c : Bool) → (a || (b || c)) ≡ (b || (a || c))
    go true true c = refl
    go true false c = refl
    go false true c = refl
    go false false c = refl

-- what can't be worked out without reading a column or failing
pub unread_fails : (e : Expr) → is_unfit (eval e unread) ≡ (reads_column (path e unread) || holds_misfit (path e unread))
unread_fails e = expr_fails e unread ∙ unread_path (path e unread)

-- two rows have the same in these columns
abbrev pub AgreeOn : List ℕ → Row → Row → Type 0
AgreeOn columns r s = (c : ℕ) → Memᴰ c columns → r c ≡ s c

-- what a path reads, part by part
columns_append : (p q : List Step) → columns_read (p ++ q) ≡ columns_read p ++ columns_read q
unfolding columns_read
columns_append [] q = refl
columns_append (reads c ∷ p) q = ap (λ l. c ∷ l) (columns_append p q)
columns_append (casts t v ∷ p) q = columns_append p q

-- a pair goes by its first part, and by its second where the first has an entry
pair_decided : (f : Entry → Entry → Entry) (a a' b b' : Outcome) → a ≡ a' → ((v : Entry) → a ≡ entry v → b ≡ b') → on_entries f a b ≡ on_entries f a' b'
pair_decided f (entry v) a' b b' p q = ap₂ (on_entries f) p (q v refl)
pair_decided f unfit a' b b' p q = ended b ∙ sym (ended b') ∙ ap (λ x. on_entries f x b') p
  where
    ended : (o : Outcome) → on_entries f unfit o ≡ unfit
    ended (entry v) = refl
    ended unfit = refl

module _ (r s : Row) where
  -- rows that agree on what a path reads
  abbrev Agree : List Step → Type 0
  Agree p = AgreeOn (columns_read p) r s

  -- what a first part reads is read
  agree_first : (p q : List Step) → Agree (followed_by p q) → Agree p
  unfolding followed_by
  agree_first p q = go (holds_misfit p)
    where
      go : (b : Bool) → Agree (cond b p (p ++ q)) → Agree p
      go true h = h
      go false h = λ c m. h c (rw (columns_append p q) (Memᴰ.append_left (columns_read q) m))

  -- and what follows it, where it doesn't fail
  agree_second : (p q : List Step) → fails r p ≡ false → Agree (followed_by p q) → Agree q
  unfolding followed_by
  agree_second p q n = go (holds_misfit p) refl
    where
      go : (b : Bool) → holds_misfit p ≡ b → Agree (cond b p (p ++ q)) → Agree q
      go true k h = let x = misfit_fails r p k in let z : ◌≡◌ {A = ℕ} 0 1 = cc in absurd (omega arith)
      go false k h = λ c m. h c (rw (columns_append p q) (Memᴰ.append_right (columns_read p) m))

  -- where a first part has an entry, what follows it is read
  agree_behind : (e : Expr) (q : List Step) → Agree (followed_by (path e r) q) → (v : Entry) → eval e r ≡ entry v → Agree q
  agree_behind e q h v p = agree_second (path e r) q (sym (expr_fails e r) ∙ ap is_unfit p) h

  -- the same for the path that a test chooses
  either_decided : (b : Bool) (x x' y y' : Outcome) (p q : List Step) → Agree (cond b p q) → (Agree p → x ≡ x') → (Agree q → y ≡ y') → cond b x y ≡ cond b x' y'
  either_decided true x x' y y' p q h k l = k h
  either_decided false x x' y y' p q h k l = l h

  -- behind a WHEN
  chosen_decided : (test : Test) (o o' x x' y y' : Outcome) (p q : List Step) → o ≡ o' → ((v : Entry) → o ≡ entry v → Agree (chosen_path test o p q))
      → (Agree p → x ≡ x') → (Agree q → y ≡ y') → chosen test o x y ≡ chosen test o' x' y'
  chosen_decided test (entry v) o' x x' y y' p q e h k l = either_decided (passes test v) x x' y y' p q (h v refl) k l ∙ ap (λ z. chosen test z x' y') e
  chosen_decided test unfit o' x x' y y' p q e h k l = ap (λ z. chosen test z x' y') e

  -- behind a base
  base_decided : (o o' : Outcome) (x x' : Test → Outcome) (y y' : Outcome) (p : Test → List Step) (q : List Step) → o ≡ o' → ((v : Entry) → o ≡ entry v → Agree (base_path o p q))
      → ((test : Test) → Agree (p test) → x test ≡ x' test) → (Agree q → y ≡ y') → with_base o x y ≡ with_base o' x' y'
  base_decided (entry v) o' x x' y y' p q e h k l =
      either_decided (is_null v) y y' (x (equals_test v)) (x' (equals_test v)) q (p (equals_test v)) (h v refl) l (k (equals_test v)) ∙ ap (λ z. with_base z x' y') e
  base_decided unfit o' x x' y y' p q e h k l = ap (λ z. with_base z x' y') e

mutual
  unfolding eval path columns_read

  -- rows that agree on what the first row's path reads have the same outcome
  pub path_decides : (e : Expr) (r s : Row) → AgreeOn (columns_read (path e r)) r s → eval e r ≡ eval e s
  path_decides (column c) r s h = h c.index (Memᴰ.head refl)
  path_decides (literal t v) r s h = refl
  path_decides (negation e) r s h = ap (on_entry (λ v. entry (not_entry v))) (path_decides e r s h)
  path_decides (negative e) r s h = ap (on_entry (λ v. entry (negative_entry v))) (path_decides e r s h)
  path_decides (is_not_null e) r s h = ap (on_entry (λ v. entry (is_not_null_entry v))) (path_decides e r s h)
  path_decides (cast t e) r s h = ap (on_entry (cast_entry t)) (path_decides e r s (agree_first r s (path e r) (cast_step t (eval e r)) h))
  path_decides (try_cast t e) r s h = ap (on_entry (λ v. entry (try_cast_entry t v))) (path_decides e r s h)
  path_decides (equal a b) r s h =
      pair_decided equal_entry (eval a r) (eval a s) (eval b r) (eval b s) (path_decides a r s (agree_first r s (path a r) (path b r) h))
      (λ v p. path_decides b r s (agree_behind r s a (path b r) h v p))
  path_decides (less a b) r s h =
      pair_decided less_entry (eval a r) (eval a s) (eval b r) (eval b s) (path_decides a r s (agree_first r s (path a r) (path b r) h))
      (λ v p. path_decides b r s (agree_behind r s a (path b r) h v p))
  path_decides (case_when b bs e) r s h =
      optional_decided b r s (λ test. eval_branches bs r test (eval_else e r (result_type bs))) (λ test. eval_branches bs s test (eval_else e s (result_type bs)))
      (eval_else e r (result_type bs)) (eval_else e s (result_type bs)) (λ test. path_branches bs r test (path_else e r)) (path_else e r) h
      (λ test k. branches_decided bs r s test (eval_else e r (result_type bs)) (eval_else e s (result_type bs)) (path_else e r) k (λ l. else_decided e r s (result_type bs) l))
      (λ l. else_decided e r s (result_type bs) l)

  optional_decided : (b : Optional) (r s : Row) (x x' : Test → Outcome) (y y' : Outcome) (p : Test → List Step) (q : List Step) → AgreeOn (columns_read (path_base b r p q)) r s
      → ((test : Test) → AgreeOn (columns_read (p test)) r s → x test ≡ x' test) → (AgreeOn (columns_read q) r s → y ≡ y') → eval_base b r x y ≡ eval_base b s x' y'
  optional_decided absent r s x x' y y' p q h k l = k is_true_test h
  optional_decided (present b) r s x x' y y' p q h k l =
      base_decided r s (eval b r) (eval b s) x x' y y' p q (path_decides b r s (agree_first r s (path b r) (base_path (eval b r) p q) h))
      (agree_behind r s b (base_path (eval b r) p q) h) k l

  branches_decided : (bs : Branches) (r s : Row) (test : Test) (y y' : Outcome) (q : List Step) → AgreeOn (columns_read (path_branches bs r test q)) r s
      → (AgreeOn (columns_read q) r s → y ≡ y') → eval_branches bs r test y ≡ eval_branches bs s test y'
  branches_decided no_more r s test y y' q h l = l h
  branches_decided (branch w t bs) r s test y y' q h l =
      chosen_decided r s test (eval w r) (eval w s) (eval t r) (eval t s) (eval_branches bs r test y) (eval_branches bs s test y') (path t r) (path_branches bs r test q)
      (path_decides w r s (agree_first r s (path w r) (chosen_path test (eval w r) (path t r) (path_branches bs r test q)) h))
      (agree_behind r s w (chosen_path test (eval w r) (path t r) (path_branches bs r test q)) h)
      (λ k. path_decides t r s k) (λ k. branches_decided bs r s test y y' q k l)

  else_decided : (e : Optional) (r s : Row) (t : DataType) → AgreeOn (columns_read (path_else e r)) r s → eval_else e r t ≡ eval_else e s t
  else_decided absent r s t h = refl
  else_decided (present e) r s t h = ap (on_entry (λ v. entry (try_cast_entry t v))) (path_decides e r s h)
