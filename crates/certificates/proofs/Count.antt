-- How many entailments there are: one for the start, and from each path edge of a vertex as many as the kind of its statement has cases.
-- A call has the most, one for the entry and one for each summary edge: at most 9, where no procedure has more than 8 summary edges.
use Rattle.std.specs.Prelude.{◌≡◌, true, false}
use Rattle.std.proofs.Math.Path.{refl, ap, fun_ext}
use Rattle.std.proofs.Common.{◌∙◌, mul-le-mul_left, length-append}
use mathlib.Core.List.{List, [], ◌∷◌, ◌++◌, map, flat_map}
use Rattle.std.proofs.Math.Option.{Option, none, some}
use Prim.Native.Nat.{ℕ, zero, suc, ◌+◌, ◌*◌, ◌≤◌}
use native.Mathlib.Omega.{arith}
use Rattle.std.proofs.Math.ListN.{length, length-map}
use Rattle.basics.specs.Lists.{gathered}
use Rattle.rows.specs.Rows.{Row}
use Rattle.words.specs.Limits.{most_disjuncts}
use Rattle.programs.specs.Program.{Comparison, less, greater, at_most, at_least, equal, different, Condition, choice, compare, Statement, skip, assign, branch, assert, call, Program, statement_at, owner}
use Rattle.certificates.specs.Certificate.{Disjunct, Certificate, path_edges, summary_edges}
use Rattle.certificates.specs.Guards.{cases, opposite, condition_cases}
use Rattle.certificates.specs.Entailments.{guard_entailment, return_entailment, from_statement, from_disjunct, from_vertex, entailments}
use Rattle.certificates.specs.Count.{cases_of, cases_of_comparison, cases_of_condition, total}

-- ---- lengths

length_gathered : {A : Type 0} (f : ℕ → List A) (m : ℕ) → length (gathered f m) ≡ total (λ i. length (f i)) m
unfolding gathered total
length_gathered f zero = refl
length_gathered f (suc m) = length-append (gathered f m) (f (m + 1)) ∙ ap (λ (n : ℕ). n + length (f (m + 1))) (length_gathered f m)

length_flat_map : {A B : Type 0} (f : A → List B) (n : ℕ) → ((x : A) → length (f x) ≡ n) → (xs : List A) → length (flat_map f xs) ≡ length xs * n
unfolding flat_map
length_flat_map f n h [] = omega arith
length_flat_map f n h (x ∷ xs) = rw (length-append, h, length_flat_map f n h xs) (omega arith)

length_maps : {A B : Type 0} (f g : A → B) (xs ys : List A) → length (map f xs ++ map g ys) ≡ length xs + length ys
length_maps f g xs ys = simp (length-append, length-map)

comparison_sides : (op : Comparison) (e : Row) → length (cases op e) + length (cases (opposite op) e) ≡ cases_of_comparison op
unfolding cases opposite cases_of_comparison
comparison_sides less e = refl
comparison_sides greater e = refl
comparison_sides at_most e = refl
comparison_sides at_least e = refl
comparison_sides equal e = refl
comparison_sides different e = refl

condition_sides : (g : Condition) → length (condition_cases g true) + length (condition_cases g false) ≡ cases_of_condition g
unfolding condition_cases cases_of_condition
condition_sides choice = refl
condition_sides (compare op e) = comparison_sides op e

module _ (p : Program) (c : Certificate) where
  length_disjunct : (q : ℕ) (st : Option Statement) (d : Disjunct) → length (from_disjunct p c q st d) ≡ cases_of c st
  unfolding from_disjunct from_statement cases_of
  length_disjunct q (some (skip next)) d = refl
  length_disjunct q (some (assign next i e)) d = refl
  length_disjunct q (some (branch yea nay g)) d = length_maps (guard_entailment p c q yea d) (guard_entailment p c q nay d) (condition_cases g true) (condition_cases g false) ∙ condition_sides g
  length_disjunct q (some (assert next op e)) d = length_maps (guard_entailment p c q next d) (guard_entailment p c q 0 d) (cases op e) (cases (opposite op) e) ∙ comparison_sides op e
  length_disjunct q (some (call return callee actuals)) d = omega (arith, length-map (summary_edges c callee) (return_entailment p c q return actuals d))
  length_disjunct q none d = refl

  length_vertex : (v : ℕ) → length (from_vertex p c v) ≡ length (path_edges c v) * cases_of c (statement_at p v)
  unfolding from_vertex
  length_vertex v = length_flat_map (from_disjunct p c (owner p v) (statement_at p v)) (cases_of c (statement_at p v)) (length_disjunct (owner p v) (statement_at p v)) (path_edges c v)

  pub count : length (entailments p c) ≡ 1 + total (λ v. length (path_edges c v) * cases_of c (statement_at p v)) (length p.statements + length p.procedures)
  unfolding entailments
  count =
      let m : ℕ = length p.statements + length p.procedures in
      omega (arith, length_gathered (from_vertex p c) m ∙ ap (λ (f : ℕ → ℕ). total f m) (fun_ext length_vertex))

-- ---- a bound

total_bound : (f g : ℕ → ℕ) (k : ℕ) → ((i : ℕ) → g i ≤ k) → (m : ℕ) → total (λ i. f i * g i) m ≤ k * total f m
unfolding total
total_bound f g k h zero = omega arith
total_bound f g k h (suc m) = omega (arith, total_bound f g k h m, mul-le-mul_left (f (m + 1)) (h (m + 1)))

comparison_bound : (op : Comparison) → cases_of_comparison op ≤ 3
unfolding cases_of_comparison
comparison_bound less = omega arith
comparison_bound greater = omega arith
comparison_bound at_most = omega arith
comparison_bound at_least = omega arith
comparison_bound equal = omega arith
comparison_bound different = omega arith

condition_bound : (g : Condition) → cases_of_condition g ≤ 3
unfolding cases_of_condition
condition_bound choice = omega arith
condition_bound (compare op e) = comparison_bound op

module _ (p : Program) (c : Certificate) (few : (q : ℕ) → length (summary_edges c q) ≤ most_disjuncts) where
  cases_bound : (st : Option Statement) → cases_of c st ≤ 1 + most_disjuncts
  unfolding cases_of
  cases_bound (some (skip next)) = omega arith
  cases_bound (some (assign next i e)) = omega arith
  cases_bound (some (branch yea nay g)) = omega (arith, condition_bound g)
  cases_bound (some (assert next op e)) = omega (arith, comparison_bound op)
  cases_bound (some (call return callee actuals)) = omega (arith, few callee)
  cases_bound none = omega arith

  -- those of one disjunct
  pub disjunct_bound : (q : ℕ) (st : Option Statement) (d : Disjunct) → length (from_disjunct p c q st d) ≤ 1 + most_disjuncts
  disjunct_bound q st d = omega (arith, length_disjunct p c q st d, cases_bound st)

  pub count_bound : length (entailments p c) ≤ 1 + (1 + most_disjuncts) * total (λ v. length (path_edges c v)) (length p.statements + length p.procedures)
  count_bound =
      let m : ℕ = length p.statements + length p.procedures in
      omega (arith, count p c, total_bound (λ v. length (path_edges c v)) (λ v. cases_of c (statement_at p v)) (1 + most_disjuncts) (λ v. cases_bound (statement_at p v)) m)
