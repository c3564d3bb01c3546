-- What the entailments of a disjunct come from and lead to, by the row of their vertex, for any certificate and any disjunct: the source of each is
-- the disjunct, and at a return a summary's disjunct too.
use Rattle.std.specs.Prelude.{◌≡◌, Bool, false, ℤ, get_or, drop}
use Rattle.std.proofs.Math.Path.{refl, sym, ap, ap₂}
use Rattle.std.proofs.Common.{◌∙◌}
use Rattle.std.proofs.Math.Bool.{true}
use Rattle.std.proofs.Math.Option.{Option, none, some}
use mathlib.Core.List.{List, [], ◌∷◌, ◌++◌, map}
use Prim.Native.Nat.{ℕ, zero, suc, ◌+◌, ◌≤◌, ◌<◌}
use native.Mathlib.Omega.{arith}
use Rattle.std.proofs.Math.ListN.{length, length-append, length-map}
use Rattle.basics.specs.Lists.{map_from, Each}
use Rattle.basics.proofs.Lists.{length_map_from, each_append, each_map}
use Rattle.rows.specs.Rows.{Row}
use Rattle.words.specs.Limits.{most_disjuncts}
use Rattle.words.specs.RowWords.{row_of}
use Rattle.programs.specs.Program.{Comparison, less, greater, at_most, at_least, equal, different, Condition, choice, compare, Statement, skip, assign, branch, assert, call, Program, statement_at, owner}
use Rattle.programs.specs.ProgramWords.{n, first, procedure_of, k}
use Rattle.programs.specs.ProgramForm.{ProgramForm}
use Rattle.programs.specs.Decode as decode
use Rattle.programs.specs.Decode.{Fields, skip_row, assign_row, branch_row, assert_row, call_row, fields_of, expression, meaning, statement}
use Rattle.programs.proofs.DecodedNumbers.{first_of_lem}
use Rattle.programs.proofs.Formed.{statement_is, no_statement, owner_is}
use Rattle.programs.specs.StatementRows.{IsCall, RowHere}
use Rattle.programs.proofs.StatementRows.{row_here, called}
use Rattle.certificates.specs.Certificate.{Disjunct, Certificate, summary_edges}
use Rattle.certificates.specs.Guards.{cases, opposite, condition_cases}
use Rattle.certificates.specs.Entailments.{exit_entailment, from_statement, from_disjunct}
use Rattle.certificates.specs.Sources.{Entry, of_vertex, of_summary, Source, from_start, from_path, from_return, Sourced, sourced_by, guard_from, return_from, sourced_statement, sourced_disjunct}
use Rattle.program_readers.specs.declared.places.Vertex.{Vertex}
use Rattle.program_readers.specs.Rows.{vertex_by}
use Rattle.program_readers.specs.declared.kinds.Op.{Op}
use Rattle.program_readers.specs.Kinds.{op_number}
use Rattle.entailments.specs.OpCases.{opposite_op, op_cases, case_count}
use Rattle.entailments.proofs.OpCases.{count_cases, false_cases, compared_cases, opposite_cases}
use Rattle.vertex_entailments.specs.Cases.{only_case, length_sides, first_side, second_side}
use Rattle.vertex_entailments.specs.Sides.{side_at, by_side}

-- a call's first entailment comes from its disjunct and leads to its callee, and each other comes back by a summary's disjunct to the return point
unfoldable pub call_source : ℕ → ℕ → ℕ → ℕ → Source
call_source v callee zero i = from_path v i
call_source v callee (suc j) i = from_return v i callee j

unfoldable pub call_entry : List ℤ → ℕ → ℕ → ℕ → ℕ
call_entry program back callee zero = first program callee
call_entry program back callee (suc j) = back

pub call_later : (program : List ℤ) (back callee case : ℕ) → (case ≡ 0 → ⊥) → back ≡ call_entry program back callee case
unfolding call_entry
call_later program back callee zero h = absurd (h refl)
call_later program back callee (suc j) h = refl

module _ (program : List ℤ) (v : ℕ) where
  -- the entailments of disjunct i, which is d
  abbrev pub cases_by : Certificate → ℕ → Disjunct → List Sourced
  cases_by c i d = sourced_disjunct (decode.program program) c v (statement_at (decode.program program) v) i d

  -- entailment `case` of disjunct i comes from `source i` and leads to t
  pub record CaseIs (case : ℕ) (source : ℕ → Source) (t : Entry) : Type 0 where
    pub is : (c : Certificate) (i : ℕ) (d : Disjunct) (z : Sourced) → case < length (cases_by c i d)
        → ((get_or (cases_by c i d) case z).source ≡ source i) × ((get_or (cases_by c i d) case z).leads_to ≡ t)

-- ---- by the row

at_counted : {A B : Type 0} (f : ℕ → A → B) (P : ℕ → B → Type 0) → ((j : ℕ) (x : A) → P j (f j x)) → (i j m : ℕ) → m ≡ i + j → (xs : List A) (z : B) → j < length (map_from f i xs) → P m (get_or (map_from f i xs) j z)
unfolding map_from
at_counted f P h i j m e [] z b = absurd (omega arith)
at_counted f P h i zero m e (x ∷ xs) z b = let same : m ≡ i = omega arith in rw same (h i x)
at_counted f P h i (suc j) m e (x ∷ xs) z b = at_counted f P h (suc i) j m (omega arith) xs z (omega arith)

module _ (program : List ℤ) (v : ℕ) where
  -- an exit leads to its procedure's summary
  exit_sourced : n program < v → (c : Certificate) (i : ℕ) (d : Disjunct)
      → cases_by program v c i d ≡ sourced_by (from_path v i) (of_summary (owner (decode.program program) v)) (exit_entailment (decode.program program) c (owner (decode.program program) v) d) ∷ []
  unfolding sourced_disjunct
  exit_sourced past c i d = rw (no_statement program v (λ l. past)) refl

  pub exit_case : n program < v → (case : ℕ) → CaseIs program v case (from_path v) (of_summary (procedure_of program v))
  exit_case past case = record { is = λ c i d z h. rw (only_case z case (exit_sourced past c i d) h) (refl, ap of_summary (owner_is program v)) }

  module _ (low : 1 ≤ v) (high : v ≤ n program) where
    row_sourced : {r : Fields} → fields_of program v ≡ r → (c : Certificate) (i : ℕ) (d : Disjunct)
        → cases_by program v c i d ≡ sourced_statement (decode.program program) c v (meaning program (k program v) r) i d
    unfolding sourced_disjunct statement
    row_sourced e c i d =
        rw (statement_is program v low high)
        (ap (λ (r : Fields). sourced_statement (decode.program program) c v (meaning program (k program v) r) i d) e)

    pub skip_case : {next : ℕ} → fields_of program v ≡ skip_row next → (case : ℕ) → CaseIs program v case (from_path v) (of_vertex next)
    unfolding sourced_statement meaning
    skip_case e case = record { is = λ c i d z h. rw (only_case z case (row_sourced e c i d) h) (refl, refl) }

    pub assign_case : {next column at : ℕ} → fields_of program v ≡ assign_row next column at → (case : ℕ) → CaseIs program v case (from_path v) (of_vertex next)
    unfolding sourced_statement meaning
    assign_case e case = record { is = λ c i d z h. rw (only_case z case (row_sourced e c i d) h) (refl, refl) }

    -- ---- a condition

    abbrev sides_from : ℕ → ℕ → Op → Row → Certificate → ℕ → Disjunct → List Sourced
    sides_from yea nay op x c i d = map (guard_from (decode.program program) c v yea i d) (op_cases op x) ++ map (guard_from (decode.program program) c v nay i d) (op_cases (opposite_op op) x)

    module _ (yea nay : Vertex) (op : Op) (x : Row) (are : (c : Certificate) (i : ℕ) (d : Disjunct) → cases_by program v c i d ≡ sides_from yea.0 nay.0 op x c i d) (case : ℕ) where
      first_case : case < case_count op → CaseIs program v case (from_path v) (of_vertex yea.0)
      first_case b =
          record { is = λ c i d z h. rw (are c i d, first_side _ _ (op_cases op x) (op_cases (opposite_op op) x) [] z case (omega (arith, count_cases x op))) (refl, refl) }

      second_case : case_count op ≤ case → CaseIs program v case (from_path v) (of_vertex nay.0)
      second_case b =
          record {
            is = λ c i d z h. let all : case < length (sides_from yea.0 nay.0 op x c i d) = rw (are c i d) at h in
                rw (are c i d, second_side _ _ (op_cases op x) (op_cases (opposite_op op) x) [] z case (omega (arith, count_cases x op)) (omega (arith, length_sides (guard_from (decode.program program) c v yea.0 i d) (guard_from (decode.program program) c v nay.0 i d) (op_cases op x) (op_cases (opposite_op op) x) [] z))) (refl, refl);
          }

      side_case : CaseIs program v case (from_path v) (of_vertex (side_at yea nay op case).next.0)
      side_case = by_side yea nay op case (λ s. CaseIs program v case (from_path v) (of_vertex s.next.0)) first_case second_case

    pub branch_case : {yea nay : Vertex} (op : Op) {at : ℕ} → fields_of program v ≡ branch_row yea.0 nay.0 (op_number op) at → (case : ℕ) → CaseIs program v case (from_path v) (of_vertex (side_at yea nay op case).next.0)
    unfolding sourced_statement meaning expression
    branch_case {yea} {nay} op {at} e case =
        let x : Row = row_of (k program v) (drop at program) in
        side_case yea nay op x
        (λ c i d. row_sourced e c i d ∙ ap (λ (l : List Disjunct). map (guard_from (decode.program program) c v yea.0 i d) (op_cases op x) ++ map (guard_from (decode.program program) c v nay.0 i d) l) (false_cases x op))
        case

    module _ (f : ProgramForm program) where
      pub branch_here : {yea nay op at : ℕ} → fields_of program v ≡ branch_row yea nay op at → op ≤ 6
      unfolding RowHere
      branch_here {yea} {nay} {op} {at} e = (row_here program v f (branch_row yea nay op at) low high e).op_known

      pub assert_here : {next op at : ℕ} → fields_of program v ≡ assert_row next op at → (0 < op) × (op ≤ 6)
      unfolding RowHere
      assert_here {next} {op} {at} e = let h = row_here program v f (assert_row next op at) low high e in (h.0, h.1.op_known)

      -- an assertion always compares
      compares_op : {next op at : ℕ} → fields_of program v ≡ assert_row next op at → 0 < op
      compares_op e = (assert_here e).0

      pub assert_case : {next : Vertex} (op : Op) {at : ℕ} → fields_of program v ≡ assert_row next.0 (op_number op) at → (case : ℕ) → CaseIs program v case (from_path v) (of_vertex (side_at next (vertex_by 0) op case).next.0)
      unfolding sourced_statement meaning expression
      assert_case {next} op {at} e case =
          let x : Row = row_of (k program v) (drop at program) in
          let positive : 0 < op_number op = compares_op e in
          side_case next (vertex_by 0) op x
          (λ c i d. row_sourced e c i d ∙ ap₂ (λ (l m : List Disjunct). map (guard_from (decode.program program) c v next.0 i d) l ++ map (guard_from (decode.program program) c v 0 i d) m) (compared_cases x op positive) (opposite_cases x op positive))
          case

  -- ---- a call

  pub call_case : ProgramForm program → {back callee actuals : ℕ} → IsCall program v back callee actuals → (case : ℕ) → CaseIs program v case (call_source v callee case) (of_vertex (call_entry program back callee case))
  unfolding sourced_statement meaning call_source call_entry
  call_case f {back} {callee} {actuals} x zero = let h = called program v f x in
      record { is = λ c i d z b. rw (row_sourced x.low x.high x.row c i d) (refl, ap of_vertex (first_of_lem program callee h.callee_low h.callee_high)) }
  call_case f {back} {callee} {actuals} x (suc j) =
      record {
        is = λ c i d z b. let more : suc j < length (sourced_statement (decode.program program) c v (meaning program (k program v) (call_row back callee actuals)) i d) = rw (row_sourced x.low x.high x.row c i d) at b in
            rw (row_sourced x.low x.high x.row c i d)
            (at_counted (return_from (decode.program program) c v back callee _ i d) (λ l y. (y.source ≡ from_return v i callee l) × (y.leads_to ≡ of_vertex back)) (λ l y. (refl, refl)) 0 j j (omega arith) _ z (omega arith));
      }

-- ---- whatever the vertex does

-- each entailment of disjunct i of v comes from it, and a return by summary disjunct l has the number l + 1
unfoldable pub OwnSource : ℕ → ℕ → ℕ → Source → Type 0
OwnSource v i case from_start = ⊥
OwnSource v i case (from_path u j) = (u ≡ v) × (j ≡ i)
OwnSource v i case (from_return u j q l) = (u ≡ v) × (j ≡ i) × (case ≡ l + 1)

at_each : {A : Type 0} (P : A → Type 0) (l : List A) (i : ℕ) (z : A) → Each P l → i < length l → P (get_or l i z)
unfolding Each
at_each P [] i z h b = absurd (omega arith)
at_each P (x ∷ l) zero z h b = h.0
at_each P (x ∷ l) (suc i) z h b = at_each P l i z h.1 (omega arith)

few_cases : (op : Comparison) (e : Row) → length (cases op e) ≤ 2
unfolding cases
few_cases less e = omega arith
few_cases greater e = omega arith
few_cases at_most e = omega arith
few_cases at_least e = omega arith
few_cases equal e = omega arith
few_cases different e = omega arith

few_sides : (g : Condition) (side : Bool) → length (condition_cases g side) ≤ 2
unfolding condition_cases
few_sides choice side = omega arith
few_sides (compare op e) true = few_cases op e
few_sides (compare op e) false = few_cases (opposite op) e

module _ (p : Program) (c : Certificate) (v i : ℕ) (d : Disjunct) (z : Sourced) where
  from_guards : (yea nay : ℕ) (xs ys : List Disjunct) (case : ℕ) → case < length (map (guard_from p c v yea i d) xs ++ map (guard_from p c v nay i d) ys)
      → (get_or (map (guard_from p c v yea i d) xs ++ map (guard_from p c v nay i d) ys) case z).source ≡ from_path v i
  from_guards yea nay xs ys case b =
      at_each (λ x. x.source ≡ from_path v i) _ case z
      (each_append _ (map (guard_from p c v yea i d) xs) (map (guard_from p c v nay i d) ys) (each_map _ (guard_from p c v yea i d) xs (λ g. refl)) (each_map _ (guard_from p c v nay i d) ys (λ g. refl)))
      b

  by_path_lem : {s : Source} (case : ℕ) → s ≡ from_path v i → OwnSource v i case s
  unfolding OwnSource
  by_path_lem case e = rw e (refl, refl)

  pub own_source : (st : Option Statement) (case : ℕ) → case < length (sourced_disjunct p c v st i d) → OwnSource v i case (get_or (sourced_disjunct p c v st i d) case z).source
  unfolding sourced_disjunct sourced_statement OwnSource
  own_source (some (skip next)) zero b = (refl, refl)
  own_source (some (skip next)) (suc j) b = absurd (omega arith)
  own_source (some (assign next x e)) zero b = (refl, refl)
  own_source (some (assign next x e)) (suc j) b = absurd (omega arith)
  own_source (some (branch yea nay g)) case b = by_path_lem case (from_guards yea nay (condition_cases g true) (condition_cases g false) case b)
  own_source (some (assert next op e)) case b = by_path_lem case (from_guards next 0 (cases op e) (cases (opposite op) e) case b)
  own_source (some (call return callee actuals)) zero b = (refl, refl)
  own_source (some (call return callee actuals)) (suc j) b =
      at_counted (return_from p c v return callee actuals i d) (λ l y. OwnSource v i (suc l) y.source) (λ l y. (refl, refl, omega arith)) 0 j j (omega arith) (summary_edges c callee) z (omega arith)
  own_source none zero b = (refl, refl)
  own_source none (suc j) b = absurd (omega arith)

  -- there are as many as entailments
  pub length_sourced : (st : Option Statement) → length (sourced_disjunct p c v st i d) ≡ length (from_disjunct p c (owner p v) st d)
  unfolding sourced_disjunct sourced_statement from_disjunct from_statement
  length_sourced (some (skip next)) = refl
  length_sourced (some (assign next x e)) = refl
  length_sourced (some (branch yea nay g)) = simp (length-append, length-map)
  length_sourced (some (assert next op e)) = simp (length-append, length-map)
  length_sourced (some (call return callee actuals)) = ap suc (length_map_from _ 0 (summary_edges c callee) ∙ sym (length-map (summary_edges c callee) _))
  length_sourced none = refl

  -- a call has at most 9, to its callee and back by each of 8 disjuncts of the summary
  pub few_sourced : ((q : ℕ) → length (summary_edges c q) ≤ most_disjuncts) → (st : Option Statement) → length (sourced_disjunct p c v st i d) ≤ most_disjuncts + 1
  unfolding sourced_disjunct sourced_statement
  few_sourced few (some (skip next)) = omega arith
  few_sourced few (some (assign next x e)) = omega arith
  few_sourced few (some (branch yea nay g)) = rw length-append (omega (arith, length-map (condition_cases g true) (guard_from p c v yea i d), length-map (condition_cases g false) (guard_from p c v nay i d), few_sides g true, few_sides g false))
  few_sourced few (some (assert next op e)) = rw length-append (omega (arith, length-map (cases op e) (guard_from p c v next i d), length-map (cases (opposite op) e) (guard_from p c v 0 i d), few_cases op e, few_cases (opposite op) e))
  few_sourced few (some (call return callee actuals)) = omega (arith, few callee, length_map_from (return_from p c v return callee actuals i d) 0 (summary_edges c callee))
  few_sourced few none = omega arith
