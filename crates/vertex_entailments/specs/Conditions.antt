-- A branch or an assert as a condition: for any disjunct its cases are those of the op, to one vertex, and then those of the opposite op, to another.
use Rattle.std.specs.Prelude.{◌≡◌, ℕ, ◌+◌, ◌-◌, ◌≤◌, ◌<◌, ℤ, length, get_or, drop}
use Rattle.std.proofs.Math.Path.{ap, ap₂}
use Rattle.std.proofs.Common.{◌∙◌, arith}
use mathlib.Core.List.{List, [], ◌++◌, map}
use Rattle.rows.specs.Rows.{Row}
use Rattle.words.specs.RowWords.{row_of}
use Rattle.programs.specs.ProgramWords.{n, procedure_of, k}
use Rattle.programs.specs.ProgramForm.{ProgramForm}
use Rattle.programs.specs.Decode as decode
use Rattle.programs.specs.Decode.{branch_row, assert_row, fields_of, expression, meaning}
use Rattle.programs.specs.StatementRows.{ConditionHere, RowHere}
use Rattle.programs.proofs.StatementRows.{row_here}
use Rattle.certificates.specs.Certificate.{Disjunct}
use Rattle.certificates.specs.CertificateWords.{certificate}
use Rattle.certificates.specs.Entailments.{Entailment, guard_entailment, from_statement}
use Rattle.program_readers.specs.declared.kinds.Op.{Op}
use Rattle.program_readers.specs.Kinds.{op_number, op_named, op_named_number}
use Rattle.entailments.specs.OpCases.{opposite_op, op_cases, case_count}
use Rattle.entailments.proofs.OpCases.{count_cases, false_cases, compared_cases, opposite_cases}
use Rattle.vertex_entailments.specs.Given.{cases_of, no_entailment}
use Rattle.vertex_entailments.specs.StatementRows.{row_cases}
use Rattle.vertex_entailments.specs.Cases.{length_sides, first_side, second_side}
use Rattle.vertex_entailments.specs.Sides.{sides_count}

module _ (program witness : List ℤ) (v : ℕ) where
  -- to u, by a guard
  abbrev pub toward : ℕ → Disjunct → Disjunct → Entailment
  toward u d guard = guard_entailment (decode.program program) (certificate program witness) (procedure_of program v) u d guard

  -- the row of v is a condition
  pub record IsCondition (yea nay : ℕ) (op : Op) (at : ℕ) : Type 0 where
    pub is : (d : Disjunct)
        → cases_of program witness v d ≡ map (toward yea d) (op_cases op (row_of (k program v) (drop at program))) ++ map (toward nay d) (op_cases (opposite_op op) (row_of (k program v) (drop at program)))
    pub here : ConditionHere program v yea nay (op_number op) at

  module _ (f : ProgramForm program) (low : 1 ≤ v) (high : v ≤ n program) where
    pub is_branch : {yea nay : ℕ} {op : Op} {at : ℕ} → fields_of program v ≡ branch_row yea nay (op_number op) at → IsCondition yea nay op at
    unfolding from_statement meaning expression RowHere
    is_branch {yea} {nay} {op} {at} e =
        let h : ConditionHere program v yea nay (op_number op) at = row_here program v f (branch_row yea nay (op_number op) at) low high e in
        let x : Row = row_of (k program v) (drop at program) in
        record { is = λ d. row_cases program witness v low high e d ∙ ap (λ (l : List Disjunct). map (toward yea d) (op_cases op x) ++ map (toward nay d) l) (false_cases x op); here = h }

    pub is_assert : {next : ℕ} {op : Op} {at : ℕ} → fields_of program v ≡ assert_row next (op_number op) at → IsCondition next 0 op at
    unfolding from_statement meaning expression RowHere
    is_assert {next} {op} {at} e =
        let h : (0 < op_number op) × ConditionHere program v next 0 (op_number op) at = row_here program v f (assert_row next (op_number op) at) low high e in
        let x : Row = row_of (k program v) (drop at program) in
        record {
          is = λ d. row_cases program witness v low high e d ∙ ap₂ (λ (l m : List Disjunct). map (toward next d) l ++ map (toward 0 d) m) (compared_cases x op h.0) (opposite_cases x op h.0);
          here = h.1;
        }

    -- the number in a row is that of an op
    pub branch_op : {yea nay op at : ℕ} → fields_of program v ≡ branch_row yea nay op at → op_number (op_named op) ≡ op
    unfolding RowHere
    branch_op {yea} {nay} {op} {at} e = op_named_number op (row_here program v f (branch_row yea nay op at) low high e).op_known

    pub assert_op : {next op at : ℕ} → fields_of program v ≡ assert_row next op at → op_number (op_named op) ≡ op
    unfolding RowHere
    assert_op {next} {op} {at} e = op_named_number op (row_here program v f (assert_row next op at) low high e).1.op_known

module _ {program witness : List ℤ} {v yea nay : ℕ} {op : Op} {at : ℕ} (c : IsCondition program witness v yea nay op at) where
  abbrev e : Row
  e = row_of (k program v) (drop at program)

  pub yeas : length (op_cases op e) ≡ case_count op
  yeas = count_cases e op

  pub nays : length (op_cases (opposite_op op) e) ≡ case_count (opposite_op op)
  nays = count_cases e (opposite_op op)

  module _ (d : Disjunct) where
    pub condition_count : length (cases_of program witness v d) ≡ sides_count op
    condition_count =
        ap (λ (l : List Entailment). length l) (c.is d) ∙ length_sides _ _ (op_cases op e) (op_cases (opposite_op op) e) [] no_entailment ∙ ap₂ (λ (x y : ℕ). x + y) yeas nays

    module _ (case : ℕ) where
      at_case : get_or (cases_of program witness v d) case no_entailment ≡ get_or (map (toward program witness v yea d) (op_cases op e) ++ map (toward program witness v nay d) (op_cases (opposite_op op) e)) case no_entailment
      at_case = ap (λ (l : List Entailment). get_or l case no_entailment) (c.is d)

      pub true_case : case < case_count op → get_or (cases_of program witness v d) case no_entailment ≡ toward program witness v yea d (get_or (op_cases op e) case [])
      true_case h = at_case ∙ first_side _ _ (op_cases op e) (op_cases (opposite_op op) e) [] no_entailment case (omega (arith, yeas))

      pub false_case : case_count op ≤ case → case < length (cases_of program witness v d)
          → get_or (cases_of program witness v d) case no_entailment ≡ toward program witness v nay d (get_or (op_cases (opposite_op op) e) (case - case_count op) [])
      false_case l h =
          rw (← yeas) (at_case ∙ second_side _ _ (op_cases op e) (op_cases (opposite_op op) e) [] no_entailment case (omega (arith, yeas)) (omega (arith, yeas, nays, condition_count)))
