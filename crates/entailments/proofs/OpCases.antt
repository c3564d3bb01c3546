-- The cases of an op: a condition's true side has the op's cases, and its false side the opposite op's, as the seven ops show one by one.
use Rattle.std.specs.Prelude.{◌≡◌, ℕ, zero, suc, ◌≤◌, ◌<◌, eqb}
use Rattle.std.proofs.Math.Path.{refl}
use Rattle.std.proofs.Common.{◌∙◌, arith, ne_eqb}
use Rattle.std.proofs.Math.Bool.{Bool, true, false, cond}
use mathlib.Core.List.{List, [], ◌∷◌}
use Rattle.std.proofs.Math.ListN.{length, get_or}
use Rattle.rows.specs.Rows.{Row}
use Rattle.programs.specs.Decode.{comparison, condition}
use Rattle.program_readers.specs.declared.kinds.Op.{Op}
use Rattle.program_readers.specs.declared.kinds.Op.TheVariants.{Choice, Less, Greater, AtMost, AtLeast, Equal, Different}
use Rattle.program_readers.specs.Kinds.{op_number, op_named}
use Rattle.certificates.specs.Guards.{opposite, cases, condition_cases}
use Rattle.entailments.specs.GuardRows.{guard_row, signed_row}
use Rattle.entailments.specs.OpCases.{case_count, case_rows, most_op, negative, op_cases, opposite_number, opposite_op, strict}

of_one : (P : ℕ → Type 0) → P 0 → (case : ℕ) → case < 1 → P case
of_one P a zero h = a
of_one P a (suc case) h = absurd (omega arith)

of_two : (P : ℕ → Type 0) → P 0 → P 1 → (case : ℕ) → case < 2 → P case
of_two P a b zero h = a
of_two P a b (suc zero) h = b
of_two P a b (suc (suc case)) h = absurd (omega arith)

pub case_most : (op : Op) → case_count op ≤ 2
unfolding case_count
case_most Choice = omega arith
case_most Less = omega arith
case_most Greater = omega arith
case_most AtMost = omega arith
case_most AtLeast = omega arith
case_most Equal = omega arith
case_most Different = omega arith

pub number_most : (op : Op) → op_number op ≤ most_op
number_most Choice = omega arith
number_most Less = omega arith
number_most Greater = omega arith
number_most AtMost = omega arith
number_most AtLeast = omega arith
number_most Equal = omega arith
number_most Different = omega arith

-- ---- by numbers, of which any may be asked for: the op of a number says what the number says

pub condition_named : (op : ℕ) (e : Row) → condition (op_number (op_named op)) e ≡ condition op e
unfolding op_named condition comparison
condition_named zero e = refl
condition_named (suc zero) e = refl
condition_named (suc (suc zero)) e = refl
condition_named (suc (suc (suc zero))) e = refl
condition_named (suc (suc (suc (suc zero)))) e = refl
condition_named (suc (suc (suc (suc (suc zero))))) e = refl
condition_named (suc (suc (suc (suc (suc (suc op)))))) e =
    let n : ℕ = suc (suc (suc (suc (suc (suc op))))) in
    rw (ne_eqb n 0 (λ z. omega arith), ne_eqb n 1 (λ z. omega arith), ne_eqb n 2 (λ z. omega arith), ne_eqb n 3 (λ z. omega arith), ne_eqb n 4 (λ z. omega arith), ne_eqb n 5 (λ z. omega arith)) refl

cond_most : {m x y : ℕ} (b : Bool) → x ≤ m → y ≤ m → cond b x y ≤ m
cond_most true h g = h
cond_most false h g = g

pub opposite_most : (op : ℕ) → opposite_number op ≤ most_op
unfolding opposite_number
opposite_most op =
    cond_most (eqb op 0) (omega arith) (cond_most (eqb op 1) (omega arith) (cond_most (eqb op 2) (omega arith) (cond_most (eqb op 3) (omega arith)
    (cond_most (eqb op 4) (omega arith) (cond_most (eqb op 5) (omega arith) (omega arith))))))

-- both forms of the opposite agree
pub opposite_named : (op : ℕ) → op_number (opposite_op (op_named op)) ≡ opposite_number op
unfolding op_named opposite_op opposite_number
opposite_named zero = refl
opposite_named (suc zero) = refl
opposite_named (suc (suc zero)) = refl
opposite_named (suc (suc (suc zero))) = refl
opposite_named (suc (suc (suc (suc zero)))) = refl
opposite_named (suc (suc (suc (suc (suc zero))))) = refl
opposite_named (suc (suc (suc (suc (suc (suc op)))))) =
    let n : ℕ = suc (suc (suc (suc (suc (suc op))))) in
    rw (ne_eqb n 0 (λ z. omega arith), ne_eqb n 1 (λ z. omega arith), ne_eqb n 2 (λ z. omega arith), ne_eqb n 3 (λ z. omega arith), ne_eqb n 4 (λ z. omega arith), ne_eqb n 5 (λ z. omega arith)) refl

-- ---- the sides of a branch and of an assert

module _ (e : Row) where
  pub false_cases : (op : Op) → condition_cases (condition (op_number op) e) false ≡ op_cases (opposite_op op) e
  unfolding condition_cases condition comparison opposite opposite_op
  false_cases Choice = refl
  false_cases Less = refl
  false_cases Greater = refl
  false_cases AtMost = refl
  false_cases AtLeast = refl
  false_cases Equal = refl
  false_cases Different = refl

  pub compared_number : (op : ℕ) → 0 < op → cases (comparison op) e ≡ condition_cases (condition op e) true
  unfolding condition_cases condition
  compared_number op h = rw (ne_eqb op 0 (λ z. omega arith))

  pub compared_cases : (op : Op) → 0 < op_number op → cases (comparison (op_number op)) e ≡ op_cases op e
  compared_cases op h = compared_number (op_number op) h

  opposite_compared : (op : ℕ) → 0 < op → cases (opposite (comparison op)) e ≡ condition_cases (condition op e) false
  unfolding condition_cases condition
  opposite_compared op h = rw (ne_eqb op 0 (λ z. omega arith))

  pub opposite_cases : (op : Op) → 0 < op_number op → cases (opposite (comparison (op_number op))) e ≡ op_cases (opposite_op op) e
  opposite_cases op h = opposite_compared (op_number op) h ∙ false_cases op

  -- ---- how many cases, and the rows of each

  pub count_cases : (op : Op) → length (op_cases op e) ≡ case_count op
  unfolding condition_cases condition comparison cases case_count
  count_cases Choice = refl
  count_cases Less = refl
  count_cases Greater = refl
  count_cases AtMost = refl
  count_cases AtLeast = refl
  count_cases Equal = refl
  count_cases Different = refl

  pub case_rows_lem : (op : Op) (case : ℕ) → case < length (op_cases op e) → get_or (op_cases op e) case [] ≡ case_rows e op case
  unfolding condition_cases condition comparison cases case_rows guard_row signed_row negative strict
  case_rows_lem Choice case h = of_one (λ case. get_or (op_cases Choice e) case [] ≡ case_rows e Choice case) refl case h
  case_rows_lem Less case h = of_one (λ case. get_or (op_cases Less e) case [] ≡ case_rows e Less case) refl case h
  case_rows_lem Greater case h = of_one (λ case. get_or (op_cases Greater e) case [] ≡ case_rows e Greater case) refl case h
  case_rows_lem AtMost case h = of_one (λ case. get_or (op_cases AtMost e) case [] ≡ case_rows e AtMost case) refl case h
  case_rows_lem AtLeast case h = of_one (λ case. get_or (op_cases AtLeast e) case [] ≡ case_rows e AtLeast case) refl case h
  case_rows_lem Equal case h = of_one (λ case. get_or (op_cases Equal e) case [] ≡ case_rows e Equal case) refl case h
  case_rows_lem Different case h = of_two (λ case. get_or (op_cases Different e) case [] ≡ case_rows e Different case) refl refl case h

  -- what holds of no row, of one and of two
  module _ (P : List Row → Type 0) (nothing : P []) (single : (negative plus : Bool) → P (guard_row negative plus e ∷ [])) (pair : (negative plus : Bool) → P (guard_row negative plus e ∷ guard_row true false e ∷ [])) where
    by_rows : (op : Op) (case : ℕ) → P (case_rows e op case)
    unfolding case_rows
    by_rows Choice case = nothing
    by_rows Less case = single (negative Less case) (strict Less)
    by_rows Greater case = single (negative Greater case) (strict Greater)
    by_rows AtMost case = single (negative AtMost case) (strict AtMost)
    by_rows AtLeast case = single (negative AtLeast case) (strict AtLeast)
    by_rows Equal case = pair (negative Equal case) (strict Equal)
    by_rows Different case = single (negative Different case) (strict Different)

    pub each_case : (op : Op) (case : ℕ) → case < length (op_cases op e) → P (get_or (op_cases op e) case [])
    each_case op case h = rw (case_rows_lem op case h) (by_rows op case)
