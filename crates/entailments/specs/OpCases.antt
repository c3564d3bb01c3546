-- The cases of an op: a condition's true side has the op's cases, and its false side the opposite op's, as the seven ops show one by one.
use Rattle.std.specs.Prelude.{Bool, ℕ, eqb}
use Rattle.std.proofs.Math.Bool.{true, false, cond}
use mathlib.Core.List.{List, [], ◌∷◌}
use Rattle.std.proofs.Math.ListN.{get_or}
use Rattle.rows.specs.Rows.{Row, substitute_all}
use Rattle.rows.specs.Columns.{columns}
use Rattle.programs.specs.Decode.{condition}
use Rattle.program_readers.specs.declared.kinds.Op.{Op}
use Rattle.program_readers.specs.declared.kinds.Op.TheVariants.{Choice, Less, Greater, AtMost, AtLeast, Equal, Different}
use Rattle.program_readers.specs.Kinds.{op_number}
use Rattle.certificates.specs.Certificate.{Disjunct}
use Rattle.certificates.specs.Guards.{condition_cases}
use Rattle.entailments.specs.GuardRows.{guard_row}

-- "op: 0 `?` .., 1 <, 2 >, 3 ≤, 4 ≥, 5 =, 6 ≠"
abbrev pub most_op : ℕ
most_op = 6

unfoldable pub opposite_number : ℕ → ℕ
opposite_number op = cond (eqb op 0) 0 (cond (eqb op 1) 4 (cond (eqb op 2) 3 (cond (eqb op 3) 2 (cond (eqb op 4) 1 (cond (eqb op 5) 6 5)))))

-- `?`, whose sides are alike, is its own
unfoldable pub opposite_op : Op → Op
opposite_op Choice = Choice
opposite_op Less = AtLeast
opposite_op Greater = AtMost
opposite_op AtMost = Greater
opposite_op AtLeast = Less
opposite_op Equal = Different
opposite_op Different = Equal

-- the cases of `e op 0`; `?` has one, with no row
abbrev pub op_cases : Op → Row → List Disjunct
op_cases op e = condition_cases (condition (op_number op) e) true

-- the rows of one of them over the columns now, which stand behind the k at entry
abbrev pub guards_now : ℕ → Op → ℕ → Row → List Row
guards_now k op case e = substitute_all (columns k k) (get_or (op_cases op e) case [])

-- ≠ alone has two
unfoldable pub case_count : Op → ℕ
case_count Choice = 1
case_count Less = 1
case_count Greater = 1
case_count AtMost = 1
case_count AtLeast = 1
case_count Equal = 1
case_count Different = 2

-- the first row of a case is negated: >, ≥, and the second case of ≠
unfoldable pub negative : Op → ℕ → Bool
negative Choice case = eqb case 1
negative Less case = eqb case 1
negative Greater case = true
negative AtMost case = eqb case 1
negative AtLeast case = true
negative Equal case = eqb case 1
negative Different case = eqb case 1

-- it has one more: <, > and ≠
unfoldable pub strict : Op → Bool
strict Choice = false
strict Less = true
strict Greater = true
strict AtMost = false
strict AtLeast = false
strict Equal = false
strict Different = true

-- ---- the sides of a branch and of an assert

module _ (e : Row) where
  abbrev pub first_row : Op → ℕ → Row
  first_row op case = guard_row (negative op case) (strict op) e

  -- `?` has no row, and = a second one
  unfoldable pub case_rows : Op → ℕ → List Row
  case_rows Choice case = []
  case_rows Less case = first_row Less case ∷ []
  case_rows Greater case = first_row Greater case ∷ []
  case_rows AtMost case = first_row AtMost case ∷ []
  case_rows AtLeast case = first_row AtLeast case ∷ []
  case_rows Equal case = first_row Equal case ∷ guard_row true false e ∷ []
  case_rows Different case = first_row Different case ∷ []
