-- The numbers of kinds and ops, and what is read of a number.
use Rattle.std.specs.Prelude.{◌≡◌, refl, ℕ, zero, suc, ◌≤◌, ◌<◌, cond, eqb, ℤ, Option, Some, None, Result, MatchResult}
use Rattle.std.proofs.Common.{arith}
use Rattle.words.specs.Words.{number}
use Rattle.words.proofs.Ranges.{number_most}
use Rattle.program_readers.specs.declared.kinds.Kind.{Kind}
use Rattle.program_readers.specs.declared.kinds.Kind.TheVariants.{Skip, Assign, Branch, Assert, Call, Exit}
use Rattle.program_readers.specs.declared.kinds.Op.{Op}
use Rattle.program_readers.specs.declared.kinds.Op.TheVariants.{Choice, Less, Greater, AtMost, AtLeast, Equal, Different}
use Rattle.program_readers.specs.declared.kinds.UnknownKind.{UnknownKind}

-- 1 skip, 2 assign, 3 branch, 4 assert, 5 call; the exits have 6
abbrev pub kind_number : Kind → ℕ
kind_number Skip = 1
kind_number Assign = 2
kind_number Branch = 3
kind_number Assert = 4
kind_number Call = 5
kind_number Exit = 6

-- "op: 0 `?` .., 1 <, 2 >, 3 ≤, 4 ≥, 5 =, 6 ≠"
abbrev pub op_number : Op → ℕ
op_number Choice = 0
op_number Less = 1
op_number Greater = 2
op_number AtMost = 3
op_number AtLeast = 4
op_number Equal = 5
op_number Different = 6

-- the kind with this number, or that there is none
abbrev pub KindOf : ℕ → Result Kind UnknownKind → Type 0
KindOf number r = MatchResult r (λ kind. kind_number kind ≡ number) (λ e. (e.0 ≡ number) × (1 ≤ number → 6 < number))

-- the number of the kind that a vertex has, and 0 for none
abbrev pub kind_value : Option Kind → ℕ
kind_value (Some kind) = kind_number kind
kind_value None = 0

-- the op of a number of 0..6
unfoldable pub op_named : ℕ → Op
op_named number =
    cond (eqb number 0) Choice
    (cond (eqb number 1) Less (cond (eqb number 2) Greater (cond (eqb number 3) AtMost (cond (eqb number 4) AtLeast (cond (eqb number 5) Equal Different)))))

pub op_named_number : (number : ℕ) → number ≤ 6 → op_number (op_named number) ≡ number
unfolding op_named
op_named_number zero h = refl
op_named_number (suc zero) h = refl
op_named_number (suc (suc zero)) h = refl
op_named_number (suc (suc (suc zero))) h = refl
op_named_number (suc (suc (suc (suc zero)))) h = refl
op_named_number (suc (suc (suc (suc (suc zero))))) h = refl
op_named_number (suc (suc (suc (suc (suc (suc zero)))))) h = refl
op_named_number (suc (suc (suc (suc (suc (suc (suc number))))))) h = absurd (omega arith)

pub op_number_named : (op : Op) → op_named (op_number op) ≡ op
unfolding op_named
op_number_named Choice = refl
op_number_named Less = refl
op_number_named Greater = refl
op_number_named AtMost = refl
op_number_named AtLeast = refl
op_number_named Equal = refl
op_number_named Different = refl

-- the op that a word names has the word's number
pub op_word : (z : ℤ) → op_number (op_named (number 6 z)) ≡ number 6 z
op_word z = op_named_number (number 6 z) (number_most 6 z)
