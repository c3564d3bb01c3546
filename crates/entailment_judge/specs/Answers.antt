-- What was read, as the code answers it.
use Rattle.std.specs.Prelude.{Bool, cond, List, ℕ, ◌-◌, ℤ, length, Option, Some, None, Result, Ok, Err}
use Rattle.answers.specs.declared.Reason.{Reason}
use Rattle.answers.specs.declared.Reason.TheVariants.{WitnessWord, WeightedSum}
use Rattle.certificates.specs.Judgement.{Read, got, missing}
use Rattle.entailment_judge.specs.declared.Leaf.{Leaf}

-- the words left, as a place in all the witness's words
abbrev pub after_of : {A : Type 0} → List ℤ → Read A → Option ℕ
after_of w (got a rest) = Some (length w - length rest)
after_of w missing = None

abbrev pub leaf_of : List ℤ → Read Bool → Option Leaf
leaf_of w (got fit rest) = Some (record { fits = fit; next = length w - length rest })
leaf_of w missing = None

abbrev pub verdict_from : Option Leaf → Result ℕ Reason
verdict_from (Some leaf) = cond leaf.fits (Ok leaf.next) (Err WeightedSum)
verdict_from None = Err WitnessWord

abbrev pub verdict_of : List ℤ → Read Bool → Result ℕ Reason
verdict_of w x = verdict_from (leaf_of w x)
