-- An answer, as C gets it.
use Rattle.std.specs.Prelude.{◌≡◌, List, ℕ, ℤ, length}
use Rattle.std.proofs.Common.{ap, ◌∙◌}
use Rattle.words.specs.Tests.{Refusal}
use Rattle.words.specs.Answer.{Answer, safe, trace, refused}
use Rattle.checker.specs.Check.{check, Part, part_of, by_part}
use Rattle.answers.specs.Answers.{answer_of}
use Rattle.answers.specs.declared.Answer as code
use Rattle.leukarion.specs.Promises.{Checked}
use Rattle.outcomes.specs.declared.Outcome.{Outcome}

-- the input that a refusal is about; 0 is neither
abbrev pub part_number : Part → ℕ
part_number part = by_part part 1 2 0

-- a refusal
abbrev pub refused_outcome : Refusal → Outcome
refused_outcome r = record { kind = 3; number = r.number; place = r.place; part = part_number (part_of r.number); line = r.line }

-- no kind is 0
abbrev pub outcome_of : Answer → Outcome
outcome_of (safe count) = record { kind = 1; number = count; place = 0; part = 0; line = 0 }
outcome_of (trace steps) = record { kind = 2; number = steps; place = 0; part = 0; line = 0 }
outcome_of (refused r) = refused_outcome r

-- what `leukarion_check_0_5` in src/lib.rt promises: an answer of which all holds that leukarion/Promises says, told as C gets it
pub record Told (program witness buffer : List ℤ) (told : Outcome) (after : List ℤ) : Type 0 where
  pub answer : code.Answer
  pub tells : told ≡ outcome_of (answer_of answer)
  pub checked : Checked program witness buffer answer after

-- so it is the check's answer, told
pub outcome_is : {program witness buffer after : List ℤ} {told : Outcome} → Told program witness buffer told after → told ≡ outcome_of (check program witness (length buffer))
outcome_is t = t.tells ∙ ap outcome_of t.checked.answer
