-- Document 01's numbers and values for each case of an answer that the code gives.
use Rattle.std.specs.Prelude.{◌≡◌, refl, ℕ, Result, Ok, Err}
use Rattle.std.proofs.Common.{sym, ap, ◌∙◌}
use Rattle.words.specs.Tests as tests
use Rattle.words.specs.Answer as answers
use Rattle.answers.specs.declared.Answer.{Answer}
use Rattle.answers.specs.declared.Answer.TheVariants.{Safe, Trace, Refused}
use Rattle.answers.specs.declared.Reason.{Reason}
use Rattle.answers.specs.declared.Reason.TheVariants as reason
use Rattle.answers.specs.declared.Refusal.{Refusal}

-- "Why a sheet is turned down": the table's numbers, with those of document 02's requests 2, 3, 9 and 11
abbrev pub number_of : Reason → ℕ
number_of reason.ProgramSizes = 1
number_of reason.ExitRow = 2
number_of reason.StatementRow = 3
number_of reason.Header = 4
number_of reason.Entry = 5
number_of reason.WitnessWord = 6
number_of reason.WeightedSum = 7
number_of reason.WordsLeft = 8
number_of reason.StartValue = 9
number_of reason.ListedVertex = 10
number_of reason.ValueLimit = 11
number_of reason.CallDepth = 12
number_of reason.BufferLength = 13
number_of reason.EntryValues = 14
number_of reason.ConstantRow = 15
number_of reason.SparseRow = 25
number_of reason.ResultLength = 26

abbrev pub refusal_of : Refusal → tests.Refusal
refusal_of r = record { number = r.number; place = r.place; line = r.line }

abbrev pub answer_of : Answer → answers.Answer
answer_of (Safe count) = answers.safe count
answer_of (Trace steps) = answers.trace steps
answer_of (Refused r) = answers.refused (refusal_of r)

-- what a test or a writer gives, with document 01's refusal
abbrev pub told : {A : Type 0} → Result A Refusal → Result A tests.Refusal
told (Ok a) = Ok a
told (Err r) = Err (refusal_of r)

-- two that are told alike are alike
abbrev told_back : {A : Type 0} → Result A tests.Refusal → Result A Refusal
told_back (Ok a) = Ok a
told_back (Err q) = Err (record { number = q.number; place = q.place; line = q.line })

told_again : {A : Type 0} (r : Result A Refusal) → told_back (told r) ≡ r
told_again (Ok a) = refl
told_again (Err q) = refl

pub same_told : {A : Type 0} (r s : Result A Refusal) → told r ≡ told s → r ≡ s
same_told r s e = sym (told_again r) ∙ (ap told_back e ∙ told_again s)
