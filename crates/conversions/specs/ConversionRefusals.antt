-- What the conversions refuse, if and only if, places included: the program's tests (1 to 3); then the tests of the form that is read alone (4, 5, 25,
-- 15), where the program has the form; then, where both have the form, "too little room or a result past 1,000,000 words with 26 at 0".
use Rattle.std.specs.Prelude.{◌≡◌, List, ℕ, ◌≤◌, ℤ}
use Rattle.words.specs.declared.StoredForm.{StoredForm}
use Rattle.words.specs.Tests.{Refusal, Test}
use Rattle.words.specs.Writing.{unwritten, buffer_test}
use Rattle.conversions.specs.Conversions.{other_words, converted}

-- a number that is answered: 1 to 5, 15, 25 or 26
abbrev pub ConversionNumber : Refusal → Type 0
ConversionNumber r = (1 ≤ r.number) × (r.number ≤ 26) × (6 ≤ r.number → 15 ≤ r.number) × (16 ≤ r.number → 25 ≤ r.number)

module _ (program witness : List ℤ) (form : StoredForm) (buffer : ℕ) where
  abbrev pub Refuses : Refusal → Type 0
  Refuses r = converted program witness form buffer ≡ unwritten r

  abbrev pub last : Test
  last = buffer_test (other_words program witness form) buffer
