-- What refusals 4 and 9 of a trace say, if and only if, places included: 4 at 0 that its mark, sizes or total are wrong; 9 that these are
-- right and that this is the first value beyond its limit, of the start values and then of the entry values, which have a
-- family of tests each.
use Rattle.std.specs.Prelude.{◌⊎◌, List, ℕ, ◌+◌, ◌≤◌, ℤ}
use Rattle.basics.specs.Lists.{listed}
use Rattle.words.specs.Limits.{start_limit}
use Rattle.words.specs.Words.{word, small}
use Rattle.words.specs.Ranges.{Small}
use Rattle.words.specs.Tests.{Test, test}
use Rattle.words.specs.FirstFailure.{FirstWrong}
use Rattle.traces.specs.TraceWords.{E, starts, entry_value_place}
use Rattle.traces.specs.TraceTests.{header_passes}
use Rattle.traces.specs.TraceForm.{TraceHeader}

module _ (program witness : List ℤ) where
  -- a start value, the i-th, stands at 2 + i
  abbrev pub StartInside : ℕ → Type 0
  StartInside i = Small start_limit (word witness (2 + i))

  abbrev pub EntryInside : ℕ → Type 0
  EntryInside i = Small start_limit (word witness (entry_value_place program witness i))

  -- the start values are inside their limit, and of the entry values the first that isn't stands at the place
  pub record EntryFails (place : ℕ) : Type 0 where
    pub starts : (i : ℕ) → 1 ≤ i → i ≤ starts program witness → StartInside i
    pub first : FirstWrong (E program witness) EntryInside (entry_value_place program witness) place

  -- "start value beyond its limit": "its word"; and an entry value "as start values are"
  pub record ValueFails (place : ℕ) : Type 0 where
    pub header : TraceHeader program witness
    pub first : FirstWrong (starts program witness) StartInside (λ i. 2 + i) place ⊎ EntryFails place

  abbrev pub four : Test
  four = test 4 0 (header_passes program witness)

  abbrev pub start_tests : List Test
  start_tests = listed (λ i. test 9 (2 + i) (small start_limit (word witness (2 + i)))) (starts program witness)

  abbrev pub entry_tests : List Test
  entry_tests = listed (λ i. test 9 (entry_value_place program witness i) (small start_limit (word witness (entry_value_place program witness i)))) (E program witness)
