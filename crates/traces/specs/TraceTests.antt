-- Tests 4 and 9 of a trace, in their order. Those of its vertices, 10, 12, 14 and 11, are in Replay, with 14 for what is left over and 13.
use Rattle.std.specs.Prelude.{ℕ, ◌+◌, Bool, ◌&&◌, List, ◌∷◌, ◌++◌, leb, eqb, ℤ, length}
use Rattle.basics.specs.Lists.{listed}
use Rattle.words.specs.Limits.{most_steps, most_entry_values, start_limit}
use Rattle.words.specs.Words.{word, within, small}
use Rattle.words.specs.Tests.{Test, test}
use Rattle.traces.specs.TraceWords.{trace_mark, starts_from, start_place, N, E, starts, entry_values_from, entry_value_place}

module _ (program witness : List ℤ) where
  -- ---- 4: "kind, sizes or total wrong"

  unfoldable pub header_passes : Bool
  header_passes = leb starts_from (length witness)
      && (within trace_mark trace_mark (word witness 0) && (within 1 most_steps (word witness 1) && (within 0 most_entry_values (word witness 2) && eqb (length witness) (entry_values_from program witness + E program witness))))

  -- ---- 9: "start value beyond its limit", and then, "as start values are", an entry value beyond it, whether a call uses it or not

  unfoldable pub start_test : ℕ → Test
  start_test i = test 9 (start_place i) (small start_limit (word witness (start_place i)))

  unfoldable pub entry_value_test : ℕ → Test
  entry_value_test i = test 9 (entry_value_place program witness i) (small start_limit (word witness (entry_value_place program witness i)))

  unfoldable pub trace_tests : List Test
  trace_tests = test 4 0 header_passes ∷ (listed start_test (starts program witness) ++ listed entry_value_test (E program witness))
