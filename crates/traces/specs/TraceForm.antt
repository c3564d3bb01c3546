-- The form of a trace's words, said in inequalities over ℤ: it holds if and only if tests 4 and 9 pass, and then every word that the replay
-- reads is in range.
use Rattle.std.specs.Prelude.{◌≡◌, List, ℕ, ◌+◌, ◌≤◌, ℤ, pos, length}
use Rattle.words.specs.Limits.{most_steps, most_entry_values, start_limit}
use Rattle.words.specs.Words.{word}
use Rattle.words.specs.Ranges.{Between, Small}
use Rattle.traces.specs.TraceWords.{trace_mark, E, starts, start_place, entry_values_from, entry_value_place}

module _ (program witness : List ℤ) where
  -- mark, sizes and total
  pub record TraceHeader : Type 0 where
    pub header : 3 ≤ length witness
    pub mark : word witness 0 ≡ pos trace_mark
    pub steps : Between (pos 1) (pos most_steps) (word witness 1)
    pub entries : Between (pos 0) (pos most_entry_values) (word witness 2)
    pub total : length witness ≡ entry_values_from program witness + E program witness

  pub record TraceForm : Type 0 where
    pub header : TraceHeader
    pub start_value : (i : ℕ) → 1 ≤ i → i ≤ starts program witness → Small start_limit (word witness (start_place i))
    pub entry_value : (i : ℕ) → 1 ≤ i → i ≤ E program witness → Small start_limit (word witness (entry_value_place program witness i))
