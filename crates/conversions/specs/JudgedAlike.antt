-- "Both forms are judged alike but for places": words in two forms with equal disjuncts and witness words are both safe, with one count, or both
-- refused with 6, 7 or 8 as far behind the first witness word. For what is judged, entailments and witness words, is the same, and the places count
-- from the end of the words, to which the witness words reach.
use Rattle.std.specs.Prelude.{ℕ, ◌+◌, ◌-◌, ◌≤◌}
use Rattle.words.specs.Answer.{Answer, safe, refuse}
use Rattle.programs.specs.Decode as decode

-- two answers; a refusal's place is as many words behind `start` as behind `other`
pub data AlikeButPlaces (start other : ℕ) : Answer → Answer → Type 0 where
  both_safe : (count : ℕ) → AlikeButPlaces start other (safe count) (safe count)
  both_refused : (number further : ℕ) → 6 ≤ number → number ≤ 8 → AlikeButPlaces start other (refuse number (start + further)) (refuse number (other + further))
