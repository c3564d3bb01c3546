-- What the answer to a trace says of the replay: it is never safe; it is trace if and only if the replay came to its end, no entry value is
-- left over and the result buffer suffices; and it is a refusal if and only if the replay ended with it, or came to its end and an entry value
-- is left over, or none is and the result buffer is too short.
use Rattle.std.specs.Prelude.{◌≡◌, List, [], ℕ, ◌-◌, ◌≤◌, ◌<◌, ℤ, length}
use Rattle.words.specs.Tests.{Refusal, refusal_at}
use Rattle.programs.specs.Moves.{Configuration, current}
use Rattle.traces.specs.Replay.{Progress, at}

-- the replay came to its end, and entry values are left: the first of them stands so many words before the trace's end
pub record LeftOver (end : ℕ) (s : Progress) (r : Refusal) : Type 0 where
  pub final : Configuration
  pub left : List ℤ
  pub comes : s ≡ at final left
  pub more : 1 ≤ length left
  pub refuses : r ≡ refusal_at 14 (end - length left)

-- it came to its end and none is left, and the result buffer is too short
pub record Short (buffer : ℕ) (s : Progress) (r : Refusal) : Type 0 where
  pub final : Configuration
  pub comes : s ≡ at final []
  pub refuses : r ≡ refusal_at 13 (length (current final))
  pub short : buffer < length (current final)
