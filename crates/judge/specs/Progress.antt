-- The judgement's progress as the code answers it: the next unread word and how many entailments held; or the refusal's reason, the first
-- word of the entailment that it is for, and how many held before.
use Rattle.std.specs.Prelude.{List, ℕ, ◌≤◌, ℤ, length, drop, Result, Ok, Err}
use Rattle.certificates.specs.Judgement.{Progress, running, ended}
use Rattle.answers.specs.Answers.{number_of}
use Rattle.judge.specs.declared.search.Through.{Through}
use Rattle.judge.specs.declared.search.Ended.{Ended}

abbrev pub progress_at : List ℤ → Result Through Ended → Progress
progress_at w (Ok t) = running (drop t.at w) t.held
progress_at w (Err e) = ended (number_of e.reason) (drop e.at w)

abbrev pub InsideWords : List ℤ → Result Through Ended → Type 0
InsideWords w (Ok t) = t.at ≤ length w
InsideWords w (Err e) = e.at ≤ length w

abbrev pub held_in : Result Through Ended → ℕ
held_in (Ok t) = t.held
held_in (Err e) = e.held
