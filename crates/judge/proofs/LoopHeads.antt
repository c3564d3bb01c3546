-- Where the search stands at the head of each of its loops: all of what it has judged has held.
use mathlib.Core.Path.{◌≡◌, sym}
use mathlib.Core.List.{List}
use Prim.Native.Nat.{ℕ, ◌≤◌}
use lib.IntN.{ℤ}
use lib.ListN.{length, drop}
use Rattle.std.specs.Prelude.{Result, Ok}
use Rattle.certificates.specs.Entailments.{Entailment}
use Rattle.certificates.specs.Judgement.{running, judge}
use Rattle.judge.specs.CountSoFar.{count_so_far, count_through}
use Rattle.judge.specs.Progress.{progress_at, InsideWords, held_in}
use Rattle.judge.specs.declared.search.Through.{Through}
use Rattle.judge.specs.declared.search.Ended.{Ended}

-- the entailments so far, judged from where the loop began, have held, and there are at most so many of them
pub record Standing (judgedSoFar : List Entailment) (w : List ℤ) (at₀ held₀ most : ℕ) (out : Result Through Ended) (at held : ℕ) : Type 0 where
  pub through : out ≡ Ok (record { at = at; held = held })
  pub inside : at ≤ length w
  pub few : held ≤ most
  pub done : judge judgedSoFar (running (drop at₀ w) held₀) ≡ running (drop at w) held

-- what the search then answers
pub standing_answer : {es : List Entailment} {w : List ℤ} {at₀ held₀ most : ℕ} {out : Result Through Ended} {at held : ℕ} → Standing es w at₀ held₀ most out at held
    → (progress_at w out ≡ judge es (running (drop at₀ w) held₀)) × (InsideWords w out × (held_in out ≡ count_so_far es (running (drop at₀ w) held₀) held₀))
standing_answer {es} {w} {at₀} {held₀} {at = at} {held = held} s = rw s.through (sym s.done, (s.inside, sym (count_through es (drop at₀ w) (drop at w) held₀ held s.done)))
