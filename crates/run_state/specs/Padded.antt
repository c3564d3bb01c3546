-- So many numbers, of which the first are given and the others are 0: one more given, more put behind those given, and their limit.
use Rattle.std.specs.Prelude.{◌≡◌, refl, T, leb, ℤ, pos, take, drop, set}
use Rattle.std.proofs.Common.{ap, ◌∙◌, le→leb, length-append, length-take-le}
use mathlib.Core.List.{List, [], ◌∷◌, ◌++◌, append_assoc}
use Prim.Native.Nat.{ℕ, zero, suc, ◌+◌, ◌-◌, ◌≤◌, ◌<◌}
use native.Mathlib.Omega.{arith}
use Rattle.std.proofs.Math.ListN.{length}
use Rattle.std.proofs.Math.Seq.{paste, take-append_seam, drop-append-add}
use Rattle.std.proofs.lemmas.List.{set_at}
use Rattle.basics.proofs.Booleans.{and}
use Rattle.numbers.specs.Small.{Small}
use Rattle.rows.specs.Columns.{zeros}
use Rattle.rows.proofs.Blocks.{length_zeros}
use Rattle.words.specs.Limits.{value_limit}
use Rattle.words.specs.Words.{small}
use Rattle.traces.specs.Replay.{all_values}
use Rattle.traces.proofs.LimitLaws.{values_append}
use Rattle.run_state.specs.Frames.{padded}
use Rattle.run_state.specs.ValueLaws.{values_small}

drop_zeros : (m n : ℕ) → drop m (zeros n) ≡ zeros (n - m)
unfolding zeros
drop_zeros zero n = let e : n ≡ n - 0 = omega arith in ap zeros e
drop_zeros (suc m) zero = let e : 0 ≡ 0 - suc m = omega arith in ap zeros e
drop_zeros (suc m) (suc n) = let e : n - m ≡ suc n - suc m = omega arith in drop_zeros m n ∙ ap zeros e

zeros_within : (limit m : ℕ) → T (all_values limit (zeros m))
unfolding all_values zeros small
zeros_within limit zero = tt
zeros_within limit (suc m) = and (leb 0 limit) (all_values limit (zeros m)) (le→leb 0 limit (omega arith)) (zeros_within limit m)

module _ (m : ℕ) (l : List ℤ) where
  pub next_padded : (x : ℤ) → length l < m → set (padded m l) (length l) x ≡ padded m (l ++ (x ∷ []))
  unfolding zeros
  next_padded x h =
      let e : m - length l ≡ suc (m - (length l + 1)) = omega arith in
      rw (length-append, append_assoc, e) (set_at l (pos 0) (zeros (m - (length l + 1))) x (length l) refl)

  pub length_padded : length l ≤ m → length (padded m l) ≡ m
  length_padded h = length-append l (zeros (m - length l)) ∙ omega (arith, length_zeros (m - length l))

  -- so many more, put behind those given
  pub paste_padded : (more : List ℤ) (n : ℕ) → n ≤ length more → paste (padded m l) (length l) more n ≡ padded m (l ++ take n more)
  paste_padded more n h =
      let e : m - length l - n ≡ m - length (l ++ take n more) = omega (arith, length-append l (take n more), length-take-le n more h) in
      rw (take-append_seam l (zeros (m - length l)), drop-append-add l (zeros (m - length l)) n, drop_zeros n (m - length l), e) refl

  pub small_padded : T (all_values value_limit l) → Small value_limit (padded m l)
  small_padded t = values_small value_limit (padded m l) ((values_append value_limit l (zeros (m - length l))).1 (t, zeros_within value_limit (m - length l)))
