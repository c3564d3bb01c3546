-- Weighted sums of premises in two parts: each part has its own of the weights, and both sums together are the sum of all, because a weighted sum of rows
-- behind others is added to theirs.
use mathlib.Core.Path.{◌≡◌, ap, ◌∙◌}
use mathlib.Core.List.{List, [], ◌∷◌, ◌++◌}
use Prim.Native.Nat.{ℕ, ◌+◌, ◌≤◌}
use native.Mathlib.Omega.{arith}
use lib.IntN.{ℤ}
use lib.ListN.{length, take, drop, length-append, length-drop}
use lib.Seq.{take-add, drop-drop}
use Rattle.rows.specs.Rows.{Row, add, combine}
use Rattle.numbers.specs.Small.{Small}
use Rattle.row_buffers.proofs.AllRows.{all_append}
use Rattle.row_buffers.specs.HeldRows.{held_row, held_rows}
use Rattle.row_buffers.proofs.HeldRows.{length_held}
use Rattle.row_buffers.specs.Entries.{Alike}
use Rattle.row_buffers.specs.Spread.{written}
use Rattle.row_buffers.specs.Naturals.{Natural}
use Rattle.row_buffers.specs.EntryLimits.{weight_limit, disjunct_limit, SmallRow}
use Rattle.row_buffers.specs.FlatRows.{Narrow}
use Rattle.row_buffers.proofs.FlatRows.{narrow_held_rows}
use Rattle.row_buffers.specs.PlacedRows.{placed_rows}
use Rattle.row_buffers.proofs.PlacedRows.{length_placed, placed_small, placed_narrow}
use Rattle.row_buffers.proofs.TwoParts.{first_small, both_summed}
use Rattle.entailment_judge.specs.declared.in_place.Parts.{Parts}
use Rattle.entailment_judge.specs.Parted.{parted_rows, Parted}
use Rattle.entailment_judge.proofs.Words.{Multipliers}
use Rattle.entailment_judge.proofs.Targets.{read_sum}

-- what holds of each number of two lists, one behind the other
small_parts : (b : ℕ) (xs ys : List ℤ) → Small b (xs ++ ys) → Small b xs × Small b ys
unfolding Small
small_parts b [] ys h = (tt, h)
small_parts b (x ∷ xs) ys h = let r = small_parts b xs ys h.1 in ((h.0, r.0), r.1)

natural_parts : (xs ys : List ℤ) → Natural (xs ++ ys) → Natural xs × Natural ys
unfolding Natural
natural_parts [] ys h = (tt, h)
natural_parts (x ∷ xs) ys h = let r = natural_parts xs ys h.1 in ((h.0, r.0), r.1)

-- the weights of each part
pub record Weights (w : List ℤ) (at n : ℕ) : Type 0 where
  pub inside : at + n ≤ length w
  pub small : Small weight_limit (take n (drop at w))
  pub natural : Natural (take n (drop at w))

module _ {w : List ℤ} {at next : ℕ} (own added : ℕ) (k : Multipliers w at (own + added) next) where
  cut : take (own + added) (drop at w) ≡ take own (drop at w) ++ take added (drop (at + own) w)
  cut = take-add own added (drop at w) ∙ ap (λ (l : List ℤ). take own (drop at w) ++ take added l) (drop-drop own at w)

  pub own_weights : Weights w at own
  own_weights =
      record {
        inside = omega (arith, k.inside);
        small = (small_parts weight_limit (take own (drop at w)) (take added (drop (at + own) w)) (rw cut at k.small)).0;
        natural = (natural_parts (take own (drop at w)) (take added (drop (at + own) w)) (rw cut at k.natural)).0;
      }

  pub added_weights : Weights w (at + own) added
  added_weights =
      record {
        inside = omega (arith, k.inside);
        small = (small_parts weight_limit (take own (drop at w)) (take added (drop (at + own) w)) (rw cut at k.small)).1;
        natural = (natural_parts (take own (drop at w)) (take added (drop (at + own) w)) (rw cut at k.natural)).1;
      }

module _ {rows : List ℤ} {places : List ℕ} {n : Parts} {buffer : List ℤ} (p : Parted rows places n buffer) where
  abbrev stored : List Row
  stored = placed_rows n.m rows n.own places

  abbrev filled : List Row
  filled = held_rows n.columns n.added buffer

  many : length stored ≡ n.own
  many = length_placed n.m rows n.own places p.placed.many

  narrow : Narrow n.columns stored
  narrow = placed_narrow p.placed p.wide

  pub length_parted : length (parted_rows rows places n buffer) ≡ n.own + n.added
  length_parted = length-append stored filled ∙ omega (arith, many, length_held n.columns n.added buffer)

  -- the sum of the first part, and of both
  module _ (w : List ℤ) (at : ℕ) (t u : List ℤ) (e : u ≡ written n.columns (combine (take n.own (drop at w)) stored) t) where
    pub own_small : Weights w at n.own → SmallRow disjunct_limit (held_row n.columns u)
    own_small k = first_small n.columns (drop at w) n.own stored narrow many t u e p.placed.few k.small (placed_small p.placed)

    pub parted_sum : at + n.own ≤ length w → (v : List ℤ) → v ≡ written n.columns (add (held_row n.columns u) (combine (take n.added (drop (at + n.own) w)) filled)) u
        → Alike (held_row n.columns v) (combine (take (n.own + n.added) (drop at w)) (parted_rows rows places n buffer))
    parted_sum long v f =
        let g = rw (← drop-drop n.own at w) at f in
        read_sum (all_append narrow (narrow_held_rows n.columns n.added buffer)) (take (n.own + n.added) (drop at w)) v t
        (both_summed n.columns (drop at w) n.own stored narrow many t u e (omega (arith, length-drop at w)) n.added filled v g)
