-- A replay read by the report's grammar (document 02, CR 10): the labels of its steps, the returns that are still to come, and the stretches of
-- its steps that M and V generate.
use Rattle.std.specs.Prelude.{◌≡◌, ℕ, zero, suc, ◌+◌, ◌-◌, ◌≤◌, List, [], ◌∷◌, ℤ, pos, negsuc}
use Rattle.programs.specs.Program.{Program}
use Rattle.programs.specs.Moves.{Configuration}
use Rattle.programs.specs.ValidPaths.{Label, σ, Level, Valid}
use Rattle.programs.specs.MoveLabels.{Turn, stays, calls, returns, turn_at, label_from}
use Rattle.programs.specs.Decode as decode
use Rattle.traces.specs.TraceWords.{N, vertex_word}
use Rattle.traces.specs.Replay.{Progress, at, ended, replayed_to}

-- ---- the returns that are still to come

-- The returns from a step on whose calls were made before it, from those behind the step: a call's own return isn't one of them, a return is.
unfoldable pub with_turn : Turn → ℕ → ℕ
with_turn stays m = m
with_turn calls m = m - 1
with_turn returns m = m + 1

-- the vertex of a word; 0 for one that lists none
abbrev pub listed_at : ℤ → ℕ
listed_at (pos v) = v
listed_at (negsuc v) = 0

-- ---- labels

-- the label of a step from where the replay stands
unfoldable pub label_in : Program → Progress → Label
label_in p (at c left) = label_from p c
label_in p (ended r) = σ

module _ (program witness : List ℤ) where
  -- over m steps after i others
  unfoldable pub returns_in : ℕ → ℕ → ℕ
  returns_in i zero = 0
  returns_in i (suc m) = with_turn (turn_at (decode.program program) (listed_at (vertex_word program witness i))) (returns_in (i + 1) m)

  -- to the trace's end: a call, the step after i others, comes back if and only if there is one from i + 1 on
  abbrev pub returns_from : ℕ → ℕ
  returns_from i = returns_in i (N program witness - i)

  -- the label of the step after i others
  unfoldable pub label_at : ℕ → Label
  label_at i = label_in (decode.program program) (replayed_to program witness i)

  -- those of m steps after i others
  unfoldable pub labels_over : ℕ → ℕ → List Label
  labels_over i zero = []
  labels_over i (suc m) = label_at i ∷ labels_over (i + 1) m

  -- from i steps to j
  abbrev pub labels_to : ℕ → ℕ → List Label
  labels_to i j = labels_over i (j - i)

  -- M, from c after i steps to d after j: "a level stretch holds calls with level stretches inside". The calls below stay, and so do the returns
  -- that are still to come.
  pub record LevelTo (i j : ℕ) (c d : Configuration) : Type 0 where
    pub more : i ≤ j
    pub known : j ≤ N program witness
    pub level : Level (labels_to i j)
    pub below : d.below ≡ c.below
    pub due : returns_from i ≡ returns_from j

  -- V: "a valid path is level stretches and unmatched calls"
  pub record ValidTo (i j : ℕ) : Type 0 where
    pub more : i ≤ j
    pub valid : Valid (labels_to i j)
