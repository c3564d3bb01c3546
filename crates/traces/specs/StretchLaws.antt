-- Level stretches and valid paths of a replay, put together as the grammar has it, one law for each production. A call and its return have the
-- same label but for call and ret, since the stretch between them leaves the calls below as they were.
use Rattle.std.proofs.Math.Path.{◌≡◌}
use Prim.Native.Nat.{ℕ, ◌-◌}
use Rattle.std.specs.Prelude.{ℤ, pos}
use Rattle.std.proofs.Math.Option.{some}
use mathlib.Core.List.{List}
use Rattle.programs.specs.Program.{Program}
use Rattle.programs.specs.Moves.{Configuration, move}
use Rattle.programs.specs.Decode as decode
use Rattle.traces.specs.TraceWords.{vertex_word}
use Rattle.traces.specs.Replay.{at, replayed_to}

module _ (program witness : List ℤ) where
  abbrev pub plan : Program
  plan = decode.program program

  -- where the replay stands after i steps, at the vertex that is listed there
  pub record Stands (i : ℕ) (c : Configuration) : Type 0 where
    pub left : List ℤ
    pub came : replayed_to program witness i ≡ at c left
    pub listed : vertex_word program witness i ≡ pos c.top.vertex

  -- ---- a step that the replay made

  -- a move to some vertex
  pub record Moved (c d : Configuration) : Type 0 where
    pub others : List ℤ
    pub vertex : ℕ
    pub moves : move plan c others vertex ≡ some d
