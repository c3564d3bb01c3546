-- The line of a refusal, from the words: "for 3 its row's first word, whatever the kind, if there and in range; for the others", 10 to 12, "that
-- of the vertex being left, if a statement; else 0, as in all other answers". A line comes with the test that fails: those of statements have
-- one, and those of a vertex arrived at; what a replay stands at, and so leaves, is what its run stands at.
use Rattle.std.specs.Prelude.{◌≡◌, List, ℕ, ◌+◌, ◌≤◌, ℤ}
use Rattle.words.specs.Tests.{Refusal}
use Rattle.programs.specs.Lines.{VertexLine}
use Rattle.traces.specs.TraceWords.{vertex_place}
use Rattle.traces.specs.TracedRuns.{Traced}

-- ---- all other answers

-- a refusal whose number isn't one of 3 and 10..=12 has the line 0
abbrev pub NoLine : Refusal → Type 0
NoLine r = (r.number ≡ 3 → ⊥) → (10 ≤ r.number → 13 ≤ r.number) → r.line ≡ 0

module _ (program witness : List ℤ) where
  module _ (buffer : ℕ) (r : Refusal) where
    -- ---- 10 to 12

    -- at the first vertex none is left; at a later one it is the one that the run before it stands at
    pub data LineLeft : Type 0 where
      at_first : r.place ≡ vertex_place program witness 0 → r.line ≡ 0 → LineLeft
      at_later : (i : ℕ) (x : Traced program witness i) → r.place ≡ vertex_place program witness (i + 1) → VertexLine program x.state.top.vertex r.line → LineLeft
