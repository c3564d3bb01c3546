-- The rows of an entailment's disjunct, left where they stand: a table has their places.
use Rattle.std.specs.Prelude.{◌≡◌, List, ℕ, ◌+◌, ℤ, drop}
use Rattle.words.specs.StoredRows.{rows_in}
use Rattle.row_buffers.specs.PlacedRows.{PlacedHere, placed_rows}
use Rattle.entailments.specs.declared.Entailment.{Entailment}

pub record DisjunctPlaced (rows : List ℤ) (e : Entailment) (places : List ℕ) : Type 0 where
  pub stand : PlacedHere (e.shape.k + e.shape.k) rows e.n places
  pub same : placed_rows (e.shape.k + e.shape.k) rows e.n places ≡ rows_in e.form (e.shape.k + e.shape.k) e.n (drop e.from rows)
