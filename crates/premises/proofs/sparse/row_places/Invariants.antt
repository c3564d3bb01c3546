-- After j turns the table has the places of the first j rows, and the next row stands where these end.
use Rattle.std.proofs.Common.{◌≡◌, ◌+◌, drop}
use Rattle.words.specs.SparseRows.{sparse_rows_of, sparse_words}
use Rattle.row_buffers.specs.PlacedRows.{PlacedHere, placed_rows}
use Rattle.premises.proofs.sparse.row_places.Given as goal

abbrev pub invariant-loop-j : goal.invariant-loop-j
invariant-loop-j l = record {
  next : l.place ≡ l.from + sparse_words l.m l.j (drop l.from l.rows);
  stand : PlacedHere l.m l.rows l.j l.places;
  same : placed_rows l.m l.rows l.j l.places ≡ sparse_rows_of l.m l.j (drop l.from l.rows);
}
