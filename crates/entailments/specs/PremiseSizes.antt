-- The sizes of the premises of an entailment, from its form: they are the rows of two disjuncts at most, and no entry is larger than that of a
-- summary's row with its image put in. Of such a row the parameters alone become expressions, so it is counted by blocks.
use Rattle.std.specs.Prelude.{List, ℕ, ◌+◌, ℤ, drop}
use Rattle.rows.specs.Rows.{Row}
use Rattle.words.specs.declared.StoredForm.{StoredForm}
use Rattle.words.specs.StoredRows.{rows_in}
use Rattle.certificate_readers.specs.Disjuncts.{DisjunctHere}
use Rattle.entailments.specs.Forms.{ShapeForm}
use Rattle.entailments.specs.declared.Shape.{Shape}

module _ (words : List ℤ) (form : StoredForm) (rows : List ℤ) {s : Shape} (shape : ShapeForm s) (columns from n : ℕ) (here : DisjunctHere form (s.k + s.k) rows from n) where
  abbrev pub disjunct : List Row
  disjunct = rows_in form (s.k + s.k) n (drop from rows)
