-- By the form of the rows.
use Rattle.std.proofs.Common.{List, ℤ, ℕ, ◌+◌, ◌*◌, ◌≤◌, length}
use Rattle.words.specs.declared.StoredForm.TheVariants.{Dense}
use Rattle.words.specs.RowWords.{row_size}
use Rattle.certificate_readers.specs.Disjuncts.{DisjunctHere}
use Rattle.premises.proofs.copy_rows.Goals as goal

inside_dense : {m : ℕ} {rows : List ℤ} {from n : ℕ} → DisjunctHere Dense m rows from n → from + n * row_size m ≤ length rows
inside_dense h = h.stand.inside

pub copy_dense-requires : goal.copy_dense-requires
copy_dense-requires c = let p = c.requires in record { m_in_bounds = inside_dense (rw c.in-Dense.is at p.disjunct_here); m_le_columns = p.m_le_columns; capacity = p.capacity }

pub spread_rows-requires : goal.spread_rows-requires
spread_rows-requires c = let p = c.requires in record { disjunct_here = rw c.in-Sparse.is at p.disjunct_here; m_le_columns = p.m_le_columns; capacity = p.capacity }

pub returns-in-Dense : goal.returns-in-Dense
returns-in-Dense c = rw c.in-Dense.is c.copy_dense.ensures

pub returns-in-Sparse : goal.returns-in-Sparse
returns-in-Sparse c = rw c.in-Sparse.is c.spread_rows.ensures
