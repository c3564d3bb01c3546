-- After i turns the first i rows, with the image put in, stand behind the n rows, and the next one stands where these end: a row is written into the part of
-- the buffer behind the rows before, so these are kept.
use Rattle.std.proofs.Common.{◌≡◌, ◌+◌, drop}
use Rattle.words.specs.declared.StoredForm.TheVariants.{Sparse}
use Rattle.words.specs.SparseRows.{sparse_words}
use Rattle.entailments.specs.declared.Image.TheVariants.{Called}
use Rattle.entailments.specs.Meaning.{image_rows}
use Rattle.premises.specs.PushedRows.{pushed_from}
use Rattle.premises.proofs.sparse.push_sparse.Given as goal

abbrev pub invariant-loop-i : goal.invariant-loop-i
invariant-loop-i l = record {
  next : l.place ≡ l.from + sparse_words l.m l.i (drop l.from l.rows);
  is : l.premises ≡ pushed_from Sparse l.columns l.n l.m l.from (image_rows l.words l.s (Called l.at)) l.rows l.fn.premises l.i;
}
