-- After i turns the first i rows, with the image put in, stand behind the n rows: a row is written into the part of the buffer behind the rows before,
-- so these are kept.
use Rattle.std.proofs.Common.{◌≡◌}
use Rattle.words.specs.declared.StoredForm.TheVariants.{Dense}
use Rattle.entailments.specs.declared.Image.TheVariants.{Called}
use Rattle.entailments.specs.Meaning.{image_rows}
use Rattle.premises.specs.PushedRows.{pushed_from}
use Rattle.premises.proofs.push_dense.Given as goal

abbrev pub invariant-loop-i : goal.invariant-loop-i
invariant-loop-i l = l.premises ≡ pushed_from Dense l.columns l.n l.m l.from (image_rows l.words l.s (Called l.at)) l.rows l.fn.premises l.i
