-- `write_disjunct` meets its contract: at most 32 rows of at most 66 words and the row count, which are written where they fit.
use Rattle.std.proofs.Common.{◌≡◌, ◌+◌, ◌*◌, ◌≤◌, ℕ, pos, length, length-set, arith, sym, ◌∙◌, w32, to_z}
use mir.Facts.{to_z_pos}
use Rattle.words.specs.Limits.{most_rows}
use Rattle.words.specs.Words.{word}
use Rattle.words.proofs.Ranges.{number_most}
use Rattle.words.specs.declared.StoredForm.TheVariants.{Dense}
use Rattle.certificates.specs.CertificateWords.{row_count}
use Rattle.layout_writers.specs.FormCode.{disjunct_length, disjunct_stored}
use Rattle.kept_rows.specs.KeptCode.{dense_rows, dense_disjunct, rows_length_lem}
use Rattle.kept_rows.proofs.write_disjunct.Goals as goal
use Rattle.kept_rows.proofs.write_disjunct.Goals.{After-row_words}

module _ (c : After-row_words) where
  rows_is : c.row_count-count.result * c.row_words.result ≡ length (dense_rows c.args.form c.args.columns c.args.rows.now (c.args.at + 1) (row_count c.args.rows.now c.args.at))
  rows_is = let a = c.args in rw (c.row_count-count.ensures, c.row_words.ensures) (sym (rows_length_lem a.form a.columns a.rows.now (a.at + 1) (row_count a.rows.now a.at) c.requires.rows_inside))

  -- the sum is the number of words
  sum_is : 1 + c.row_count-count.result * c.row_words.result ≡ length (dense_disjunct c.args.form c.args.columns c.args.rows.now c.args.at)
  sum_is = let a = c.args in omega (arith, rows_is, disjunct_length Dense a.form a.columns a.rows.now a.at)

pub returns-then-buffer-to-clause-value : goal.returns-then-buffer-to-clause-value
returns-then-buffer-to-clause-value c = sum_is (goal.at.returns-then-buffer-to-clause-value c).After-row_words

pub returns-then-buffer-to-clause-buffer_after : goal.returns-then-buffer-to-clause-buffer_after
returns-then-buffer-to-clause-buffer_after c h = absurd (omega (arith, sum_is (goal.at.returns-then-buffer-to-clause-buffer_after c).After-row_words, h, c.if-buffer-to.true))

pub write_dense_rows-requires-clause-count_in_bounds : goal.write_dense_rows-requires-clause-count_in_bounds
write_dense_rows-requires-clause-count_in_bounds c =
    rw (length-set, c.row_count-count.ensures) (omega (arith, rows_is (goal.at.write_dense_rows-requires-clause-count_in_bounds c).After-row_words, c.if-buffer-to.false))

pub returns-clause-value : goal.returns-clause-value
returns-clause-value c = sum_is (goal.at.returns-clause-value c).After-row_words

pub returns-clause-buffer_after : goal.returns-clause-buffer_after
returns-clause-buffer_after c h =
    let a = c.args in
    let n : ℕ = c.row_count-count.result in
    let few : n ≤ most_rows = rw c.row_count-count.ensures (number_most most_rows (word a.rows.now a.at)) in
    let x : to_z w32 n ≡ pos n = to_z_pos w32 (omega (arith, few)) in
    rw (x, c.row_count-count.ensures) at c.write_dense_rows.ensures ∙ disjunct_stored Dense a.form a.columns a.rows.now a.buffer.now a.at a.to
