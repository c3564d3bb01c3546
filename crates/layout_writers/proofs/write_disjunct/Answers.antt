-- `write_disjunct` meets its contract: the row count is at most 32, so a word holds it, and its rows come behind it.
use Rattle.std.proofs.Common.{◌≡◌, ◌+◌, ◌≤◌, pos, length, length-set, arith, ◌∙◌, w32, to_z}
use mir.Facts.{to_z_pos}
use Rattle.words.specs.Limits.{most_rows}
use Rattle.words.specs.Words.{word}
use Rattle.words.proofs.Ranges.{number_most}
use Rattle.certificates.specs.CertificateWords.{row_count}
use Rattle.conversions.specs.Conversions.{other_form}
use Rattle.layout_writers.specs.FormCode.{disjunct_length, disjunct_stored}
use Rattle.layout_writers.specs.OtherCode.{rows_other}
use Rattle.layout_writers.proofs.write_disjunct.Goals as goal
use Rattle.layout_writers.proofs.write_disjunct.Goals.{After-row_count-count, After-write_rows-written}

module _ (c : After-row_count-count) where
  few : c.row_count-count.result ≤ most_rows
  few = rw c.row_count-count.ensures (number_most most_rows (word c.args.rows.now c.args.at))

  -- what is to be written fits
  fits : c.args.to + (1 + length (rows_other c.args.form c.args.columns c.args.rows.now (c.args.at + 1) (row_count c.args.rows.now c.args.at))) ≤ length c.args.buffer.now
  fits = let a = c.args in omega (arith, c.requires.at_in_bounds, disjunct_length (other_form a.form) a.form a.columns a.rows.now a.at)

-- what `write_rows` says, of the row count that was read
written : (c : After-write_rows-written) → c.write_rows-written.result ≡ length (rows_other c.args.form c.args.columns c.args.rows.now (c.args.at + 1) (row_count c.args.rows.now c.args.at))
written c = rw c.row_count-count.ensures at c.write_rows-written.ensures.value

pub bounds-buffer-to : goal.bounds-buffer-to
bounds-buffer-to c = omega (arith, fits (goal.at.bounds-buffer-to c).After-row_count-count)

pub write_rows-written-requires-clause-count_in_bounds : goal.write_rows-written-requires-clause-count_in_bounds
write_rows-written-requires-clause-count_in_bounds c =
    rw (length-set, c.row_count-count.ensures) (omega (arith, fits (goal.at.write_rows-written-requires-clause-count_in_bounds c).After-row_count-count))

pub overflow_add-result : goal.overflow_add-result
overflow_add-result c = let g = goal.at.overflow_add-result c in omega (arith, written g.After-write_rows-written, fits g.After-row_count-count)

pub returns-clause-value : goal.returns-clause-value
returns-clause-value c =
    let a = c.args in
    omega (arith, written (goal.at.returns-clause-value c).After-write_rows-written, disjunct_length (other_form a.form) a.form a.columns a.rows.now a.at)

pub returns-clause-buffer_after : goal.returns-clause-buffer_after
returns-clause-buffer_after c =
    let a = c.args in
    let x : to_z w32 c.row_count-count.result ≡ pos c.row_count-count.result = to_z_pos w32 (omega (arith, few (goal.at.returns-clause-buffer_after c).After-row_count-count)) in
    rw (x, c.row_count-count.ensures) at c.write_rows-written.ensures.buffer_after ∙ disjunct_stored (other_form a.form) a.form a.columns a.rows.now a.buffer.now a.at a.to
