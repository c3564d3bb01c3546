-- `write_counts` meets its contract: after i turns the first i counts are there.
use Rattle.std.proofs.Common.{◌≤◌, length, arith, ap, ◌∙◌}
use Rattle.std.proofs.lemmas.List.Edits.{sets}
use Rattle.std.proofs.Math.Seq.{take_all}
use Rattle.certificate_form.specs.EdgeColumns.{entries_is}
use Rattle.layouts.specs.Layout.{count_words}
use Rattle.layouts.proofs.LayoutLaws.{length_counts}
use Rattle.kept_rows.specs.KeptEntries.{trimmed_entries, bytes_are, left_length, counts_next}
use Rattle.kept_rows.proofs.write_counts.Goals as goal

pub loop-i-preserved : goal.loop-i-preserved
loop-i-preserved c program h =
    let a = c.args in
    let i = c.loop-i.i in
    c.store.ensures
    ∙ counts_next program a.certificate.now a.sizes a.kept.now h i (omega (arith, entries_is program a.certificate.now a.sizes h)) a.buffer.now (bytes_are a.kept.now i) c.entry_count-count.ensures.value c.new_number-number.ensures.value (c.loop-i.invariant program h)

pub returns : goal.returns
returns c program h =
    let a = c.args in
    let l = c.loop-i in
    let all = count_words (trimmed_entries program a.certificate.now a.sizes a.kept.now) in
    let many = length_counts (trimmed_entries program a.certificate.now a.sizes a.kept.now) ∙ left_length program a.certificate.now a.sizes a.kept.now h in
    let full : length all ≤ l.i = omega (arith, many, entries_is program a.certificate.now a.sizes h) in
    l.invariant program h ∙ ap (sets a.buffer.now 3) (take_all l.i all full)
