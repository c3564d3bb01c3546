-- `write_parts` meets its contract: counts, places, row words and witness words are stored, each where those before it end.
use Rattle.std.proofs.Common.{◌≡◌, ℕ, ◌+◌, ◌-◌, ◌≤◌, length, take, drop, length-take, length-drop, arith, ◌∙◌}
use Rattle.words.specs.declared.StoredForm.TheVariants.{Dense}
use Rattle.certificates.specs.CertificateWords.{start_of, entries}
use Rattle.layouts.specs.Layout.{entries_code}
use Rattle.layout_writers.specs.Given.{many}
use Rattle.kept_rows.specs.KeptEntries.{trimmed_entries}
use Rattle.kept_witnesses.specs.PassLaws.{words_left}
use Rattle.trimmer.specs.TrimOutcomes.{parts_stored, part_stored}
use Rattle.trimmer.proofs.write_parts.Goals as goal

pub returns : goal.returns
returns c =
    let a = c.args in
    let s = c.requires.selected in
    let w = c.write_entries-size in
    let x = c.write_witnesses-words in
    let k = c.write_counts.auto.buffer in
    let one = c.write_counts.ensures a.program.now s.known.given.header in
    let two = w.ensures.buffer_after (omega (arith, k, c.requires.kept_in_bounds)) in
    let after = w.new.buffer in
    let long = w.auto.buffer in
    let end : ℕ = c.rows_start.result + w.result in
    let ends : end ≡ start_of (entries a.program.now a.certificate.now) + length (entries_code Dense (trimmed_entries a.program.now a.certificate.now a.sizes a.kept.now)) = omega (arith, c.rows_start.ensures, many s.known.given, w.ensures.value) in
    let left = words_left a.program.now a.certificate.now a.sizes a.kept.now in
    let fits : end + length left ≤ length after = omega (arith, ends, k, long, c.requires.kept_in_bounds) in
    let inside : x.result ≤ length (take (length after - end) (drop end after)) = omega (arith, x.ensures.value, fits, length-take (length after - end) (drop end after), length-drop end after) in
    part_stored after left x.new.buffer end fits (x.ensures.buffer_after inside) ∙ parts_stored s a.buffer.now one two ends
