-- `trim_selected` meets its contract: the sum is the number of words, so where it is too large 26 is the refusal, and else the words are written.
use Rattle.std.proofs.Common.{◌≡◌, ◌+◌, length, arith, ap, ◌∙◌}
use Rattle.words.specs.Tests.{refusal_at}
use Rattle.words.specs.Writing.{Fits}
use Rattle.trimmed_words.specs.Trim.{trimmed_words}
use Rattle.layout_writers.specs.Given.{many}
use Rattle.layout_writers.specs.Answered.{refused_both, written_both}
use Rattle.trimmer.specs.Selected.{parts_in}
use Rattle.trimmer.specs.TrimOutcomes.{unfit, all_written, trimmed_length, whole_stored}
use Rattle.trimmer.proofs.trim_selected.Goals as goal
use Rattle.trimmer.proofs.trim_selected.Goals.{After-witnesses_size-words}

-- the sum is the number of words
sum_is : (c : After-witnesses_size-words) → c.rows_start-start.result + c.entries_size-size.result + c.witnesses_size-words.result ≡ length (trimmed_words c.args.program.now c.args.certificate.now)
sum_is c = omega (arith, c.rows_start-start.ensures, many c.requires.selected.known.given, c.entries_size-size.ensures.value, c.witnesses_size-words.ensures.value, trimmed_length c.requires.selected)

pub returns-then-total-gt-MOST_WORDS : goal.returns-then-total-gt-MOST_WORDS
returns-then-total-gt-MOST_WORDS c =
    let a = c.args in
    let k = c.requires.selected.known in
    let e = sum_is (goal.at.returns-then-total-gt-MOST_WORDS c).After-witnesses_size-words in
    let (value, after) = refused_both a.buffer.now (refusal_at 26 0) (unfit a.program.now a.certificate.now (length a.buffer.now) k.count k.accepted (λ x. omega (arith, e, c.if-total-gt-MOST_WORDS.true, x.short))) in
    record { value = rw c.at-refusal.ensures value; buffer_after = after }

pub returns-then-buffer-total : goal.returns-then-buffer-total
returns-then-buffer-total c =
    let a = c.args in
    let k = c.requires.selected.known in
    let e = sum_is (goal.at.returns-then-buffer-total c).After-witnesses_size-words in
    let (value, after) = refused_both a.buffer.now (refusal_at 26 0) (unfit a.program.now a.certificate.now (length a.buffer.now) k.count k.accepted (λ x. omega (arith, e, c.if-buffer-total.true, x.fits))) in
    record { value = rw c.at-refusal.ensures value; buffer_after = after }

pub returns : goal.returns
returns c =
    let a = c.args in
    let s = c.requires.selected in
    let e = sum_is (goal.at.returns c).After-witnesses_size-words in
    let x : Fits (trimmed_words a.program.now a.certificate.now) (length a.buffer.now) = record { short = omega (arith, e); fits = omega (arith, e) } in
    let stored = c.write_parts.ensures ∙ (ap (parts_in a.program.now a.certificate.now a.sizes a.kept.now) c.write_header.ensures ∙ whole_stored s a.buffer.now x.fits c.entries_size-size.ensures.value c.witnesses_size-words.ensures.value) in
    let (value, after) = written_both a.buffer.now e stored (all_written a.program.now a.certificate.now (length a.buffer.now) s.known.count s.known.accepted x) in
    record { value = value; buffer_after = after }
