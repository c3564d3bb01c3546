-- `convert_tested` meets its contract: the sum is the number of words in the other form, so where it is too large 26 is the refusal, and else the words
-- are written.
use Rattle.std.proofs.Common.{◌≡◌, ◌+◌, ◌-◌, length, arith}
use Rattle.words.specs.Tests.{refusal_at}
use Rattle.conversions.specs.Conversions.{other_words}
use Rattle.conversions.specs.RoundTrips.{Fits}
use Rattle.layout_writers.specs.Given.{many}
use Rattle.layout_writers.specs.Answered.{refused_both, written_both}
use Rattle.converters.specs.Outcomes.{unfit, all_written}
use Rattle.converters.specs.WholeWords.{other_length, parts_at}
use Rattle.converters.proofs.convert_tested.Goals as goal
use Rattle.converters.proofs.convert_tested.Goals.{After-entries_size-size, Else-buffer-total}

pub overflow_sub-words : goal.overflow_sub-words
overflow_sub-words c = (parts_at c.requires.given c.rows_start-start.ensures).inside

-- the sum is the number of words in the other form
sum_is : (c : After-entries_size-size) → let count = c.args.sizes.statements + c.args.sizes.procedures + c.args.sizes.procedures in
    3 + count + count + c.entries_size-size.result + (length c.args.certificate.now - (c.rows_start-start.result + length c.args.rows.now)) ≡ length (other_words c.args.program.now c.args.certificate.now c.args.form)
sum_is c =
    let a = c.args in
    omega (arith, many c.requires.given, (parts_at c.requires.given c.rows_start-start.ensures).rest, c.entries_size-size.ensures.value, other_length a.program.now a.certificate.now a.form c.requires.given.formed)

pub returns-then-total-gt-MOST_WORDS : goal.returns-then-total-gt-MOST_WORDS
returns-then-total-gt-MOST_WORDS c =
    let a = c.args in
    let e = sum_is (goal.at.returns-then-total-gt-MOST_WORDS c).After-entries_size-size in
    let (value, after) = refused_both a.buffer.now (refusal_at 26 0)
    (unfit a.program.now a.certificate.now a.form (length a.buffer.now) c.requires.program_form c.requires.given.formed (λ x. omega (arith, e, c.if-total-gt-MOST_WORDS.true, x.short))) in
    record { value = rw c.at-refusal.ensures value; buffer_after = after }

pub returns-then-buffer-total : goal.returns-then-buffer-total
returns-then-buffer-total c =
    let a = c.args in
    let e = sum_is (goal.at.returns-then-buffer-total c).After-entries_size-size in
    let (value, after) = refused_both a.buffer.now (refusal_at 26 0)
    (unfit a.program.now a.certificate.now a.form (length a.buffer.now) c.requires.program_form c.requires.given.formed (λ x. omega (arith, e, c.if-buffer-total.true, x.fits))) in
    record { value = rw c.at-refusal.ensures value; buffer_after = after }

pub write_all-requires-clause-fits : goal.write_all-requires-clause-fits
write_all-requires-clause-fits c =
    let e = sum_is (goal.at.write_all-requires-clause-fits c).After-entries_size-size in
    record { short = omega (arith, e); fits = omega (arith, e) }

pub returns : goal.returns
returns c =
    let a = c.args in
    let e = sum_is (goal.at.returns c).After-entries_size-size in
    let enough : Fits a.program.now a.certificate.now a.form (length a.buffer.now) = record { short = omega (arith, e); fits = omega (arith, e) } in
    let (value, after) = written_both a.buffer.now (omega (arith, e)) c.write_all.ensures (all_written a.program.now a.certificate.now a.form (length a.buffer.now) c.requires.program_form c.requires.given.formed enough) in
    record { value = value; buffer_after = after }
