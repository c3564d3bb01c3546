-- `write_all` meets its contract: the parts are stored one behind the other, so the words stand at the buffer's front.
use Rattle.std.proofs.Common.{◌≡◌, ◌+◌, ◌-◌, ◌≤◌, pos, length, arith, rules, refl, ◌∙◌, w32, SFits, to_z, of_z, to_z-of_z}
use Rattle.words.specs.Limits.{most_words}
use Rattle.certificates.specs.CertificateWords.{mark_of}
use Rattle.conversions.specs.Conversions.{other_form}
use Rattle.layout_writers.specs.Given.{many}
use Rattle.converters.specs.WholeWords.{other_length, all_stored, PartsAt, parts_at}
use Rattle.converters.proofs.write_all.Goals as goal
use Rattle.converters.proofs.write_all.Goals.{After-rows_start-start, After-other_mark-mark}

module _ (c : After-rows_start-start) where
  parts : PartsAt c.args.program.now c.args.certificate.now c.rows_start-start.result (length c.args.rows.now)
  parts = parts_at c.requires.given c.rows_start-start.ensures

  -- all words fit
  long : c.rows_start-start.result + c.args.size + (length c.args.certificate.now - (c.rows_start-start.result + length c.args.rows.now)) ≤ length c.args.buffer.now
  long =
      let a = c.args in
      omega (arith, parts.starts, parts.rest, c.requires.size_value, c.requires.fits.fits, other_length a.program.now a.certificate.now a.form c.requires.given.formed)

  few : c.args.size + (length c.args.certificate.now - (c.rows_start-start.result + length c.args.rows.now)) ≤ most_words
  few =
      let a = c.args in
      omega (arith, parts.rest, c.requires.size_value, c.requires.fits.short, other_length a.program.now a.certificate.now a.form c.requires.given.formed)

mark : (c : After-other_mark-mark) → to_z w32 (of_z w32 c.other_mark-mark.result) ≡ pos (mark_of (other_form c.args.form))
mark c = let f : SFits w32 c.other_mark-mark.result = search rules in to_z-of_z f ∙ c.other_mark-mark.ensures

pub overflow_sub-words : goal.overflow_sub-words
overflow_sub-words c = (parts (goal.at.overflow_sub-words c).After-rows_start-start).inside

pub write_header-requires-clause-rows_le_most_words : goal.write_header-requires-clause-rows_le_most_words
write_header-requires-clause-rows_le_most_words c = omega (arith, few (goal.at.write_header-requires-clause-rows_le_most_words c).After-rows_start-start)

pub write_header-requires-clause-in_bounds : goal.write_header-requires-clause-in_bounds
write_header-requires-clause-in_bounds c =
    let r = (goal.at.write_header-requires-clause-in_bounds c).After-rows_start-start in
    omega (arith, long r, (parts r).starts)

pub copy_words-requires-clause-count_in_bounds_2 : goal.copy_words-requires-clause-count_in_bounds_2
copy_words-requires-clause-count_in_bounds_2 c =
    let r = (goal.at.copy_words-requires-clause-count_in_bounds_2 c).After-rows_start-start in
    omega (arith, long r, (parts r).starts, many c.requires.given, c.write_header.auto.buffer)

pub write_entries-requires-clause-form_len_bound : goal.write_entries-requires-clause-form_len_bound
write_entries-requires-clause-form_len_bound c = omega (arith, few (goal.at.write_entries-requires-clause-form_len_bound c).After-rows_start-start, c.requires.size_value)

pub write_entries-requires-clause-form_in_bounds : goal.write_entries-requires-clause-form_in_bounds
write_entries-requires-clause-form_in_bounds c =
    let r = (goal.at.write_entries-requires-clause-form_in_bounds c).After-rows_start-start in
    omega (arith, long r, (parts r).starts, c.requires.size_value, c.write_header.auto.buffer, c.copy_words.auto.buffer)

pub overflow_add-start : goal.overflow_add-start
overflow_add-start c =
    let r = (goal.at.overflow_add-start c).After-rows_start-start in
    let h = c.requires.given.header in
    omega (arith, (parts r).starts, few r, h.few_statements, h.few_procedures, many c.requires.given)

pub copy_words-requires-2-clause-count_in_bounds : goal.copy_words-requires-2-clause-count_in_bounds
copy_words-requires-2-clause-count_in_bounds c = omega (arith, (parts (goal.at.copy_words-requires-2-clause-count_in_bounds c).After-rows_start-start).inside)

pub copy_words-requires-2-clause-count_in_bounds_2 : goal.copy_words-requires-2-clause-count_in_bounds_2
copy_words-requires-2-clause-count_in_bounds_2 c =
    omega (arith, long (goal.at.copy_words-requires-2-clause-count_in_bounds_2 c).After-rows_start-start, c.write_header.auto.buffer, c.copy_words.auto.buffer, c.write_entries.auto.buffer)

pub returns : goal.returns
returns c =
    let g = goal.at.returns c in
    let a = c.args in
    let p = parts g.After-rows_start-start in
    all_stored a.program.now a.certificate.now a.form c.requires.given.formed a.buffer.now c.requires.fits.fits (many c.requires.given) p.starts c.requires.size_value p.read refl
    (rw (mark g.After-other_mark-mark) at c.write_header.ensures) c.copy_words.ensures c.write_entries.ensures c.copy_words-2.ensures
