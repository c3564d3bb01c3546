-- `write_entries` meets its contract: after i turns the places and the words of i entries are written, and the next one begins at `at`.
use Rattle.std.proofs.Common.{◌≡◌, ◌+◌, ◌≤◌, ◌<◌, List, ◌∷◌, ℤ, ℕ, pos, length, length-set, arith, ap, ◌∙◌, w32, to_z}
use mir.Facts.{to_z_pos}
use Rattle.words.specs.Limits.{most_words}
use Rattle.certificates.specs.CertificateWords as words
use Rattle.layout_writers.specs.Given.{many, entry_stands}
use Rattle.layout_writers.specs.OtherCode.{disjuncts_other}
use Rattle.converters.specs.OtherEntries.{entries_other, places_other, entries_none, places_none, places_length, entries_next, places_next}
use Rattle.layout_writers.specs.Runs.{Cut, none_placed, placed_fits, placed_ends, placed_next, all_placed}
use Rattle.converters.proofs.writers.write_entries.Goals as goal
use Rattle.converters.proofs.writers.write_entries.Goals.{After-rows_start-start, After-entry_place-place}

starts : (c : After-rows_start-start) → c.rows_start-start.result ≡ words.start_of (words.entries c.args.program.now c.args.certificate.now)
starts c = c.rows_start-start.ensures ∙ ap words.start_of (many c.requires.given)

pub loop-i-init : goal.loop-i-init
loop-i-init c =
    let a = c.args in
    none_placed a.buffer.now (3 + (a.sizes.statements + a.sizes.procedures + a.sizes.procedures)) c.rows_start-start.result (places_other a.program.now a.certificate.now a.form 0 0) (entries_other a.program.now a.certificate.now a.form 0)
    (omega (arith, c.rows_start-start.ensures, many c.requires.given, places_length a.program.now a.certificate.now a.form 0 0))

-- the entry at hand, as it was read
module _ (c : After-entry_place-place) where
  abbrev part : List ℤ
  part = disjuncts_other c.args.form c.edge_columns-columns.result c.args.rows.now c.entry_place-place.result c.entry_count-count.result

  less : c.loop-i.i < words.entries c.args.program.now c.args.certificate.now
  less = omega (arith, many c.requires.given, c.loop-i-test.true)

  words_next : Cut (entries_other c.args.program.now c.args.certificate.now c.args.form c.loop-i.i) part (entries_other c.args.program.now c.args.certificate.now c.args.form (c.loop-i.i + 1))
  words_next =
      let a = c.args in
      let g = c.requires.given in
      entries_next a.program.now a.certificate.now a.form c.loop-i.i less g.row_words (c.edge_columns-columns.ensures.value a.certificate.now) c.entry_count-count.ensures.value (many g) c.entry_place-place.ensures.value

  next_places : {size : ℕ} → size ≡ length part → places_other c.args.program.now c.args.certificate.now c.args.form c.loop-i.i c.loop-i.at
      ≡ pos c.loop-i.at ∷ places_other c.args.program.now c.args.certificate.now c.args.form (c.loop-i.i + 1) (c.loop-i.at + size)
  next_places e =
      let a = c.args in
      let g = c.requires.given in
      places_next a.program.now a.certificate.now a.form c.loop-i.i less g.row_words (c.edge_columns-columns.ensures.value a.certificate.now) c.entry_count-count.ensures.value (many g) c.entry_place-place.ensures.value c.loop-i.at e

  -- the words of all entries fit behind `start`
  fits : c.rows_start-start.result + c.loop-i.at + length part ≤ length c.loop-i.buffer
  fits = placed_fits c.loop-i.invariant words_next (omega (arith, c.rows_start-start.ensures, ap words.start_of (many c.requires.given), c.requires.form_in_bounds))

  -- it ends below the limit of a place, too
  ends : c.loop-i.at + length part ≤ most_words
  ends = omega (arith, placed_ends c.loop-i.invariant words_next, c.requires.form_len_bound)

pub write_disjuncts-written-requires-clause-disjuncts_form : goal.write_disjuncts-written-requires-clause-disjuncts_form
write_disjuncts-written-requires-clause-disjuncts_form c =
    let a = c.args in
    let g = c.requires.given in
    entry_stands a.program.now a.certificate.now a.form c.loop-i.i (less (goal.at.write_disjuncts-written-requires-clause-disjuncts_form c).After-entry_place-place) g.row_words (c.edge_columns-columns.ensures.value a.certificate.now) c.entry_count-count.ensures.value (many g) c.entry_place-place.ensures.value g.formed

pub write_disjuncts-written-requires-clause-count_in_bounds : goal.write_disjuncts-written-requires-clause-count_in_bounds
write_disjuncts-written-requires-clause-count_in_bounds c = simp length-set (fits (goal.at.write_disjuncts-written-requires-clause-count_in_bounds c).After-entry_place-place)

pub overflow_add-at : goal.overflow_add-at
overflow_add-at c = omega (arith, ends (goal.at.overflow_add-at c).After-entry_place-place, c.write_disjuncts-written.ensures.value)

pub loop-i-preserved : goal.loop-i-preserved
loop-i-preserved c =
    let p = (goal.at.loop-i-preserved c).After-entry_place-place in
    let x : to_z w32 c.loop-i.at ≡ pos c.loop-i.at = to_z_pos w32 (omega (arith, ends p)) in
    placed_next c.loop-i.invariant (next_places p c.write_disjuncts-written.ensures.value) (words_next p) c.write_disjuncts-written.ensures.value (rw x at c.write_disjuncts-written.ensures.buffer_after)

pub returns : goal.returns
returns c =
    let a = c.args in
    let l = c.loop-i in
    let m = many c.requires.given in
    let e : l.i ≡ words.entries a.program.now a.certificate.now = omega (arith, m) in
    rw (m, starts (goal.at.returns c).After-rows_start-start) at (all_placed l.invariant (rw e (places_none a.program.now a.certificate.now a.form l.at)) (rw e (entries_none a.program.now a.certificate.now a.form)))
