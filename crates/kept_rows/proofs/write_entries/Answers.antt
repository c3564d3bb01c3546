-- `write_entries` meets its contract: after i turns the words of i entries are counted, the next one begins at `at`, and places and words are written
-- where all fit.
use Rattle.std.proofs.Common.{◌≡◌, ◌+◌, ◌<◌, List, length, arith, ap, ◌∙◌}
use Rattle.words.specs.declared.StoredForm.TheVariants.{Dense}
use Rattle.certificates.specs.Certificate.{Disjunct}
use Rattle.certificates.specs.CertificateWords as words
use Rattle.layout_writers.specs.Given.{many, entry_stands}
use Rattle.layout_writers.specs.EntryRuns.{entries_left, places_left, entries_none, places_none, places_length, entries_next, places_next}
use Rattle.layout_writers.specs.Runs.{none_fitted_places, fitted_places_next, all_fitted_places}
use Rattle.kept_rows.specs.KeptEntries.{trimmed_entries, bytes_are, left_length, left_words}
use Rattle.kept_rows.proofs.write_entries.Goals as goal
use Rattle.kept_rows.proofs.write_entries.Goals.{Start}

abbrev all : (c : Start) → List (List Disjunct)
all c = let a = c.args in trimmed_entries a.program.now a.certificate.now a.sizes a.kept.now

long : (c : Start) → length (all c) ≡ words.entries c.args.program.now c.args.certificate.now
long c = let a = c.args in left_length a.program.now a.certificate.now a.sizes a.kept.now c.requires.given.header

pub loop-i-init : goal.loop-i-init
loop-i-init c =
    let a = c.args in
    let s = (goal.at.loop-i-init c).Start in
    record {
      few = omega arith;
      run =
          none_fitted_places a.buffer.now (3 + (a.sizes.statements + a.sizes.procedures + a.sizes.procedures)) c.rows_start-start.result (places_left Dense (all s) 0 0) (entries_left Dense (all s) 0)
          (omega (arith, c.rows_start-start.ensures, many c.requires.given, long s, places_length Dense (all s) 0 0));
    }

-- the entry at hand, as it was read
pub write_disjuncts-written-requires-clause-disjuncts_form : goal.write_disjuncts-written-requires-clause-disjuncts_form
write_disjuncts-written-requires-clause-disjuncts_form c =
    let a = c.args in
    let g = c.requires.given in
    let less : c.loop-i.i < words.entries a.program.now a.certificate.now = omega (arith, many g) in
    rw c.stored_form-form.ensures (entry_stands a.program.now a.certificate.now (words.stored_form a.certificate.now) c.loop-i.i less g.row_words (c.edge_columns-columns.ensures.value a.certificate.now) c.entry_count-count.ensures.value (many g) c.entry_place-place.ensures.value g.formed)

pub loop-i-preserved : goal.loop-i-preserved
loop-i-preserved c =
    let a = c.args in
    let g = c.requires.given in
    let l = c.loop-i in
    let w = c.write_disjuncts-written in
    let s = (goal.at.loop-i-preserved c).Start in
    let less : l.i < words.entries a.program.now a.certificate.now = omega (arith, many g) in
    let i : l.i < length (all s) = omega (arith, long s, less) in
    let part = left_words a.program.now a.certificate.now a.sizes a.kept.now g.header l.i less (bytes_are a.kept.now l.i) c.stored_form-form.ensures g.row_words (c.edge_columns-columns.ensures.value a.certificate.now) c.entry_count-count.ensures.value (many g) c.entry_place-place.ensures.value in
    record {
      few = omega arith;
      run = fitted_places_next l.invariant.run (places_next Dense (all s) l.i i part l.at w.ensures.value) (entries_next Dense (all s) l.i i part) w.ensures.value c.store.ensures w.auto.buffer w.ensures.buffer_after;
    }

pub returns-clause-value : goal.returns-clause-value
unfolding entries_left
returns-clause-value c =
    let s = (goal.at.returns-clause-value c).Start in
    let l = c.loop-i in
    let e : length (all s) ≡ l.i = omega (arith, long s, many c.requires.given) in
    (all_fitted_places l.invariant.run (places_none Dense (all s) l.at e) (entries_none Dense (all s) e)).0

pub returns-clause-buffer_after : goal.returns-clause-buffer_after
unfolding entries_left places_left
returns-clause-buffer_after c =
    let s = (goal.at.returns-clause-buffer_after c).Start in
    let l = c.loop-i in
    let m = many c.requires.given in
    let e : length (all s) ≡ l.i = omega (arith, long s, m) in
    rw (m, c.rows_start-start.ensures ∙ ap words.start_of m) at (all_fitted_places l.invariant.run (places_none Dense (all s) l.at e) (entries_none Dense (all s) e)).1
