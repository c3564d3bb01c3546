-- Each loop keeps that what is written so far are the words that trimming leaves of the witnesses of the entailments so far.
use Rattle.std.proofs.Common.{◌≡◌, ◌+◌, ◌≤◌, ◌<◌, [], ℕ, length, get_or, arith, refl, sym, ap, ◌∙◌}
use Rattle.words.specs.declared.StoredForm.{StoredForm}
use Rattle.words.specs.Limits.{most_words, most_globals, most_locals}
use Rattle.programs.specs.ProgramWords.{n, p, k}
use Rattle.programs.specs.Decode as decode
use Rattle.certificates.specs.Certificate.{Certificate, path_edges}
use Rattle.certificates.specs.CertificateWords.{stored_form, row_count, disjunct_words, count_of, place_of, certificate}
use Rattle.certificate_readers.specs.Disjuncts.{DisjunctHere}
use Rattle.trimming.specs.Kept.{keeps}
use Rattle.trimming.specs.Passed.{start_from, cases_from, witness_of}
use Rattle.trimming.proofs.Passed.{cases_counted}
use Rattle.checker.specs.ListedWitnesses.{listed_sources, listed_witnesses}
use Rattle.vertex_entailments.specs.Given.{cases_of, disjunct_at, no_entailment, StandsFor}
use Rattle.vertex_entailments.specs.Targets.{row_words_few}
use Rattle.vertex_entailments.specs.LeavingLaws.{leaving_columns, leaving_shape, leaving_form, leaving_formed}
use Rattle.vertex_entailments.specs.VertexDisjuncts.{first_place, place_on, vertex_disjunct, vertex_edge, vertex_count}
use Rattle.entailment_sources.specs.KeptBytes.{entry_number, flags_in}
use Rattle.witness_walks.specs.Witnessed.{walkable}
use Rattle.kept_witnesses.specs.PassLaws.{WrittenSoFar, Meets, end_is, words_spell, size_most, entry_bytes_lem}
use Rattle.kept_witnesses.specs.PassSteps.{case_at, case_meets, case_written, disjunct_written, vertex_written, all_written, left_fewer}
use Rattle.kept_witnesses.proofs.write_witnesses.Goals as goal
use Rattle.kept_witnesses.proofs.write_witnesses.Goals.{After-leaving_of-leaving, After-entry_count-disjuncts, In-loop-d, After-entailment_at-e, After-leads_to-target, After-sources_kept-keep, After-loop-i}

-- ---- a vertex

-- what leaves it has its columns
columns_are : (c : After-leaving_of-leaving) → (c.leaving_of-leaving.result.shape.k ≡ k c.args.program.now (c.loop-i.i + 1)) × (c.leaving_of-leaving.result.shape.k ≤ most_globals + most_locals)
columns_are c =
    let given = c.requires.given in
    let leaves = c.leaving_of-leaving.ensures.leaves in
    (rw c.leaving_of-leaving.ensures.vertex_value at (leaving_columns given leaves), (leaving_shape given leaves).few_columns)

-- its entry has its number, and as many disjuncts as were read
module _ (c : After-entry_count-disjuncts) where
  high : c.loop-i.i + 1 ≤ c.args.sizes.statements + c.args.sizes.procedures
  high = omega arith

  entry_counted : c.entry_count-disjuncts.result ≡ count_of c.args.witness.now (c.loop-i.i + 1)
  entry_counted = rw c.path_entry-entry.ensures at c.entry_count-disjuncts.ensures.value

  disjuncts_are : c.entry_count-disjuncts.result ≡ length (path_edges (certificate c.args.program.now c.args.witness.now) (c.loop-i.i + 1))
  disjuncts_are = sym (vertex_count c.requires.given (c.loop-i.i + 1) (omega arith) high entry_counted refl)

pub summary_places-requires-clause-way_form : goal.summary_places-requires-clause-way_form
summary_places-requires-clause-way_form c = leaving_form c.requires.given c.leaving_of-leaving.ensures.leaves

pub summary_places-requires-clause-shape_form : goal.summary_places-requires-clause-shape_form
summary_places-requires-clause-shape_form c = leaving_shape c.requires.given c.leaving_of-leaving.ensures.leaves

pub summary_places-requires-clause-formed_by : goal.summary_places-requires-clause-formed_by
summary_places-requires-clause-formed_by c = (leaving_formed c.requires.given c.leaving_of-leaving.ensures.leaves, row_words_few c.requires.given)

pub case_count-cases-requires-clause-way_form : goal.case_count-cases-requires-clause-way_form
case_count-cases-requires-clause-way_form c = leaving_form c.requires.given c.leaving_of-leaving.ensures.leaves

pub loop-d-init : goal.loop-d-init
loop-d-init c =
    let a = c.args in
    let v = c.loop-i.i + 1 in
    record { run = c.loop-i.invariant; stands = first_place (stored_form a.witness.now) a.rows.now (k a.program.now v + k a.program.now v) c.entry_place-place.result }

-- ---- a disjunct

module _ (c : In-loop-d) where
  abbrev v : ℕ
  v = c.loop-i.i + 1

  abbrev cert : Certificate
  cert = certificate c.args.program.now c.args.witness.now

  counted_here : c.entry_count-disjuncts.result ≡ count_of c.args.witness.now v
  counted_here = rw c.path_entry-entry.ensures at c.entry_count-disjuncts.ensures.value

  placed_here : c.entry_place-place.result ≡ place_of c.args.witness.now (c.args.sizes.statements + c.args.sizes.procedures + c.args.sizes.procedures) v
  placed_here = rw c.path_entry-entry.ensures at c.entry_place-place.ensures.value

  -- it is one of the vertex's
  listed : c.loop-d.d < length (path_edges cert v)
  listed = omega (arith, vertex_count c.requires.given v (omega arith) (omega arith) counted_here refl)

  -- it stands in the row words
  here : DisjunctHere (stored_form c.args.witness.now) (k c.args.program.now v + k c.args.program.now v) c.args.rows.now (c.loop-d.place + 1) (row_count c.args.rows.now c.loop-d.place)
  here = vertex_disjunct c.requires.given v (omega arith) (omega arith) counted_here placed_here c.loop-d.d c.loop-d.place (omega arith) c.loop-d.invariant.stands

  edge : get_or (path_edges cert v) c.loop-d.d [] ≡ disjunct_at (stored_form c.args.witness.now) c.args.program.now c.args.rows.now v (c.loop-d.place + 1) (row_count c.args.rows.now c.loop-d.place)
  edge = vertex_edge c.requires.given v (omega arith) (omega arith) counted_here placed_here c.loop-d.d c.loop-d.place (omega arith) c.loop-d.invariant.stands

  ends : c.loop-d.place + 1 ≤ most_words
  ends = omega (arith, here.stand.inside, row_words_few c.requires.given)

  -- its entailments are as many as were counted
  counted : c.case_count-cases.result ≡ length (cases_from (decode.program c.args.program.now) cert v c.loop-d.d)
  unfolding cases_of
  counted =
      let given = c.requires.given in
      let l = c.leaving_of-leaving in
      rw l.ensures.vertex_value at (c.case_count-cases.ensures.value c.args.program.now (get_or (path_edges cert v) c.loop-d.d []) given.header given.program_form l.ensures.leaves) ∙ sym (cases_counted (decode.program c.args.program.now) cert v c.loop-d.d)

-- ---- a case

pub entailment_at-e-requires-clause-disjunct_here : goal.entailment_at-e-requires-clause-disjunct_here
entailment_at-e-requires-clause-disjunct_here c = rw c.leaving_of-leaving.ensures.vertex_value (here (goal.at.entailment_at-e-requires-clause-disjunct_here c).In-loop-d)

-- the entailment of this case, from what is known of its disjunct
module _ (c : After-entailment_at-e) where
  abbrev case_v : ℕ
  case_v = c.loop-i.i + 1

  abbrev case_cert : Certificate
  case_cert = certificate c.args.program.now c.args.witness.now

  module _ (listed : c.loop-d.d < length (path_edges case_cert case_v)) (counted : c.case_count-cases.result ≡ length (cases_from (decode.program c.args.program.now) case_cert case_v c.loop-d.d))
      (edge : get_or (path_edges case_cert case_v) c.loop-d.d [] ≡ disjunct_at (stored_form c.args.witness.now) c.args.program.now c.args.rows.now case_v (c.loop-d.place + 1) (row_count c.args.rows.now c.loop-d.place)) where
    case_there : c.loop-case.case < length (cases_from (decode.program c.args.program.now) case_cert case_v c.loop-d.d)
    case_there = omega (arith, counted)

    vertices_high : case_v ≤ n c.args.program.now + p c.args.program.now
    vertices_high = let header = c.requires.given.header in omega (arith, header.statements, header.procedures)

    stands : StandsFor c.args.program.now c.args.rows.now c.entailment_at-e.result (get_or (cases_of c.args.program.now c.args.witness.now case_v (get_or (path_edges case_cert case_v) c.loop-d.d [])) c.loop-case.case no_entailment)
    stands = rw edge (rw c.leaving_of-leaving.ensures.vertex_value at c.entailment_at-e.ensures)

    -- its witness begins the words that are left
    met : Meets c.args.program.now c.args.witness.now c.args.rows.now c.args.w.now c.loop-case.at c.entailment_at-e.result (case_at c.args.program.now c.args.witness.now case_v c.loop-d.d c.loop-case.case)
        (witness_of (decode.program c.args.program.now) case_cert (listed_witnesses c.args.program.now c.args.witness.now) case_v c.loop-d.d c.loop-case.case)
    met =
        let a = c.args in
        case_meets a.program.now a.witness.now a.rows.now a.w.now c.requires.all_listed case_v c.loop-d.d c.loop-case.case (omega arith) vertices_high listed case_there c.loop-case.at c.entailment_at-e.result c.loop-case.invariant.reached stands

-- where it leads
target_is : (c : After-leads_to-target) → let a = c.args in let v = c.loop-i.i + 1 in let cert = certificate a.program.now a.witness.now in c.loop-case.case < length (cases_from (decode.program a.program.now) cert v c.loop-d.d)
    → c.leads_to-target.result ≡ entry_number a.sizes (case_at a.program.now a.witness.now v c.loop-d.d c.loop-case.case).leads_to
target_is c there =
    let a = c.args in
    let v = c.loop-i.i + 1 in
    let cert = certificate a.program.now a.witness.now in
    (rw c.leaving_of-leaving.ensures.vertex_value at c.leads_to-target.ensures).leads cert c.loop-d.d (get_or (path_edges cert v) c.loop-d.d []) (start_from (decode.program a.program.now) cert) there

-- whether its sources are kept
kept_is : (c : After-sources_kept-keep) → let a = c.args in let v = c.loop-i.i + 1 in let cert = certificate a.program.now a.witness.now in c.loop-case.case < length (cases_from (decode.program a.program.now) cert v c.loop-d.d)
    → c.sources_kept-keep.result ≡ keeps (flags_in a.sizes a.kept.now) (case_at a.program.now a.witness.now v c.loop-d.d c.loop-case.case).source
kept_is c there =
    let a = c.args in
    let given = c.requires.given in
    let v = c.loop-i.i + 1 in
    let cert = certificate a.program.now a.witness.now in
    let l = c.leaving_of-leaving in
    (rw l.ensures.vertex_value at (c.sources_kept-keep.ensures a.program.now given.header given.program_form l.ensures.leaves)).sources cert (get_or (path_edges cert v) c.loop-d.d []) (start_from (decode.program a.program.now) cert) there

pub witness_end-end-requires-clause-walkable : goal.witness_end-end-requires-clause-walkable
witness_end-end-requires-clause-walkable c = walkable c.args.program.now c.args.rows.now c.entailment_at-e.result c.entailment_at-e.ensures.form

pub witness_end-end-requires-clause-at_in_bounds : goal.witness_end-end-requires-clause-at_in_bounds
witness_end-end-requires-clause-at_in_bounds c =
    let g = goal.at.witness_end-end-requires-clause-at_in_bounds c in
    let d = g.In-loop-d in
    omega (arith, (met g.After-entailment_at-e (listed d) (counted d) (edge d)).inside)

pub sources_kept-keep-requires-clause-way_form : goal.sources_kept-keep-requires-clause-way_form
sources_kept-keep-requires-clause-way_form c = leaving_form c.requires.given c.leaving_of-leaving.ensures.leaves

-- the witness ends behind its words

pub offset_bounds-w-at : goal.offset_bounds-w-at
offset_bounds-w-at c =
    let g = goal.at.offset_bounds-w-at c in
    let a = c.args in
    let d = g.In-loop-d in
    let e = c.witness_end-end in
    let end = end_is a.program.now a.witness.now a.rows.now a.w.now c.loop-case.at _ _ _ (met g.After-entailment_at-e (listed d) (counted d) (edge d)) e.result e.ensures.w_value e.ensures.upper_bound in
    omega (arith, end)

pub slice_bounds-write_witness-count : goal.slice_bounds-write_witness-count
slice_bounds-write_witness-count c =
    let g = goal.at.slice_bounds-write_witness-count c in
    let a = c.args in
    let d = g.In-loop-d in
    let e = c.witness_end-end in
    let end = end_is a.program.now a.witness.now a.rows.now a.w.now c.loop-case.at _ _ _ (met g.After-entailment_at-e (listed d) (counted d) (edge d)) e.result e.ensures.w_value e.ensures.upper_bound in
    omega (arith, end)

pub slice_bounds-write_witness-start : goal.slice_bounds-write_witness-start
slice_bounds-write_witness-start c =
    let g = goal.at.slice_bounds-write_witness-start c in
    let a = c.args in
    let d = g.In-loop-d in
    let e = c.witness_end-end in
    let end = end_is a.program.now a.witness.now a.rows.now a.w.now c.loop-case.at _ _ _ (met g.After-entailment_at-e (listed d) (counted d) (edge d)) e.result e.ensures.w_value e.ensures.upper_bound in
    omega (arith, end)

pub write_witness-size-requires-clause-walkable : goal.write_witness-size-requires-clause-walkable
write_witness-size-requires-clause-walkable c = (walkable c.args.program.now c.args.rows.now c.entailment_at-e.result c.entailment_at-e.ensures.form, c.requires.kept_len)

pub write_witness-size-requires-clause-le : goal.write_witness-size-requires-clause-le
write_witness-size-requires-clause-le c =
    let g = goal.at.write_witness-size-requires-clause-le c in
    let a = c.args in
    let d = g.In-loop-d in
    let e = c.witness_end-end in
    let m = met g.After-entailment_at-e (listed d) (counted d) (edge d) in
    let target = target_is g.After-leads_to-target (omega (arith, counted d)) in
    entry_bytes_lem a.program.now a.witness.now a.rows.now a.w.now c.loop-case.at _ _ _ m e.result e.ensures.w_value e.ensures.upper_bound a.sizes c.requires.given.header a.kept.now c.leads_to-target.result target

pub write_witness-size-requires-clause-spells : goal.write_witness-size-requires-clause-spells
write_witness-size-requires-clause-spells c =
    let g = goal.at.write_witness-size-requires-clause-spells c in
    let a = c.args in
    let d = g.In-loop-d in
    let e = c.witness_end-end in
    words_spell a.program.now a.witness.now a.rows.now a.w.now c.loop-case.at _ _ _ (met g.After-entailment_at-e (listed d) (counted d) (edge d)) e.result e.ensures.w_value e.ensures.upper_bound

pub overflow_add-to : goal.overflow_add-to
overflow_add-to c =
    let g = goal.at.overflow_add-to c in
    let a = c.args in
    let d = g.In-loop-d in
    let e = c.witness_end-end in
    let m = met g.After-entailment_at-e (listed d) (counted d) (edge d) in
    omega (arith, c.loop-case.invariant.fewer, m.inside, size_most a.program.now a.witness.now a.rows.now a.w.now c.loop-case.at _ _ _ m e.result e.ensures.w_value e.ensures.upper_bound c.write_witness-size.ensures)

pub loop-case-preserved : goal.loop-case-preserved
loop-case-preserved c =
    let g = goal.at.loop-case-preserved c in
    let a = c.args in
    let d = g.In-loop-d in
    let e = c.witness_end-end in
    let there : c.loop-case.case < length (cases_from (decode.program a.program.now) (certificate a.program.now a.witness.now) (c.loop-i.i + 1) c.loop-d.d) = omega (arith, counted d) in
    case_written a.program.now a.witness.now a.sizes c.requires.given.header a.kept.now a.rows.now a.w.now c.requires.all_listed c.entailment_at-e.result e.result c.write_witness-size.result (c.loop-i.i + 1) c.loop-d.d c.loop-case.case (omega arith)
    (vertices_high g.After-entailment_at-e (listed d) (counted d) (edge d)) (listed d) there (stands g.After-entailment_at-e (listed d) (counted d) (edge d)) e.ensures.w_value e.ensures.upper_bound
    c.sources_kept-keep.result c.leads_to-target.result (kept_is g.After-sources_kept-keep there) (target_is g.After-leads_to-target there) c.loop-case.invariant c.write_witness-size.ensures

-- ---- the next disjunct

pub overflow_add-k : goal.overflow_add-k
overflow_add-k c = omega (arith, (columns_are (goal.at.overflow_add-k c).After-leaving_of-leaving).1)

pub disjunct_words-size-requires-clause-columns_bound : goal.disjunct_words-size-requires-clause-columns_bound
disjunct_words-size-requires-clause-columns_bound c = omega (arith, (columns_are (goal.at.disjunct_words-size-requires-clause-columns_bound c).After-leaving_of-leaving).1)

pub disjunct_words-size-requires-clause-at_bound : goal.disjunct_words-size-requires-clause-at_bound
disjunct_words-size-requires-clause-at_bound c = omega (arith, ends (goal.at.disjunct_words-size-requires-clause-at_bound c).In-loop-d)

pub overflow_add-place : goal.overflow_add-place
overflow_add-place c = omega (arith, ends (goal.at.overflow_add-place c).In-loop-d, c.disjunct_words-size.ensures.upper_bound)

pub loop-d-preserved : goal.loop-d-preserved
loop-d-preserved c =
    let g = goal.at.loop-d-preserved c in
    let a = c.args in
    let l = c.loop-case in
    let m = c.loop-d in
    let v = c.loop-i.i + 1 in
    let width = c.leaving_of-leaving.result.shape.k in
    -- the words that it takes
    let size : c.disjunct_words-size.result ≡ disjunct_words (stored_form a.witness.now) (width + width) a.rows.now m.place =
    c.disjunct_words-size.ensures.value ∙ ap (λ (form : StoredForm). disjunct_words form (width + width) a.rows.now m.place) c.stored_form-form.ensures in
    record {
      run = disjunct_written a.program.now a.witness.now a.sizes a.kept.now a.buffer.now l.buffer l.at l.to v m.d l.case (listed g.In-loop-d) (omega (arith, counted g.In-loop-d)) l.invariant;
      stands = place_on (stored_form a.witness.now) a.rows.now (k a.program.now v + k a.program.now v) c.entry_place-place.result m.d m.place c.disjunct_words-size.result (width + width) m.invariant.stands size (omega (arith, (columns_are g.After-leaving_of-leaving).0));
    }

-- ---- the next vertex, and the end

pub loop-i-preserved : goal.loop-i-preserved
loop-i-preserved c =
    let a = c.args in
    let m = c.loop-d in
    vertex_written a.program.now a.witness.now a.sizes a.kept.now a.buffer.now m.buffer m.at m.to (c.loop-i.i + 1) m.d (omega arith) (omega (arith, disjuncts_are (goal.at.loop-i-preserved c).After-entry_count-disjuncts)) m.invariant.run

-- all is written
whole : (c : After-loop-i) → WrittenSoFar c.args.program.now c.args.witness.now c.args.sizes c.args.kept.now c.args.buffer.now (listed_sources c.args.program.now c.args.witness.now) c.loop-i.at c.loop-i.to c.loop-i.buffer
whole c =
    let a = c.args in
    let o = c.loop-i in
    let header = c.requires.given.header in
    all_written a.program.now a.witness.now a.sizes a.kept.now a.buffer.now o.buffer o.at o.to o.i (omega (arith, header.statements, header.procedures)) o.invariant

pub returns : goal.returns
returns c =
    let a = c.args in
    let w = whole (goal.at.returns c).After-loop-i in
    record { value = w.counted; upper_bound = left_fewer a.program.now a.witness.now a.sizes a.kept.now a.w.now c.requires.all_listed w; buffer_after = w.stored }
