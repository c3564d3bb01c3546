-- Each loop keeps that all entailments so far have their bytes, and that the next one's witness stands where the pass is.
use Rattle.std.proofs.Common.{◌≡◌, List, [], ◌+◌, ◌*◌, ◌≤◌, ◌<◌, ℤ, length, get_or, ap, ◌∙◌, subst, arith}
use Rattle.words.specs.declared.StoredForm.{StoredForm}
use Rattle.words.specs.Limits.{most_words}
use Rattle.programs.specs.ProgramWords.{k}
use Rattle.certificates.specs.Certificate.{Disjunct, path_edges}
use Rattle.certificates.specs.CertificateWords.{stored_form, row_count, disjunct_words, count_of, place_of, certificate}
use Rattle.certificate_readers.specs.Disjuncts.{DisjunctHere}
use Rattle.trimming.specs.Passed.{no_witness}
use Rattle.checker.specs.ListedWitnesses.{listed_witnesses}
use Rattle.vertex_entailments.specs.Given.{cases_of, disjunct_at}
use Rattle.vertex_entailments.specs.Targets.{row_words_few}
use Rattle.vertex_entailments.specs.LeavingLaws.{leaving_columns, leaving_shape, leaving_form, leaving_formed}
use Rattle.vertex_entailments.specs.VertexDisjuncts.{first_place, place_on, vertex_disjunct, vertex_edge, vertex_count}
use Rattle.witness_walks.specs.Witnessed.{walkable}
use Rattle.used_targets.specs.UseTable.{cases_from, Listed}
use Rattle.used_targets.specs.Passes.{ByteOf, UsedAt, Head}
use Rattle.used_targets.proofs.Passes.{head_inside, cases_here, head_used, start_used, head_disjunct, head_vertex, tabled}
use Rattle.used_targets.proofs.table_uses.Invariants.{columns_of}
use Rattle.used_targets.proofs.table_uses.Goals as goal
use Rattle.used_targets.proofs.table_uses.Goals.{After-use_at-first, After-leaving_of-leaving, After-entry_place-place, In-loop-d}

-- ---- the start

pub use_at-first-requires-clause-walkable : goal.use_at-first-requires-clause-walkable
use_at-first-requires-clause-walkable c =
    walkable c.args.program.now c.args.rows.now c.start_entailment.result (c.start_entailment.ensures c.args.rows.now c.requires.given).form

-- its byte, and where the pass stands after it
started : (c : After-use_at-first) → Head c.args.program.now c.args.witness.now 1 0 0 c.use_at-first.result.next c.args.table.now × ByteOf (get_or (listed_witnesses c.args.program.now c.args.witness.now) 0 no_witness) c.use_at-first.result.byte
started c =
    let a = c.args in
    let s = c.start_entailment.ensures a.rows.now c.requires.given in
    start_used c.requires.given c.requires.all_listed.0 c.use_at-first.result s (subst (λ (l : List ℤ). UsedAt l a.rows.now c.start_entailment.result 0 c.use_at-first.result) c.requires.all_listed.1 c.use_at-first.ensures)

pub loop-i-init : goal.loop-i-init
loop-i-init c = (started (goal.at.loop-i-init c).After-use_at-first).0

-- ---- what is known at a vertex, a disjunct and a case

-- what leaves the vertex has its columns
columns_are : (c : After-leaving_of-leaving) → (c.leaving_of-leaving.result.shape.k ≡ k c.args.program.now (c.loop-i.i + 1)) × (c.leaving_of-leaving.result.shape.k ≤ 16)
columns_are c =
    let g = c.requires.given in
    let l = c.leaving_of-leaving.ensures in
    (rw l.vertex_value at (leaving_columns g l.leaves), (leaving_shape g l.leaves).few_columns)

-- as many disjuncts as the vertex has
edges_counted : (c : After-entry_place-place) → length (path_edges (certificate c.args.program.now c.args.witness.now) (c.loop-i.i + 1)) ≡ c.entry_count-disjuncts.result
edges_counted c =
    let number = rw c.path_entry-entry.ensures at c.entry_count-disjuncts.ensures.value in
    let start = rw c.path_entry-entry.ensures at c.entry_place-place.ensures.value in
    vertex_count c.requires.given (c.loop-i.i + 1) (omega arith) (omega arith) number start

-- its entry has its number
entry_read : (c : In-loop-d) → (c.entry_count-disjuncts.result ≡ count_of c.args.witness.now (c.loop-i.i + 1)) × (c.entry_place-place.result ≡ place_of c.args.witness.now (c.args.sizes.statements + c.args.sizes.procedures + c.args.sizes.procedures) (c.loop-i.i + 1))
entry_read c = (rw c.path_entry-entry.ensures at c.entry_count-disjuncts.ensures.value, rw c.path_entry-entry.ensures at c.entry_place-place.ensures.value)

-- the disjunct of this turn
here : (c : In-loop-d) → DisjunctHere (stored_form c.args.witness.now) (columns_of c.args.program.now (c.loop-i.i + 1)) c.args.rows.now (c.loop-d.place + 1) (row_count c.args.rows.now c.loop-d.place)
here c = let (number, start) = entry_read c in vertex_disjunct c.requires.given (c.loop-i.i + 1) (omega arith) (omega arith) number start c.loop-d.d c.loop-d.place (omega arith) c.loop-d.invariant.1

abbrev disjunct_now : In-loop-d → Disjunct
disjunct_now c = disjunct_at (stored_form c.args.witness.now) c.args.program.now c.args.rows.now (c.loop-i.i + 1) (c.loop-d.place + 1) (row_count c.args.rows.now c.loop-d.place)

edge : (c : In-loop-d) → get_or (path_edges (certificate c.args.program.now c.args.witness.now) (c.loop-i.i + 1)) c.loop-d.d [] ≡ disjunct_now c
edge c = let (number, start) = entry_read c in vertex_edge c.requires.given (c.loop-i.i + 1) (omega arith) (omega arith) number start c.loop-d.d c.loop-d.place (omega arith) c.loop-d.invariant.1

-- it stands in the row words
ends : (c : In-loop-d) → c.loop-d.place + 1 ≤ most_words
ends c = omega (arith, (here c).stand.inside, row_words_few c.requires.given)

-- its entailments are as many as were counted
counted : (c : In-loop-d) → c.case_count-cases.result ≡ length (cases_of c.args.program.now c.args.witness.now (c.loop-i.i + 1) (disjunct_now c))
counted c =
    let g = c.requires.given in
    rw c.leaving_of-leaving.ensures.vertex_value at (c.case_count-cases.ensures.value c.args.program.now (disjunct_now c) g.header g.program_form c.leaving_of-leaving.ensures.leaves)

cases_counted : (c : In-loop-d) → c.case_count-cases.result ≡ length (cases_from c.args.program.now c.args.witness.now (c.loop-i.i + 1) c.loop-d.d)
cases_counted c = counted c ∙ cases_here c.requires.given c.requires.all_listed.0 (c.loop-i.i + 1) c.loop-d.d (edge c)

-- ---- what is asked at each place

pub summary_places-requires-clause-way_form : goal.summary_places-requires-clause-way_form
summary_places-requires-clause-way_form c = leaving_form c.requires.given c.leaving_of-leaving.ensures.leaves

pub summary_places-requires-clause-shape_form : goal.summary_places-requires-clause-shape_form
summary_places-requires-clause-shape_form c = leaving_shape c.requires.given c.leaving_of-leaving.ensures.leaves

pub summary_places-requires-clause-formed_by : goal.summary_places-requires-clause-formed_by
summary_places-requires-clause-formed_by c = (leaving_formed c.requires.given c.leaving_of-leaving.ensures.leaves, row_words_few c.requires.given)

pub case_count-cases-requires-clause-way_form : goal.case_count-cases-requires-clause-way_form
case_count-cases-requires-clause-way_form c = leaving_form c.requires.given c.leaving_of-leaving.ensures.leaves

pub loop-d-init : goal.loop-d-init
loop-d-init c = (c.loop-i.invariant, first_place (stored_form c.args.witness.now) c.args.rows.now (columns_of c.args.program.now (c.loop-i.i + 1)) c.entry_place-place.result)

pub entailment_at-e-requires-clause-disjunct_here : goal.entailment_at-e-requires-clause-disjunct_here
entailment_at-e-requires-clause-disjunct_here c =
    rw c.leaving_of-leaving.ensures.vertex_value (here (goal.at.entailment_at-e-requires-clause-disjunct_here c).In-loop-d)

pub use_at-used-requires-clause-walkable : goal.use_at-used-requires-clause-walkable
use_at-used-requires-clause-walkable c = walkable c.args.program.now c.args.rows.now c.entailment_at-e.result c.entailment_at-e.ensures.form

pub use_at-used-requires-clause-at_in_bounds : goal.use_at-used-requires-clause-at_in_bounds
use_at-used-requires-clause-at_in_bounds c =
    omega (arith, head_inside c.requires.given c.requires.all_listed.0 c.loop-case.invariant, ap length c.requires.all_listed.1)

pub loop-case-preserved : goal.loop-case-preserved
loop-case-preserved c =
    let r = goal.at.loop-case-preserved c in
    let stands = rw c.leaving_of-leaving.ensures.vertex_value at c.entailment_at-e.ensures in
    let used = subst (λ (l : List ℤ). UsedAt l c.args.rows.now c.entailment_at-e.result c.loop-case.at c.use_at-used.result) c.requires.all_listed.1 c.use_at-used.ensures in
    let slot = (c.loop-i.i * 8 + c.loop-d.d) * 9 + c.loop-case.case in
    let inside : slot < length c.loop-case.table = omega arith in
    let listed : Listed c.args.program.now c.args.witness.now (c.loop-i.i + 1) c.loop-d.d c.loop-case.case =
    record {
      low = omega arith;
      high = omega (arith, c.requires.given.header.statements, c.requires.given.header.procedures);
      disjunct = omega (arith, edges_counted r.After-entry_place-place);
      this = omega (arith, cases_counted r.In-loop-d);
    } in
    head_used c.requires.given c.requires.all_listed.0 c.use_at-used.result c.loop-case.invariant listed (edge r.In-loop-d) stands used slot (omega arith) inside

pub overflow_add-k : goal.overflow_add-k
overflow_add-k c = omega (arith, (columns_are (goal.at.overflow_add-k c).After-leaving_of-leaving).1)

pub disjunct_words-size-requires-clause-columns_bound : goal.disjunct_words-size-requires-clause-columns_bound
disjunct_words-size-requires-clause-columns_bound c = omega (arith, (columns_are (goal.at.disjunct_words-size-requires-clause-columns_bound c).After-leaving_of-leaving).1)

pub disjunct_words-size-requires-clause-at_bound : goal.disjunct_words-size-requires-clause-at_bound
disjunct_words-size-requires-clause-at_bound c = omega (arith, ends (goal.at.disjunct_words-size-requires-clause-at_bound c).In-loop-d)

pub overflow_add-place : goal.overflow_add-place
overflow_add-place c = omega (arith, ends (goal.at.overflow_add-place c).In-loop-d, c.disjunct_words-size.ensures.upper_bound)

pub loop-d-preserved : goal.loop-d-preserved
loop-d-preserved c =
    let a = c.args in
    let r = goal.at.loop-d-preserved c in
    let width = c.leaving_of-leaving.result.shape.k in
    let sized : c.disjunct_words-size.result ≡ disjunct_words (stored_form a.witness.now) (width + width) a.rows.now c.loop-d.place =
    c.disjunct_words-size.ensures.value ∙ ap (λ (form : StoredForm). disjunct_words form (width + width) a.rows.now c.loop-d.place) c.stored_form-form.ensures in (
      head_disjunct c.requires.given c.requires.all_listed.0 (omega arith) (omega arith) (omega (arith, edges_counted r.After-entry_place-place)) (omega (arith, cases_counted r.In-loop-d)) c.loop-case.invariant,
      place_on (stored_form a.witness.now) a.rows.now (columns_of a.program.now (c.loop-i.i + 1)) c.entry_place-place.result c.loop-d.d c.loop-d.place c.disjunct_words-size.result (width + width) c.loop-d.invariant.1 sized (omega (arith, (columns_are r.After-leaving_of-leaving).0)),
    )

pub loop-i-preserved : goal.loop-i-preserved
loop-i-preserved c =
    head_vertex c.requires.given c.requires.all_listed.0 (omega arith) (omega (arith, edges_counted (goal.at.loop-i-preserved c).After-entry_place-place)) c.loop-d.invariant.0

pub returns-clause-tabled : goal.returns-clause-tabled
returns-clause-tabled c =
    let h = c.requires.given.header in
    tabled c.requires.given c.requires.all_listed.0 (omega (arith, h.statements, h.procedures)) c.loop-i.invariant (started (goal.at.returns-clause-tabled c).After-use_at-first).1
