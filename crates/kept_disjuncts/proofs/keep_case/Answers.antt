-- `keep_case` meets its contract: there is no such entailment, or its sources are not kept, or the targets of its byte are.
use Rattle.std.proofs.Common.{◌≡◌, Bool, true, ℕ, length, get_or, sym, subst, arith}
use Rattle.certificates.specs.Certificate.{Disjunct}
use Rattle.vertex_entailments.specs.Given.{cases_of}
use Rattle.entailment_sources.specs.WayLaws.{SourcesKept}
use Rattle.kept_disjuncts.specs.Queue.{Filled, Named, NamesPlaces}
use Rattle.kept_disjuncts.specs.Standing.{case_byte, known_way, done_past, done_not, case_places, case_grown, case_done}
use Rattle.kept_disjuncts.proofs.keep_case.Goals as goal
use Rattle.kept_disjuncts.proofs.keep_case.Goals.{After-case_count-cases, After-sources_kept, After-keep_targets}

pub case_count-cases-requires-clause-way_form : goal.case_count-cases-requires-clause-way_form
case_count-cases-requires-clause-way_form c = known_way c.requires.known c.requires.leaves

pub sources_kept-requires-clause-way_form : goal.sources_kept-requires-clause-way_form
sources_kept-requires-clause-way_form c = known_way c.requires.known c.requires.leaves

-- how many entailments each disjunct has
counted : (c : After-case_count-cases) (d : Disjunct) → c.case_count-cases.result ≡ length (cases_of c.args.program.now c.args.witness.now c.args.leaving.vertex.0 d)
counted c d = c.case_count-cases.ensures.value c.args.program.now d c.requires.known.header c.requires.known.program_form c.requires.leaves

pub returns-then-cases-case-clause-case_done : goal.returns-then-cases-case-clause-case_done
returns-then-cases-case-clause-case_done c =
    let a = c.args in
    done_past a.program.now a.witness.now a.sizes a.table.now c.requires.known c.requires.standing a.leaving.vertex.0 a.i a.case
    (counted (goal.at.returns-then-cases-case-clause-case_done c).After-case_count-cases) c.if-cases-case.true

-- what was found of the sources
sources : (c : After-sources_kept) (b : Bool) → c.sources_kept.result ≡ b → SourcesKept c.args.program.now c.args.sizes c.args.leaving.vertex.0 c.args.i c.args.case c.args.kept.now b
sources c b e =
    let a = c.args in
    subst (λ (r : Bool). SourcesKept a.program.now a.sizes a.leaving.vertex.0 a.i a.case a.kept.now r) e
    (c.sources_kept.ensures a.program.now c.requires.known.header c.requires.known.program_form c.requires.leaves)

pub returns-then-not-sources_kept-clause-case_done : goal.returns-then-not-sources_kept-clause-case_done
returns-then-not-sources_kept-clause-case_done c =
    let a = c.args in
    done_not a.program.now a.witness.now a.sizes a.table.now c.requires.known c.requires.standing a.leaving.vertex.0 a.i a.case
    (sources (goal.at.returns-then-not-sources_kept-clause-case_done c).After-sources_kept _ c.if-not-sources_kept.true)

-- the targets that the byte names are places
pub keep_targets-requires-clause-names_places : goal.keep_targets-requires-clause-names_places
keep_targets-requires-clause-names_places c =
    let a = c.args in
    let r = goal.at.keep_targets-requires-clause-names_places c in
    subst (λ (slot : ℕ). NamesPlaces (get_or a.table.now slot 0) c.leads_to-entry.result) (sym c.slot_of-slot.ensures.value)
    (case_places a.program.now a.witness.now a.sizes a.table.now c.requires.known c.requires.standing a.leaving.vertex.0 a.i a.case (counted r.After-case_count-cases) (omega (arith, c.if-cases-case.false)) (sources r.After-sources_kept true c.if-not-sources_kept.false) c.requires.leaves.low c.requires.leaves.high c.leads_to-entry.ensures)

-- what is kept then
filled : (c : After-keep_targets) → Filled (Named (case_byte c.args.table.now c.args.leaving.vertex.0 c.args.i c.args.case) c.leads_to-entry.result) c.args.kept.now c.args.queue.now c.args.count c.keep_targets.new.kept c.keep_targets.new.queue c.keep_targets.result
filled c =
    let a = c.args in
    subst (λ (slot : ℕ). Filled (Named (get_or a.table.now slot 0) c.leads_to-entry.result) a.kept.now a.queue.now a.count c.keep_targets.new.kept c.keep_targets.new.queue c.keep_targets.result) c.slot_of-slot.ensures.value c.keep_targets.ensures

pub returns-clause-grown : goal.returns-clause-grown
returns-clause-grown c =
    let a = c.args in
    let r = goal.at.returns-clause-grown c in
    case_grown a.program.now a.witness.now a.sizes a.table.now c.requires.known c.requires.standing a.leaving.vertex.0 a.i a.case (counted r.After-case_count-cases) (omega (arith, c.if-cases-case.false)) (sources r.After-sources_kept true c.if-not-sources_kept.false) c.requires.leaves.low c.requires.leaves.high c.leads_to-entry.ensures (filled r.After-keep_targets)

pub returns-clause-case_done : goal.returns-clause-case_done
returns-clause-case_done c =
    let a = c.args in
    let r = goal.at.returns-clause-case_done c in
    case_done a.program.now a.witness.now a.sizes a.table.now c.requires.known c.requires.standing a.leaving.vertex.0 a.i a.case (counted r.After-case_count-cases) (omega (arith, c.if-cases-case.false)) (sources r.After-sources_kept true c.if-not-sources_kept.false) c.requires.leaves.low c.requires.leaves.high c.leads_to-entry.ensures (filled r.After-keep_targets)
