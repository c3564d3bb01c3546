-- `take_path` meets its contract: before turn `case` the entailments below `case` are looked at.
use Rattle.std.proofs.Common.{subst, arith}
use Rattle.program_readers.specs.declared.places.Vertex.{Vertex}
use Rattle.kept_disjuncts.specs.Standing.{CaseDone, done_then, all_cases, looked_next}
use Rattle.kept_disjuncts.proofs.take_path.Invariants.{At}
use Rattle.kept_disjuncts.proofs.take_path.Goals as goal

pub loop-case-preserved : goal.loop-case-preserved
loop-case-preserved c =
    let a = c.args in
    looked_next (At a.program.now a.witness.now a.sizes a.table.now c.leaving_of-leaving.result.vertex.0 a.i) (λ i k k' k'' k'''. done_then a.program.now a.witness.now a.sizes a.table.now) c.loop-case.invariant c.keep_case-held.ensures.grown c.keep_case-held.ensures.case_done

pub returns-clause-by_index : goal.returns-clause-by_index
returns-clause-by_index c =
    let a = c.args in
    λ case. subst (λ (v : Vertex). CaseDone a.program.now a.witness.now a.sizes a.table.now a.kept.now c.loop-case.kept v.0 a.i case) c.leaving_of-leaving.ensures.vertex_value
    (all_cases c.requires.known (λ k b. c.loop-case.invariant.done k (omega (arith, c.loop-case-test.false))) case)
