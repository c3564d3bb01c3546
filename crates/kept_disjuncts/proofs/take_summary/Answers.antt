-- `take_summary` meets its contract: before turn j the vertices up to j are looked at.
use Rattle.std.proofs.Common.{◌≡◌, ℕ, ◌+◌, ◌-◌, subst, arith}
use Rattle.program_readers.specs.declared.places.Vertex.{Vertex}
use Rattle.kept_disjuncts.specs.Standing.{ReturnDone, return_then, all_vertices, looked_next}
use Rattle.kept_disjuncts.proofs.take_summary.Invariants.{At}
use Rattle.kept_disjuncts.proofs.take_summary.Goals as goal

pub loop-j-preserved : goal.loop-j-preserved
loop-j-preserved c =
    let a = c.args in
    looked_next (At a.program.now a.witness.now a.sizes a.table.now a.q.0 a.case) (λ j k k' k'' k''' f g d i. return_then a.program.now a.witness.now a.sizes a.table.now f g (d i)) c.loop-j.invariant c.take_returns-held.ensures.grown
    (λ i. subst (λ (v : Vertex). ReturnDone a.program.now a.witness.now a.sizes a.table.now c.loop-j.kept c.take_returns-held.new.kept a.q.0 v.0 i a.case) c.leaving_of-leaving.ensures.vertex_value (c.take_returns-held.ensures.by_index i))

pub returns-clause-by_index : goal.returns-clause-by_index
returns-clause-by_index c =
    let a = c.args in
    all_vertices c.requires.known (λ v low high i. let e : v - 1 + 1 ≡ v = omega arith in
    subst (λ (u : ℕ). ReturnDone a.program.now a.witness.now a.sizes a.table.now a.kept.now c.loop-j.kept a.q.0 u i a.case) e (c.loop-j.invariant.done (v - 1) (omega (arith, c.loop-j-test.false)) i))
