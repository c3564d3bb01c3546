-- `take_returns` meets its contract: a vertex that is no call of the procedure has no return from it, and at a call before turn i the entailments of
-- the disjuncts below i are looked at.
use Rattle.std.proofs.Common.{sym, ◌∙◌, arith}
use Rattle.kept_disjuncts.specs.Standing.{done_then, all_disjuncts, no_return, looked_next}
use Rattle.kept_disjuncts.proofs.take_returns.Invariants.{At}
use Rattle.kept_disjuncts.proofs.take_returns.Goals as goal

pub returns-then-not-calls-clause-by_index : goal.returns-then-not-calls-clause-by_index
returns-then-not-calls-clause-by_index c = λ i. no_return c.requires.known c.requires.leaves (sym c.calls.ensures ∙ c.if-not-calls.true)

pub loop-i-preserved : goal.loop-i-preserved
loop-i-preserved c =
    let a = c.args in
    looked_next (At a.program.now a.witness.now a.sizes a.table.now a.leaving.vertex.0 a.case) (λ i k k' k'' k'''. done_then a.program.now a.witness.now a.sizes a.table.now) c.loop-i.invariant c.keep_case-held.ensures.grown c.keep_case-held.ensures.case_done

pub returns-clause-by_index : goal.returns-clause-by_index
returns-clause-by_index c = λ i. record { returns = λ m k e. all_disjuncts c.requires.known (λ j b. c.loop-i.invariant.done j (omega (arith, c.loop-i-test.false))) i }
