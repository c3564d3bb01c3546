-- `calls` meets its contract, by the way that leaves the vertex.
use Rattle.std.proofs.Common.{sym, ap}
use Rattle.vertex_entailments.specs.declared.leaving.Way.{Way}
use Rattle.kept_disjuncts.specs.Standing.{calls_of}
use Rattle.kept_disjuncts.proofs.calls.Goals as goal

pub returns-in-Skip : goal.returns-in-Skip
unfolding calls_of
returns-in-Skip c = ap (λ (w : Way). calls_of w c.args.q.0) (sym c.in-Skip.is)

pub returns-in-Assign : goal.returns-in-Assign
unfolding calls_of
returns-in-Assign c = ap (λ (w : Way). calls_of w c.args.q.0) (sym c.in-Assign.is)

pub returns-in-Branch : goal.returns-in-Branch
unfolding calls_of
returns-in-Branch c = ap (λ (w : Way). calls_of w c.args.q.0) (sym c.in-Branch.is)

pub returns-in-Assert : goal.returns-in-Assert
unfolding calls_of
returns-in-Assert c = ap (λ (w : Way). calls_of w c.args.q.0) (sym c.in-Assert.is)

pub returns-in-Call : goal.returns-in-Call
unfolding calls_of
returns-in-Call c = ap (λ (w : Way). calls_of w c.args.q.0) (sym c.in-Call.is)

pub returns-in-Exit : goal.returns-in-Exit
unfolding calls_of
returns-in-Exit c = ap (λ (w : Way). calls_of w c.args.q.0) (sym c.in-Exit.is)
