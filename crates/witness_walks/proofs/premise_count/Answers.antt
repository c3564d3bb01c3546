-- By what is added.
use Rattle.std.proofs.Common.{arith}
use Rattle.witness_walks.specs.Counts.{guard_most, adds_nothing, adds_guard, adds_summary}
use Rattle.witness_walks.proofs.premise_count.Goals as goal

pub returns-in-Nothing-clause-value : goal.returns-in-Nothing-clause-value
returns-in-Nothing-clause-value c = omega (arith, adds_nothing c.in-Nothing.is)

pub overflow_add-result : goal.overflow_add-result
overflow_add-result c = omega (arith, c.requires.0, c.guard_rows.ensures, guard_most c.in-Guard.op)

pub returns-in-Guard-clause-value : goal.returns-in-Guard-clause-value
returns-in-Guard-clause-value c = omega (arith, adds_guard c.in-Guard.is, c.guard_rows.ensures)

pub returns-in-Guard-clause-upper_bound : goal.returns-in-Guard-clause-upper_bound
returns-in-Guard-clause-upper_bound c = omega (arith, c.requires.0, c.guard_rows.ensures, guard_most c.in-Guard.op)

pub overflow_add-result-in-Summary : goal.overflow_add-result-in-Summary
overflow_add-result-in-Summary c = omega (arith, c.requires.0, (adds_summary c.in-Summary.is c.requires.1).1)

pub returns-in-Summary-clause-value : goal.returns-in-Summary-clause-value
returns-in-Summary-clause-value c = omega (arith, (adds_summary c.in-Summary.is c.requires.1).0)

pub returns-in-Summary-clause-upper_bound : goal.returns-in-Summary-clause-upper_bound
returns-in-Summary-clause-upper_bound c = omega (arith, c.requires.0, (adds_summary c.in-Summary.is c.requires.1).1)
