-- `values_tested` meets its contract. The loop's invariant: no value passed so far fails.
use Rattle.std.proofs.Common.{◌≡◌}
use Rattle.std.proofs.Math.Option.{none}
use Rattle.basics.specs.Lists.{listed}
use Rattle.words.specs.Tests.{first_failure}
use Rattle.trace_steps.specs.ValueTests.{value_test}
use Rattle.trace_steps.proofs.starts.values_tested.Given as goal

abbrev pub invariant-loop-i : goal.invariant-loop-i
invariant-loop-i l = first_failure (listed (value_test l.witness l.before) l.i) ≡ none
