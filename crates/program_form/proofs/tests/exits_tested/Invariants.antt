-- No exit passed so far fails.
use Rattle.std.proofs.Common.{◌≡◌}
use Rattle.std.proofs.Math.Option.{none}
use Rattle.basics.specs.Lists.{listed}
use Rattle.words.specs.Tests.{first_failure}
use Rattle.programs.specs.ProgramTests.{exit_test}
use Rattle.program_form.proofs.tests.exits_tested.Given as goal

abbrev pub invariant-loop-i : goal.invariant-loop-i
invariant-loop-i l = first_failure (listed (exit_test l.program) l.i) ≡ none
