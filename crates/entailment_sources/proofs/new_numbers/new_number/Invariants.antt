-- `new_number` meets its contract: after i turns the number is how many of the first i bytes are 1.
use Rattle.std.proofs.Common.{◌≡◌}
use Rattle.trimming.specs.KeptMembers.{new_number}
use Rattle.entailment_sources.specs.NewNumbers.{flagged}
use Rattle.entailment_sources.proofs.new_numbers.new_number.Given as goal

abbrev pub invariant-loop-i : goal.invariant-loop-i
invariant-loop-i l = l.number ≡ new_number (flagged l.flags) l.i
