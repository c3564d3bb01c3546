-- Demand 3 over decoded programs and certificates: where each entailment has a witness that works, every run, whatever its start, its
-- length, its depth and its mixture of steps, stays within the certificate. By induction over the list of steps.
use mathlib.Core.List.Memᴰ
use Rattle.programs.specs.Program.{Program}
use Rattle.programs.specs.Runs.{Waiting}
use Rattle.certificates.specs.Certificate.{Certificate}
use Rattle.certificates.specs.Claim.{OpenCall}

module _ (p : Program) (c : Certificate) where
  abbrev pub waiting : Waiting → OpenCall
  waiting w = record { call = w.caller; globals = w.aside }
