-- Demand 3, whole: let the check of a program's and a certificate's words answer safe. Then every run of that program, from any globals and
-- parameters of main, "whatever the plain locals hold at main's start and at each call's entry", by any list of steps, either side at each `?`,
-- over unbounded whole numbers, to any length and depth of calls, stays within the certificate: it doesn't stand at the error vertex, each
-- open call meets a path edge of its place, and each call that got to its exit met there a summary edge. Safe gives a witness that works for
-- each entailment, and with these each step keeps that.
use Rattle.std.specs.Prelude.{◌≡◌, List, ℕ, ℤ}
use Rattle.programs.specs.Decode as decode
use Rattle.programs.proofs.Formed.{program_formed}
use Rattle.programs.specs.Runs.{State, Run}
use Rattle.certificates.specs.CertificateWords.{certificate}
use Rattle.certificates.specs.Claim.{Within}
use Rattle.certificates.proofs.Soundness.{sound}
use Rattle.words.specs.Answer.{safe}
use Rattle.checker.specs.Check.{judged}
use Rattle.checker.specs.Demand2.{Accepted, Witnessed}
use Rattle.checker.proofs.Demand2.{safe_answered, judged_accepted}

pub demand_3 : (program witness : List ℤ) (buffer count : ℕ) → Accepted program witness buffer count
    → {s : State} (run : Run (decode.program program) s) → Within (decode.program program) (certificate program witness) run
demand_3 program witness buffer count e run =
    let a : Witnessed program witness count = (safe_answered program witness buffer count).0 e in
    sound (decode.program program) (certificate program witness) a.witnesses (program_formed program a.forms.program_form) a.work run

-- the same of the judgement alone, which answers for certificates
pub judged_safe : (program witness : List ℤ) (count : ℕ) → judged program witness ≡ safe count
    → {s : State} (run : Run (decode.program program) s) → Within (decode.program program) (certificate program witness) run
judged_safe program witness count e = demand_3 program witness 0 count (judged_accepted program witness 0 count e)
