-- "The answer safe carries the entailment count, at most 1 + 9 × (path disjuncts)", which are at most 8 for each of at most 1,056 vertices.
use Rattle.std.specs.Prelude.{List, ℕ, ◌+◌, ◌*◌, ◌≤◌, ℤ}
use Rattle.programs.specs.Decode as decode
use Rattle.programs.proofs.Formed.{length_statements, length_procedures}
use Rattle.certificates.specs.CertificateWords.{stored_form, certificate}
use Rattle.certificates.proofs.Entries.{summary_most}
use Rattle.certificates.proofs.Count.{count_bound}
use Rattle.checker.specs.Demand2.{Accepted, Witnessed}
use Rattle.checker.proofs.Demand2.{safe_answered}
use Rattle.checker.specs.CountBound.{path_disjuncts}

pub safe_count : (program witness : List ℤ) (buffer count : ℕ) → Accepted program witness buffer count → count ≤ 1 + 9 * path_disjuncts program witness
unfolding path_disjuncts
safe_count program witness buffer count e =
    let a : Witnessed program witness count = (safe_answered program witness buffer count).0 e in
    rw a.counted (rw (← length_statements program, ← length_procedures program) (count_bound (decode.program program) (certificate program witness) (summary_most program witness (stored_form witness))))
