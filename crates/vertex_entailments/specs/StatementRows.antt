-- The entailments of a disjunct, by the row of its statement; an exit has no statement, and one entailment.
use Rattle.std.specs.Prelude.{◌≡◌, List, [], ◌∷◌, ℕ, ◌+◌, ◌-◌, ◌≤◌, ◌<◌, ℤ}
use Rattle.std.proofs.Common.{ap}
use Rattle.std.proofs.Math.Option.{none}
use native.Mathlib.Omega.{arith}
use Rattle.programs.specs.Program.{statement_at, exit_of}
use Rattle.programs.specs.ProgramWords.{n, procedure_of, k}
use Rattle.programs.proofs.Formed.{statement_is, owner_is, length_statements}
use Rattle.programs.proofs.FormLaws.{exit_no_statement}
use Rattle.programs.specs.Decode as decode
use Rattle.programs.specs.Decode.{Fields, fields_of, meaning, statement}
use Rattle.certificates.specs.Certificate.{Disjunct}
use Rattle.certificates.specs.CertificateWords.{certificate}
use Rattle.certificates.specs.Entailments.{from_statement, exit_entailment, from_disjunct}
use Rattle.vertex_entailments.specs.Given.{cases_of}

module _ (program witness : List ℤ) where
  -- a statement's disjunct
  pub row_cases : (v : ℕ) → 1 ≤ v → v ≤ n program → {r : Fields} → fields_of program v ≡ r → (d : Disjunct)
      → cases_of program witness v d ≡ from_statement (decode.program program) (certificate program witness) (procedure_of program v) (meaning program (k program v) r) d
  unfolding cases_of from_disjunct statement
  row_cases v low high e d =
      rw (owner_is program v, statement_is program v low high)
      (ap (λ x. from_statement (decode.program program) (certificate program witness) (procedure_of program v) (meaning program (k program v) x) d) e)

  -- an exit's
  no_statement : (v : ℕ) → n program < v → statement_at (decode.program program) v ≡ none
  unfolding exit_of
  no_statement v h =
      let e : n program + (v - n program) ≡ v = omega arith in
      rw (length_statements program, e) at (exit_no_statement (decode.program program) (v - n program) (omega arith))

  pub exit_entailment_lem : (v : ℕ) → n program < v → (d : Disjunct)
      → cases_of program witness v d ≡ exit_entailment (decode.program program) (certificate program witness) (procedure_of program v) d ∷ []
  unfolding cases_of from_disjunct
  exit_entailment_lem v h d = rw (owner_is program v, no_statement v h)
