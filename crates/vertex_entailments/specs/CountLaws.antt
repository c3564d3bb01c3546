-- How many entailments a disjunct has, by the row of its vertex; a condition is in Conditions. The number doesn't depend on the disjunct, since each
-- entailment is for a case of the guard.
use Rattle.std.specs.Prelude.{◌≡◌, List, ℕ, ◌+◌, ◌≤◌, ◌<◌, ℤ, length}
use Rattle.std.proofs.Common.{arith}
use Rattle.std.proofs.Math.ListN.{length-map}
use Rattle.programs.specs.ProgramWords.{n, p}
use Rattle.programs.specs.ProgramForm.{ProgramForm}
use Rattle.programs.specs.Decode.{skip_row, assign_row, fields_of, meaning}
use Rattle.programs.specs.StatementRows.{IsCall}
use Rattle.programs.proofs.StatementRows.{called}
use Rattle.certificates.specs.Certificate.{Disjunct, summary_edges}
use Rattle.certificates.specs.CertificateWords.{stored_form, certificate, entry, entry_count, summary_entry, count_of}
use Rattle.certificates.proofs.Entries.{summary_entry_lem, length_disjuncts_of}
use Rattle.certificates.specs.Entailments.{from_statement}
use Rattle.vertex_entailments.specs.Given.{cases_of}
use Rattle.vertex_entailments.specs.StatementRows.{row_cases, exit_entailment_lem}

module _ (program witness : List ℤ) (v : ℕ) where
  pub exit_count : n program < v → (d : Disjunct) → length (cases_of program witness v d) ≡ 1
  exit_count h d = rw (exit_entailment_lem program witness v h d)

  module _ (low : 1 ≤ v) (high : v ≤ n program) (d : Disjunct) where
    pub skip_count : {next : ℕ} → fields_of program v ≡ skip_row next → length (cases_of program witness v d) ≡ 1
    unfolding meaning from_statement
    skip_count e = rw (row_cases program witness v low high e d)

    pub assign_count : {next column at : ℕ} → fields_of program v ≡ assign_row next column at → length (cases_of program witness v d) ≡ 1
    unfolding meaning from_statement
    assign_count e = rw (row_cases program witness v low high e d)

  summary_length : (q : ℕ) → 1 ≤ q → q ≤ p program → length (summary_edges (certificate program witness) q) ≡ count_of witness (n program + p program + q)
  unfolding summary_entry entry entry_count
  summary_length q l h = rw (summary_entry_lem program witness (stored_form witness) q l h, length_disjuncts_of)

  -- a call has one to the callee's first vertex, and one for each disjunct of its summary
  pub call_count : {back callee actuals : ℕ} → ProgramForm program → IsCall program v back callee actuals → (d : Disjunct)
      → length (cases_of program witness v d) ≡ 1 + count_of witness (n program + p program + callee)
  unfolding meaning from_statement
  call_count {callee = callee} f c d =
      let h = called program v f c in
      rw (row_cases program witness v c.low c.high c.row d, length-map, summary_length callee h.callee_low h.callee_high) (omega arith)
