-- The number of entries and the columns of an entry, by the sizes that the code carries: these are the program's, and the choice between a
-- vertex's entry and a summary is the definition's.
use Rattle.std.specs.Prelude.{◌≡◌, List, ℕ, ◌+◌, ◌-◌, ◌≤◌, ◌<◌, ℤ}
use Rattle.std.proofs.Common.{arith, le-leb}
use Rattle.std.proofs.lemmas.Bool.{lt-leb}
use Rattle.programs.specs.ProgramWords.{n, p, k, parameters}
use Rattle.certificates.specs.CertificateWords.{entries, edge_columns}
use Rattle.program_readers.specs.Sizes.{Header}
use Rattle.program_readers.specs.declared.places.Sizes.{Sizes}

module _ (program witness : List ℤ) (sizes : Sizes) (h : Header program sizes) where
  pub entries_is : sizes.statements + sizes.procedures + sizes.procedures ≡ entries program witness
  entries_is = rw (h.statements, h.procedures)

  module _ (i : ℕ) where
    pub vertex_columns : i ≤ sizes.statements + sizes.procedures → {columns : ℕ} → columns ≡ k program i → columns + columns ≡ edge_columns program witness i
    unfolding edge_columns
    vertex_columns l e = rw e (simp (le-leb i (n program + p program) (omega (arith, h.statements, h.procedures))))

    pub summary_columns_lem : sizes.statements + sizes.procedures < i → {formals : ℕ} → formals ≡ parameters program (i - (sizes.statements + sizes.procedures))
        → sizes.globals + formals + sizes.globals ≡ edge_columns program witness i
    unfolding edge_columns
    summary_columns_lem l e = rw (e, h.globals, h.statements, h.procedures) (simp (lt-leb i (n program + p program) (omega (arith, h.statements, h.procedures))))
