-- What is known once the tests of a form have passed: the sizes are the program's, the certificate has the form, and these are its row words. An
-- entry has its disjuncts where it says.
use Rattle.std.specs.Prelude.{◌≡◌, refl, List, ℤ}
use Prim.Native.Nat.{ℕ, zero, suc, ◌+◌, ◌<◌}
use Rattle.std.proofs.Common.{arith}
use Rattle.words.specs.declared.StoredForm.{StoredForm}
use Rattle.certificates.specs.CertificateWords as words
use Rattle.certificates.specs.CertificateForm.{DisjunctsForm, none, FormIn}
use Rattle.certificates.proofs.CertificateForm.{entry_placed}
use Rattle.program_readers.specs.Sizes.{Header}
use Rattle.program_readers.specs.declared.places.Sizes.{Sizes}
use Rattle.certificate_form.specs.EdgeColumns.{entries_is}

pub record Given (program certificate : List ℤ) (form : StoredForm) (sizes : Sizes) (rows : List ℤ) : Type 0 where
  pub header : Header program sizes
  pub formed : FormIn program certificate form
  pub row_words : rows ≡ words.row_words program certificate

pub many : {program certificate : List ℤ} {form : StoredForm} {sizes : Sizes} {rows : List ℤ} → Given program certificate form sizes rows
    → sizes.statements + sizes.procedures + sizes.procedures ≡ words.entries program certificate
many {program} {certificate} {sizes = sizes} g = entries_is program certificate sizes g.header

-- ---- entry i + 1, as it was read

module _ (program certificate : List ℤ) (form : StoredForm) (i : ℕ) (h : i < words.entries program certificate) {rows : List ℤ} {m columns count place : ℕ} (r : rows ≡ words.row_words program certificate)
    (c : columns ≡ words.edge_columns program certificate (i + 1)) (n : count ≡ words.count_of certificate (i + 1)) (e : m ≡ words.entries program certificate) (p : place ≡ words.place_of certificate m (i + 1)) where
  -- its disjuncts, if it has any, stand where it says
  stands : FormIn program certificate form → (k : ℕ) → k ≡ words.count_of certificate (i + 1)
      → DisjunctsForm form (words.row_words program certificate) (words.edge_columns program certificate (i + 1)) k (words.place_of certificate (words.entries program certificate) (i + 1))
  unfolding words.entry_count words.entry_place
  stands f zero q = none
  stands f (suc k) q = rw q (entry_placed program certificate form (i + 1) (f.entry (i + 1) (omega arith) (omega arith)) (omega arith))

  pub entry_stands : FormIn program certificate form → DisjunctsForm form rows columns count place
  entry_stands f = rw (r, c, n, p, e) (stands f (words.count_of certificate (i + 1)) refl)
