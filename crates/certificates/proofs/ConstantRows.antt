-- Constant rows, those "whose coefficients are all 0": that the test finds one if and only if there is one, and that the edges of a certificate
-- that has the form have none.
use Rattle.std.specs.Prelude.{◌≡◌, refl, ℕ, ◌↔◌, Bool, true, false, not, ◌&&◌, T, ℤ}
use Rattle.std.proofs.Common.{sym, subst, inl, inr, T_not}
use mathlib.Core.List.Memᴰ
use mathlib.Core.List.{List, [], ◌∷◌, Memᴰ}
use Rattle.std.proofs.Math.Dec.{not_T}
use Rattle.basics.proofs.Booleans.{and_l, and_r, not_not}
use Rattle.rows.specs.Rows.{Row, all_zero}
use Rattle.rows.proofs.Agreement.{zero_in, zero_each}
use Rattle.certificates.specs.Certificate.{Disjunct, varies, rows_vary, edges_vary, path_edges, summary_edges}
use Rattle.certificates.specs.CertificateWords.{entry, certificate_in}
use Rattle.certificates.specs.CertificateTests.{entry_varies}
use Rattle.certificates.specs.CertificateForm.{FormIn}
use Rattle.certificates.specs.Entries.{Found}
use Rattle.certificates.proofs.Entries.{path_found, summary_found}
use Rattle.words.specs.declared.StoredForm.{StoredForm}
use Rattle.certificates.specs.ConstantRows.{Constant, HasConstant}

pub constant_iff : (r : Row) → T (not (varies r)) ↔ Constant r
unfolding varies
constant_iff r = (λ t. zero_in r.coefficients (not_not (all_zero r.coefficients) t), λ h. not_T (not (all_zero r.coefficients)) (λ t. T_not (all_zero r.coefficients) t (zero_each r.coefficients h)))

-- what a conjunction over a list holds for, and what it leaves out
module _ {A : Type 0} (all : List A → Bool) (one : A → Bool) (start : all [] ≡ true) (grows : (x : A) (xs : List A) → all (x ∷ xs) ≡ one x && all xs) where
  each_holds : (xs : List A) → T (all xs) → (x : A) → Memᴰ x xs → T (one x)
  each_holds [] t x m = absurd (Memᴰ.not-nil m)
  each_holds (y ∷ xs) t x (Memᴰ.head e) = subst (λ (z : A). T (one z)) (sym e) (and_l (one y) (all xs) (rw grows at t))
  each_holds (y ∷ xs) t x (Memᴰ.tail m) = each_holds xs (and_r (one y) (all xs) (rw grows at t)) x m

  some_fails : (xs : List A) → ¬ T (all xs) → (x : A) × Memᴰ x xs × ¬ T (one x)
  some_fails [] h = absurd (h (rw start tt))
  some_fails (x ∷ xs) h = go (one x) refl (some_fails xs) (rw grows at h)
    where
      go : (b : Bool) → one x ≡ b → (¬ T (all xs) → (y : A) × Memᴰ y xs × ¬ T (one y)) → ¬ T (b && all xs) → (y : A) × Memᴰ y (x ∷ xs) × ¬ T (one y)
      go true q r h = let y = r h in (y.0, Memᴰ.tail y.1, y.2)
      go false q r h = (x, Memᴰ.head refl, rw q (λ t. t))

pub has_constant_iff : (ds : List Disjunct) → ¬ T (edges_vary ds) ↔ HasConstant ds
unfolding edges_vary rows_vary
has_constant_iff ds = (there, back)
  where
    there : ¬ T (edges_vary ds) → HasConstant ds
    there h =
        let d = some_fails edges_vary rows_vary refl (λ x xs. refl) ds h in
        let r = some_fails rows_vary varies refl (λ x xs. refl) d.0 d.2 in
        record { disjunct = d.0; row = r.0; listed = d.1; held = r.1; constant = (constant_iff r.0).0 (not_T (varies r.0) r.2) }

    back : HasConstant ds → ¬ T (edges_vary ds)
    back c t =
        let d : T (rows_vary c.disjunct) = each_holds edges_vary rows_vary refl (λ x xs. refl) ds t c.disjunct c.listed in
        T_not (varies c.row) ((constant_iff c.row).1 c.constant) (each_holds rows_vary varies refl (λ x xs. refl) c.disjunct d c.row c.held)

pub vary_iff : (ds : List Disjunct) → T (edges_vary ds) ↔ ¬ HasConstant ds
vary_iff ds = (λ t c. (has_constant_iff ds).1 c t, λ h. not_not (edges_vary ds) (not_T (not (edges_vary ds)) (λ t. h ((has_constant_iff ds).0 (T_not (edges_vary ds) t)))))

-- ---- the edges of a certificate that has the form

module _ (program witness : List ℤ) (form : StoredForm) (f : FormIn program witness form) where
  found_varies : {ds : List Disjunct} → Found program witness form ds → ¬ HasConstant ds
  unfolding entry_varies
  found_varies (inl e) = rw e (λ c. Memᴰ.not-nil c.listed)
  found_varies (inr x) = rw x.3 ((vary_iff (entry program witness form x.0)).0 (f.varies x.0 x.1 x.2))

  pub path_varies : (v : ℕ) → ¬ HasConstant (path_edges (certificate_in program witness form) v)
  path_varies v = found_varies (path_found program witness form v)

  pub summary_varies : (q : ℕ) → ¬ HasConstant (summary_edges (certificate_in program witness form) q)
  summary_varies q = found_varies (summary_found program witness form q)
