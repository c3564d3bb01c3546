-- The next free place, as a loop over the entries carries it: of a sparse certificate it is where the words of the entries so far end, in the row words,
-- since each of them stands where those before it end. A dense certificate has none.
use Rattle.std.proofs.Math.Path.{◌≡◌, refl, sym, ap}
use Rattle.std.proofs.Common.{◌∙◌, add-one}
use Rattle.std.specs.Prelude.{List, ℤ, length}
use Rattle.std.proofs.Math.Option.{none}
use Prim.Native.Nat.{ℕ, zero, suc, ◌+◌, ◌-◌, ◌≤◌}
use native.Mathlib.Omega.{arith}
use Rattle.std.proofs.Math.IntN.{pos}
use Rattle.basics.proofs.Integers.{ints}
use Rattle.words.specs.declared.StoredForm.{StoredForm}
use Rattle.words.specs.declared.StoredForm.TheVariants.{Dense, Sparse}
use Rattle.words.specs.Tests.{first_failure}
use Rattle.words.proofs.FirstFailure.{no_failure}
use Rattle.certificates.specs.CertificateWords.{R, entries, row_words, edge_columns, entry, entry_count, entry_place, entry_place_word, count_of, disjuncts_end, next_free}
use Rattle.certificates.specs.CertificateTests.{entry_passes, entry_strict_of, entry_strict, entry_varies, entry_tests, rows_used_of, rows_used}
use Rattle.certificates.specs.CertificateForm.{DisjunctsForm, EntryForm, InOrder}
use Rattle.certificates.proofs.CertificateForm.{entry_tests_pass}
use Rattle.certificates.proofs.CertificateLookUps.{end_inside}
use Rattle.certificate_form.specs.EntryOrder.{entry_tests_of}

unfoldable pub free_after : StoredForm → List ℤ → ℕ → ℕ → ℕ → ℕ
free_after Dense rows columns count free = free
free_after Sparse rows columns count free = disjuncts_end Sparse rows columns count free

module _ (program witness : List ℤ) where
  -- what the loop knows of it after i entries
  pub record Free (form : StoredForm) (i free : ℕ) : Type 0 where
    pub inside : free ≤ length (row_words program witness)
    pub next : form ≡ Sparse → free ≡ next_free program witness Sparse i

  pub free_none : (form : StoredForm) → Free form 0 0
  unfolding next_free
  free_none form = record { inside = omega arith; next = λ e. refl }

  -- ---- an entry more

  free_suc : (i : ℕ) → disjuncts_end Sparse (row_words program witness) (edge_columns program witness (i + 1)) (count_of witness (i + 1)) (next_free program witness Sparse i) ≡ next_free program witness Sparse (i + 1)
  unfolding next_free entry_count
  free_suc i = ap (λ (j : ℕ). next_free program witness Sparse j) (sym (add-one i))

  -- where it stands, if it has disjuncts, they end in the row words
  ends : (i free n : ℕ) → free ≤ length (row_words program witness) → entry_place_word program witness i ≡ pos free
      → (1 ≤ n → (place : ℕ) × (entry_place_word program witness i ≡ pos place) × DisjunctsForm Sparse (row_words program witness) (edge_columns program witness i) n place)
      → disjuncts_end Sparse (row_words program witness) (edge_columns program witness i) n free ≤ length (row_words program witness)
  unfolding disjuncts_end
  ends i free zero l e f = l
  ends i free (suc n) l e f =
      let (place, same, g) = f (omega arith) in
      let q : place ≡ free = omega (arith, ints, e, same) in
      end_inside l (rw q at g)

  module _ (i free : ℕ) {rows : List ℤ} {columns count : ℕ} (r : rows ≡ row_words program witness) (w : columns ≡ edge_columns program witness (i + 1)) (n : count ≡ count_of witness (i + 1)) where
    sparse_next : Free Sparse i free → EntryForm program witness Sparse (i + 1) → InOrder program witness (i + 1) → Free Sparse (i + 1) (disjuncts_end Sparse rows columns count free)
    unfolding entry_count
    sparse_next h f o =
        let b : i + 1 - 1 ≡ i = omega arith in
        let e : entry_place_word program witness (i + 1) ≡ pos free = o.place ∙ ap pos (ap (next_free program witness Sparse) b ∙ sym (h.next refl)) in
        rw (r, w, n)
        (record { inside = ends (i + 1) free (count_of witness (i + 1)) h.inside e f.placed; next = λ q. ap (disjuncts_end Sparse (row_words program witness) (edge_columns program witness (i + 1)) (count_of witness (i + 1))) (h.next refl) ∙ free_suc i })

    pub free_next : (form : StoredForm) → Free form i free → first_failure (entry_tests program witness form (i + 1)) ≡ none → Free form (i + 1) (free_after form rows columns count free)
    unfolding free_after
    free_next Dense h e = record { inside = h.inside; next = λ q. absurd (let z : ◌≡◌ {A = ℕ} 0 1 = cc in omega arith) }
    free_next Sparse h e = let (f, o, v) = (entry_tests_pass program witness Sparse (i + 1)).0 ((no_failure (entry_tests program witness Sparse (i + 1))).0 e) in sparse_next h f o

  -- ---- the tests at it

  module _ (form : StoredForm) (i free : ℕ) {m : ℕ} {rows : List ℤ} {columns : ℕ} (same : m ≡ entries program witness) (r : rows ≡ row_words program witness) (w : columns ≡ edge_columns program witness (i + 1)) where
    strict_is : (form : StoredForm) → Free form i free → entry_strict_of form (row_words program witness) witness (entries program witness) (edge_columns program witness (i + 1)) free (i + 1) ≡ entry_strict program witness form (i + 1)
    unfolding entry_strict_of entry_strict
    strict_is Dense h = refl
    strict_is Sparse h = let b : i + 1 - 1 ≡ i = omega arith in rw (h.next refl, b)

    pub entry_tests_are : Free form i free → entry_tests_of rows witness m columns (i + 1) form free ≡ entry_tests program witness form (i + 1)
    unfolding entry_tests entry_passes entry_varies entry entry_count entry_place
    entry_tests_are h = rw (same, r, w, strict_is form h)

  pub used_is : (form : StoredForm) (free : ℕ) {size : ℕ} → size ≡ R program witness → Free form (entries program witness) free → rows_used_of form free size ≡ rows_used program witness form
  unfolding rows_used_of rows_used
  used_is Dense free e h = refl
  used_is Sparse free e h = rw (e, h.next refl)
