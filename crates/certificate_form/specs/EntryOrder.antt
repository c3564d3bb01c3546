-- The tests of an entry over plain numbers, in their order, and how a walk over a sparse entry's words answers all three: it begins at the entry's place,
-- which 25 then asks to be the next free one.
use Rattle.std.specs.Prelude.{◌≡◌, refl, Bool, ◌&&◌, ◌||◌, List, ℕ, zero, suc, ◌≤◌, T, eqb, ℤ, pos, drop}
use Rattle.std.proofs.Math.Path.{sym}
use Rattle.std.proofs.Common.{ap, ◌∙◌}
use Rattle.std.proofs.Math.Bool.{true, false, and_assoc}
use Rattle.std.proofs.Math.Dec.{eqb-suc-zero}
use Rattle.basics.proofs.Booleans.{holds, is_true, and_l, and_r}
use Rattle.basics.specs.Integers.{eq_z}
use Rattle.basics.proofs.Integers.{eq_z→eq}
use Rattle.words.specs.declared.StoredForm.{StoredForm}
use Rattle.words.specs.declared.StoredForm.TheVariants.{Sparse}
use Rattle.words.specs.Limits.{most_words, most_disjuncts}
use Rattle.words.specs.Words.{word, number, within}
use Rattle.words.proofs.Ranges.{number_of}
use Rattle.words.specs.Tests.{Test}
use Rattle.certificates.specs.Certificate.{edges_vary}
use Rattle.certificates.specs.CertificateWords.{disjuncts_of, disjuncts_end, count_place, count_of, place_word, place_of}
use Rattle.certificates.specs.CertificateTests.{disjuncts_pass, disjuncts_strict, entry_passes_of, entry_strict_of}
use Rattle.certificates.specs.EntryTests.{in_order}
use Rattle.certificates.specs.CertificateForm.{DisjunctsStrict}
use Rattle.certificates.proofs.CertificateForm.{disjuncts_form, disjuncts_strict_lem}
use Rattle.certificate_form.specs.DisjunctWalks.{disjuncts_filled}
use Rattle.certificate_form.specs.SparseVarying.{filled_varies}

module _ (rows witness : List ℤ) (entries columns i : ℕ) where
  abbrev pub varies_of : StoredForm → Bool
  varies_of form = edges_vary (disjuncts_of form columns (count_of witness i) (drop (place_of witness entries i) rows))

  abbrev pub entry_tests_of : StoredForm → ℕ → List Test
  entry_tests_of form free = in_order (count_place i) (entry_passes_of form rows witness entries columns i) (entry_strict_of form rows witness entries columns free i) (varies_of form)

  -- ---- a sparse entry, by a walk over the disjuncts at its place

  abbrev count : ℕ
  count = count_of witness i

  abbrev place : ℕ
  place = place_of witness entries i

  -- 5 asks for the walk's answer only where there are disjuncts, and where there are none it is no other
  with_walk : (n : ℕ) (placed walked : Bool) → (n ≡ 0 → walked ≡ true) → (eqb n 0 || (placed && walked)) ≡ ((eqb n 0 || placed) && walked)
  with_walk zero placed walked e = sym (e refl)
  with_walk (suc n) placed walked e = rw eqb-suc-zero

  pub five_is : (counted placed : Bool) → counted ≡ within 0 most_disjuncts (word witness (count_place i)) → placed ≡ within 0 most_words (place_word witness entries i)
      → entry_passes_of Sparse rows witness entries columns i ≡ (counted && (eqb count 0 || placed)) && disjuncts_pass Sparse rows columns count place
  unfolding entry_passes_of disjuncts_pass
  five_is counted placed e f =
      rw (← e, ← f) (ap (λ (b : Bool). counted && b) (with_walk count placed (disjuncts_pass Sparse rows columns count place) (λ z. rw z)) ∙ sym (and_assoc counted (eqb count 0 || placed) (disjuncts_pass Sparse rows columns count place)))

  module _ (free : ℕ) (few : free ≤ most_words) where
    at_free : eq_z (place_word witness entries i) (pos free) ≡ true → place ≡ free
    at_free e = ap (number most_words) (eq_z→eq (place_word witness entries i) (pos free) (holds e)) ∙ number_of most_words free few

    -- 25 is asked at the next free place, which is the entry's, or it has failed
    pub strict_is : (here : Bool) → here ≡ eq_z (place_word witness entries i) (pos free) → entry_strict_of Sparse rows witness entries columns free i ≡ here && disjuncts_strict Sparse rows columns count place
    unfolding entry_strict_of
    strict_is true e = rw (← e, at_free (sym e))
    strict_is false e = rw (← e)

    -- then all of it is known
    module _ (passes : disjuncts_pass Sparse rows columns count place ≡ true) (strict : entry_strict_of Sparse rows witness entries columns free i ≡ true) where
      both : T (eq_z (place_word witness entries i) (pos free) && disjuncts_strict Sparse rows columns count free)
      unfolding entry_strict_of
      both = holds strict

      free_is : place ≡ free
      free_is = at_free (is_true (eq_z (place_word witness entries i) (pos free)) (and_l (eq_z (place_word witness entries i) (pos free)) _ both))

      strictly : DisjunctsStrict Sparse rows columns count place
      strictly = rw free_is ((disjuncts_strict_lem Sparse rows columns count free).0 (and_r (eq_z (place_word witness entries i) (pos free)) _ both))

      pub fifteen_is : disjuncts_filled rows columns count place ≡ varies_of Sparse
      fifteen_is = filled_varies rows columns count place ((disjuncts_form Sparse rows columns count place).0 (holds passes)) strictly

      pub end_is : disjuncts_end Sparse rows columns count place ≡ disjuncts_end Sparse rows columns count free
      end_is = ap (disjuncts_end Sparse rows columns count) free_is
