-- The form of a certificate's words, said in inequalities over ℤ: it holds if and only if tests 4, 5, 25 and 15 pass, because each of these
-- tests is the conjunction of its inequalities. A place needs no bound of its own: the disjuncts that it is for begin in the row words.
use Rattle.std.specs.Prelude.{◌≡◌, refl, ◌↔◌, ◌&&◌, ◌||◌, List, T, eqb, ℤ, pos, length}
use Rattle.std.proofs.Math.Logic.Iff.{trans as iff_trans}
use Rattle.std.proofs.Math.Option as option
use Prim.Native.Nat.{ℕ, zero, suc, ◌+◌, ◌-◌, ◌≤◌, ◌<◌}
use Rattle.std.proofs.Common.{arith, leb→le, ltb→lt, eqb→eq}
use Rattle.std.proofs.Math.Dec.{le→leb, lt→ltb, eqb_refl, eqb-suc-zero}
use Rattle.std.proofs.Math.ListN.{length-take}
use Rattle.basics.proofs.Booleans.{parts, and, tests}
use Rattle.basics.proofs.Integers.{ints, eq_z→eq, eq→eqZ}
use Rattle.words.specs.declared.StoredForm.{StoredForm}
use Rattle.words.specs.declared.StoredForm.TheVariants.{Dense, Sparse}
use Rattle.words.specs.Limits.{most_words, most_disjuncts, most_rows}
use Rattle.words.specs.Words.{word, within, number}
use Rattle.words.specs.Ranges.{Between}
use Rattle.words.proofs.Ranges.{within_between, within_exactly, number_is, number_most}
use Rattle.words.specs.Tests.{first_failure}
use Rattle.words.specs.FirstFailure.{AllPass}
use Rattle.words.proofs.FirstFailure.{no_failure, pass_cons, pass_append, pass_gathered, test_passes, none_pass}
use Rattle.words.proofs.StoredRows.{rows_form_in, strict_rows_in}
use Rattle.certificates.specs.CertificateWords.{mark_of, stored_form, row_count, disjunct_words, R, entries, count_word, entry_place_word, row_words, edge_columns, entry_count, entry_place, certificate_in, next_free, certificate}
use Rattle.certificates.specs.CertificateTests.{disjunct_passes, disjuncts_pass, disjuncts_strict, entry_passes, entry_passes_of, entry_strict, entry_strict_of, entry_varies, entry_tests, rows_used, rows_used_of, header_passes, header_passes_of, tests_in}
use Rattle.certificates.specs.CertificateForm.{CertificateForm, DisjunctsForm, DisjunctsStrict, EntryForm, EntryStrict, FormIn, HeaderIn, RowsUsed, more, more_strict, none, none_strict}

module _ {form : StoredForm} {words : List ℤ} {columns : ℕ} where
  pub starts_inside : {i at : ℕ} → 1 ≤ i → DisjunctsForm form words columns i at → at < length words
  starts_inside h none = absurd (omega arith)
  starts_inside h (more starts _ _ _ _) = starts

  -- the place that a word is: where disjuncts begin there, in the row words, it isn't past the limit of a place
  place_range : {i at : ℕ} (z : ℤ) → length words ≤ most_words → z ≡ pos at → 1 ≤ i → DisjunctsForm form words columns i at
      → T (within 0 most_words z) × (at ≡ number most_words z)
  place_range z few e h f =
      let b : Between (pos 0) (pos most_words) z = omega (arith, ints, starts_inside h f) in
      let same : z ≡ pos (number most_words z) = number_is most_words most_words z (omega arith) b.least b.most in
      ((within_between 0 most_words z).1 b, cc)

module _ (form : StoredForm) (words : List ℤ) (columns : ℕ) where
  form_of_passes : (i at : ℕ) → T (disjuncts_pass form words columns i at) → DisjunctsForm form words columns i at
  unfolding disjuncts_pass disjunct_passes
  form_of_passes zero at t = none
  form_of_passes (suc i) at t =
      more (ltb→lt at (length words) (search parts)) ((within_between 0 most_rows (word words at)).0 (search parts))
      (leb→le (at + disjunct_words form columns words at) (length words) (search parts)) ((rows_form_in form words (at + 1) columns (row_count words at)).0 (search parts))
      (form_of_passes i (at + disjunct_words form columns words at) (search parts))

  passes_of_form : (i at : ℕ) → DisjunctsForm form words columns i at → T (disjuncts_pass form words columns i at)
  unfolding disjuncts_pass disjunct_passes
  passes_of_form zero at none = tt
  passes_of_form (suc i) at (more starts count ends f g) =
      search (
        and,
        lt→ltb,
        le→leb,
        (within_between 0 most_rows (word words at)).1,
        (rows_form_in form words (at + 1) columns (row_count words at)).1,
        passes_of_form i (at + disjunct_words form columns words at) g,
      )

  pub disjuncts_form : (i at : ℕ) → T (disjuncts_pass form words columns i at) ↔ DisjunctsForm form words columns i at
  disjuncts_form i at = (form_of_passes i at, passes_of_form i at)

  placed_form : (i : ℕ) (z : ℤ) → length words ≤ most_words
      → T (eqb i 0 || (within 0 most_words z && disjuncts_pass form words columns i (number most_words z)))
      ↔ (1 ≤ i → (place : ℕ) × (z ≡ pos place) × DisjunctsForm form words columns i place)
  placed_form zero z few = (λ t h. absurd (omega arith), λ f. tt)
  placed_form (suc i) z few = rw eqb-suc-zero (λ t h. there t, λ f. back (f (omega arith)))
    where
      there : T (within 0 most_words z && disjuncts_pass form words columns (suc i) (number most_words z)) → (place : ℕ) × (z ≡ pos place) × DisjunctsForm form words columns (suc i) place
      there t =
          let b : Between (pos 0) (pos most_words) z = (within_between 0 most_words z).0 (search parts) in
          (number most_words z, number_is most_words most_words z (omega arith) b.least b.most, form_of_passes (suc i) (number most_words z) (search parts))

      back : (place : ℕ) × (z ≡ pos place) × DisjunctsForm form words columns (suc i) place → T (within 0 most_words z && disjuncts_pass form words columns (suc i) (number most_words z))
      back x = let r = place_range z few x.1 (omega arith) x.2 in search (and, r.0, rw r.1 at (passes_of_form (suc i) x.0 x.2))

module _ (form : StoredForm) (words : List ℤ) (columns : ℕ) where
  strict_of_test : (i at : ℕ) → T (disjuncts_strict form words columns i at) → DisjunctsStrict form words columns i at
  unfolding disjuncts_strict
  strict_of_test zero at t = none_strict
  strict_of_test (suc i) at t = more_strict ((strict_rows_in form words (at + 1) columns (row_count words at)).0 (search parts)) (strict_of_test i (at + disjunct_words form columns words at) (search parts))

  test_of_strict : (i at : ℕ) → DisjunctsStrict form words columns i at → T (disjuncts_strict form words columns i at)
  unfolding disjuncts_strict
  test_of_strict zero at none_strict = tt
  test_of_strict (suc i) at (more_strict s later) = search (and, (strict_rows_in form words (at + 1) columns (row_count words at)).1 s, test_of_strict i (at + disjunct_words form columns words at) later)

  pub disjuncts_strict_lem : (i at : ℕ) → T (disjuncts_strict form words columns i at) ↔ DisjunctsStrict form words columns i at
  disjuncts_strict_lem i at = (strict_of_test i at, test_of_strict i at)

-- dense rows have none of these
dense_strict : (words : List ℤ) (columns i at : ℕ) → DisjunctsStrict Dense words columns i at
dense_strict words columns zero at = none_strict
dense_strict words columns (suc i) at = more_strict tt (dense_strict words columns i (at + disjunct_words Dense columns words at))

-- disjuncts that are strict where a word says are so at the place that it is
strict_there : (form : StoredForm) (words : List ℤ) (columns i : ℕ) (z : ℤ) → length words ≤ most_words
    → (1 ≤ i → (place : ℕ) × (z ≡ pos place) × DisjunctsForm form words columns i place) → ((place : ℕ) → z ≡ pos place → DisjunctsStrict form words columns i place)
    → DisjunctsStrict form words columns i (number most_words z)
strict_there form words columns zero z few placed strict = none_strict
strict_there form words columns (suc i) z few placed strict = let x = placed (omega arith) in rw (place_range z few x.1 (omega arith) x.2).1 at (strict x.0 x.1)

module _ (program witness : List ℤ) where
  -- the first word tells the form: what has a form is read in it
  stored : (form : StoredForm) → word witness 0 ≡ pos (mark_of form) → stored_form witness ≡ form
  stored Dense e = rw e refl
  stored Sparse e = rw e refl

  pub in_form : (form : StoredForm) → (FormIn program witness) form → (CertificateForm program witness) × (certificate program witness ≡ certificate_in program witness form)
  in_form form f = rw (stored form f.header.mark) (f, refl)

  pub rows_few : length (row_words program witness) ≤ most_words
  unfolding row_words
  rows_few = rw length-take (omega (arith, number_most most_words (word witness 1)))

  strict_form : (form : StoredForm) (i : ℕ) → T (entry_strict program witness form i) ↔ (EntryStrict program witness) form i
  unfolding entry_strict entry_strict_of entry_count
  strict_form Dense i = (λ t. tt, λ s. tt)
  strict_form Sparse i =
      let free : ℕ = next_free program witness Sparse (i - 1) in
      let rising = disjuncts_strict_lem Sparse (row_words program witness) (edge_columns program witness i) (entry_count program witness i) free in
      (λ t. record { place = eq_z→eq (entry_place_word program witness i) (pos free) (search parts); disjuncts = rising.0 (search parts) }, λ s. search (and, eq→eqZ s.place, rising.1 s.disjuncts))

  strict_order : (form : StoredForm) (i : ℕ) → (EntryStrict program witness) form i → (place : ℕ) → entry_place_word program witness i ≡ pos place
      → DisjunctsStrict form (row_words program witness) (edge_columns program witness i) (entry_count program witness i) place
  strict_order Dense i s place e = dense_strict (row_words program witness) (edge_columns program witness i) (entry_count program witness i) place
  strict_order Sparse i s place e = let same : next_free program witness Sparse (i - 1) ≡ place = omega (arith, ints, s.place) in rw same at s.disjuncts

  used_form : (form : StoredForm) → T (rows_used program witness form) ↔ (RowsUsed program witness) form
  unfolding rows_used rows_used_of
  used_form Dense = (λ t. tt, λ u. tt)
  used_form Sparse = let free : ℕ = next_free program witness Sparse (entries program witness) in (eqb→eq free (R program witness), λ e. rw e (eqb_refl (R program witness)))

  module _ (form : StoredForm) where
    pub entry_form : (i : ℕ) → T (entry_passes program witness form i) ↔ (EntryForm program witness) form i
    unfolding entry_passes entry_passes_of entry_count entry_place
    entry_form i =
        let range = within_between 0 most_disjuncts (count_word program witness i) in
        let places = placed_form form (row_words program witness) (edge_columns program witness i) (entry_count program witness i) (entry_place_word program witness i) rows_few in
        (λ t. record { count = range.0 (search parts); placed = places.0 (search parts) }, λ f. search (and, range.1 f.count, places.1 f.placed))

    -- the disjuncts of an entry are where the decoder reads them
    pub entry_placed : (i : ℕ) → (EntryForm program witness) form i → 1 ≤ entry_count program witness i
        → DisjunctsForm form (row_words program witness) (edge_columns program witness i) (entry_count program witness i) (entry_place program witness i)
    unfolding entry_place
    entry_placed i f h = let x = f.placed h in rw (place_range (entry_place_word program witness i) rows_few x.1 h x.2).1 at x.2

    -- and they are as 25 asks
    pub placed_strict : (i : ℕ) → (EntryForm program witness) form i → (EntryStrict program witness) form i → DisjunctsStrict form (row_words program witness) (edge_columns program witness i) (entry_count program witness i) (entry_place program witness i)
    unfolding entry_place
    placed_strict i f s = strict_there form (row_words program witness) (edge_columns program witness i) (entry_count program witness i) (entry_place_word program witness i) rows_few f.placed (strict_order form i s)

    pub entry_strict_lem : (i : ℕ) → T (entry_strict program witness form i) ↔ (EntryStrict program witness) form i
    entry_strict_lem = strict_form form

    pub rows_used_lem : T (rows_used program witness form) ↔ (RowsUsed program witness) form
    rows_used_lem = used_form form

    pub header_form : T (header_passes program witness form) ↔ (HeaderIn program witness) form
    unfolding header_passes header_passes_of
    header_form = (λ t. let x = simp (tests, within_exactly, within_between) at t in search, λ f. simp (tests, within_exactly, within_between) search)

    pub entry_tests_pass : (i : ℕ) → AllPass (entry_tests program witness form i) ↔ ((EntryForm program witness) form i × (EntryStrict program witness) form i × T (entry_varies program witness form i))
    unfolding entry_tests
    entry_tests_pass i =
        iff_trans (pass_cons _ _) (
          λ x. let y = (pass_cons _ _).0 x.1 in ((entry_form i).0 x.0, (entry_strict_lem i).0 y.0, (test_passes _).0 y.1),
          λ x. ((entry_form i).1 x.0, (pass_cons _ _).1 ((entry_strict_lem i).1 x.1, (test_passes _).1 x.2)),
        )

    ruleset all_tests = (no_failure, pass_cons, pass_append, pass_gathered, test_passes, header_form, entry_tests_pass, rows_used_lem)

    pub certificate_form_lem : (first_failure (tests_in program witness form) ≡ option.none) ↔ (FormIn program witness) form
    unfolding tests_in
    certificate_form_lem = (there, back)
      where
        there : first_failure (tests_in program witness form) ≡ option.none → (FormIn program witness) form
        there e = let x = simp all_tests at e in record { header = x.0; entry = λ i l h. (x.1.0 i l h).0; strict = λ i l h. (x.1.0 i l h).1; varies = λ i l h. (x.1.0 i l h).2; used = x.1.1.0 }

        back : (FormIn program witness) form → first_failure (tests_in program witness form) ≡ option.none
        back f = simp all_tests (f.header, (λ i l h. (f.entry i l h, f.strict i l h, f.varies i l h), (f.used, none_pass)))
