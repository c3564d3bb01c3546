-- What refusals 4, 5, 25 and 15 of a certificate say, if and only if, places included: 4 at 0 that its mark, sizes or total are wrong; 5, 25 and
-- 15 that all that is tested before is right and that this is the first entry that isn't, 5 for its words, 25 for its place, its columns or a
-- coefficient 0, and 15 for a row "whose coefficients are all 0"; 25 at 1 that all entries are right and a row word is left. An entry's tests are
-- one list of a family of lists, and a number tells its own test from the others.
use Rattle.std.specs.Prelude.{◌≡◌, ◌↔◌, ◌⊎◌, ℕ, ◌+◌, ◌≤◌, ℤ}
use Rattle.std.proofs.Math.Path.{refl}
use Rattle.std.proofs.Common.{inl, inr, arith}
use Rattle.std.proofs.Math.Logic.Iff.{trans as iff_trans}
use mathlib.Core.List.{List, [], ◌∷◌, ◌++◌}
use Rattle.std.proofs.Math.Option.{some}
use Rattle.words.specs.declared.StoredForm.{StoredForm}
use Rattle.words.specs.Tests.{Refusal, first_failure, refusal_at}
use Rattle.words.specs.FirstFailure.{AllPass, First}
use Rattle.words.proofs.FirstFailure.{append_fails, sooner_fails, later_fails, test_fails, test_passes, pass_gathered, first_gathered, first_means}
use Rattle.certificates.specs.CertificateWords.{entries, entry}
use Rattle.certificates.specs.CertificateTests.{entry_passes, entry_strict, entry_varies, entry_tests, rows_used, header_passes, tests_in}
use Rattle.certificates.specs.ConstantRows.{HasConstant}
use Rattle.certificates.proofs.ConstantRows.{has_constant_iff, vary_iff}
use Rattle.certificates.specs.CertificateForm.{EntryForm, EntryStrict, RowsUsed, HeaderIn}
use Rattle.certificates.proofs.CertificateForm.{header_form, entry_form, entry_strict_lem, rows_used_lem, entry_tests_pass}
use Rattle.certificates.specs.CertificateRefusals.{EntryConstant, EntryFails, EntryLoose, EntryRight, RowsLeft, fifteen, five, four, last, of_entries, twenty_five}

module _ (program witness : List ℤ) (form : StoredForm) where
  -- ---- an entry's tests

  entry_passes_lem : (i : ℕ) → AllPass (entry_tests program witness form i) ↔ (EntryRight program witness form) i
  unfolding entry_varies
  entry_passes_lem i = let s = vary_iff (entry program witness form i) in
      iff_trans (entry_tests_pass program witness form i) (λ x. record { words = x.0; strict = x.1; varies = s.0 x.2 }, λ x. (x.words, x.strict, s.1 x.varies))

  module _ (i : ℕ) (r : Refusal) where
    five_fails : (first_failure ((five program witness form i r) ∷ []) ≡ some r) ↔ ((r.number ≡ 5) × (r.place ≡ 2 + i) × (r.line ≡ 0) × ¬ EntryForm program witness form i)
    five_fails = test_fails 5 (2 + i) 0 (entry_passes program witness form i) (entry_form program witness form i) r

    strict_fails : (first_failure ((twenty_five program witness form i r) ∷ []) ≡ some r) ↔ ((r.number ≡ 25) × (r.place ≡ 2 + i) × (r.line ≡ 0) × ¬ EntryStrict program witness form i)
    strict_fails = test_fails 25 (2 + i) 0 (entry_strict program witness form i) (entry_strict_lem program witness form i) r

    fifteen_fails : (first_failure ((fifteen program witness form i r) ∷ []) ≡ some r) ↔ ((r.number ≡ 15) × (r.place ≡ 2 + i) × (r.line ≡ 0) × HasConstant (entry program witness form i))
    unfolding entry_varies
    fifteen_fails = let z = has_constant_iff (entry program witness form i) in
        iff_trans (test_fails 15 (2 + i) 0 (entry_varies program witness form i) (λ t. t, λ t. t) r) (λ x. (x.0, x.1, x.2, z.0 x.3), λ x. (x.0, x.1, x.2, z.1 x.3))

    -- those after 5
    later_number : first_failure ((twenty_five program witness form i r) ∷ (fifteen program witness form i r) ∷ []) ≡ some r → (15 ≤ r.number) × (16 ≤ r.number → 25 ≤ r.number)
    later_number e = go ((append_fails ((twenty_five program witness form i r) ∷ []) ((fifteen program witness form i r) ∷ []) r).0 e)
      where
        go : (first_failure ((twenty_five program witness form i r) ∷ []) ≡ some r) ⊎ (AllPass ((twenty_five program witness form i r) ∷ []) × (first_failure ((fifteen program witness form i r) ∷ []) ≡ some r)) → (15 ≤ r.number) × (16 ≤ r.number → 25 ≤ r.number)
        go (inl q) = let e = (strict_fails.0 q).0 in (omega arith, λ h. omega arith)
        go (inr (a, q)) = let e = (fifteen_fails.0 q).0 in (omega arith, λ h. omega arith)

    entry_five : r.number ≡ 5 → r.line ≡ 0 → (first_failure (entry_tests program witness form i) ≡ some r) ↔ ((r.place ≡ 2 + i) × ¬ EntryForm program witness form i)
    unfolding entry_tests
    entry_five h z =
        iff_trans (sooner_fails ((five program witness form i r) ∷ []) ((twenty_five program witness form i r) ∷ (fifteen program witness form i r) ∷ []) r (λ e. omega (arith, (later_number e).0))) (iff_trans five_fails (λ x. (x.1, x.3), λ x. (h, x.0, z, x.1)))

    -- 5 passes
    after_five : 6 ≤ r.number → (first_failure (entry_tests program witness form i) ≡ some r) ↔ (EntryForm program witness form i × (first_failure ((twenty_five program witness form i r) ∷ (fifteen program witness form i r) ∷ []) ≡ some r))
    unfolding entry_tests
    after_five h =
        let f = entry_form program witness form i in
        iff_trans (later_fails ((five program witness form i r) ∷ []) ((twenty_five program witness form i r) ∷ (fifteen program witness form i r) ∷ []) r (λ e. omega (arith, (five_fails.0 e).0)))
        (λ x. (f.0 ((test_passes (five program witness form i r)).0 x.0), x.1), λ x. ((test_passes (five program witness form i r)).1 (f.1 x.0), x.1))

    entry_twenty_five : r.number ≡ 25 → r.line ≡ 0 → (first_failure (entry_tests program witness form i) ≡ some r)
        ↔ ((r.place ≡ 2 + i) × (EntryForm program witness form i × ¬ EntryStrict program witness form i))
    entry_twenty_five h none =
        let s = sooner_fails ((twenty_five program witness form i r) ∷ []) ((fifteen program witness form i r) ∷ []) r (λ e. omega (arith, (fifteen_fails.0 e).0)) in
        iff_trans (after_five (omega arith)) (
          λ x. let z = strict_fails.0 (s.0 x.1) in (z.1, (x.0, z.3)),
          λ x. (x.1.0, s.1 (strict_fails.1 (h, x.0, none, x.1.1))),
        )

    entry_fifteen : r.number ≡ 15 → r.line ≡ 0 → (first_failure (entry_tests program witness form i) ≡ some r)
        ↔ ((r.place ≡ 2 + i) × (EntryForm program witness form i × EntryStrict program witness form i × HasConstant (entry program witness form i)))
    entry_fifteen h none =
        let s = later_fails ((twenty_five program witness form i r) ∷ []) ((fifteen program witness form i r) ∷ []) r (λ e. omega (arith, (strict_fails.0 e).0)) in
        iff_trans (after_five (omega arith)) (
          λ x. let y = s.0 x.1 in let z = fifteen_fails.0 y.1 in (z.1, (x.0, (entry_strict_lem program witness form i).0 ((test_passes (twenty_five program witness form i r)).0 y.0), z.3)),
          λ x. (x.1.0, s.1 ((test_passes (twenty_five program witness form i r)).1 ((entry_strict_lem program witness form i).1 x.1.1), fifteen_fails.1 (h, x.0, none, x.1.2))),
        )

    entry_number_lem : first_failure (entry_tests program witness form i) ≡ some r → 5 ≤ r.number
    unfolding entry_tests
    entry_number_lem e = go ((append_fails ((five program witness form i r) ∷ []) ((twenty_five program witness form i r) ∷ (fifteen program witness form i r) ∷ []) r).0 e)
      where
        go : (first_failure ((five program witness form i r) ∷ []) ≡ some r) ⊎ (AllPass ((five program witness form i r) ∷ []) × (first_failure ((twenty_five program witness form i r) ∷ (fifteen program witness form i r) ∷ []) ≡ some r)) → 5 ≤ r.number
        go (inl q) = omega (arith, (five_fails.0 q).0)
        go (inr (a, q)) = omega (arith, (later_number q).0)

  -- ---- all tests

  module _ (r : Refusal) where
    four_fails : (first_failure ((four program witness form r) ∷ []) ≡ some r) ↔ ((r.number ≡ 4) × (r.place ≡ 0) × (r.line ≡ 0) × ¬ HeaderIn program witness form)
    four_fails = test_fails 4 0 0 (header_passes program witness form) (header_form program witness form) r

    last_fails : (first_failure ((last program witness form r) ∷ []) ≡ some r) ↔ ((r.number ≡ 25) × (r.place ≡ 1) × (r.line ≡ 0) × ¬ RowsUsed program witness form)
    last_fails = test_fails 25 1 0 (rows_used program witness form) (rows_used_lem program witness form) r

    entries_number : first_failure (of_entries program witness form r) ≡ some r → 5 ≤ r.number
    entries_number e = let x = (first_gathered (entry_tests program witness form) r (entries program witness)).0 e in entry_number_lem x.index r x.wrong

    all_number : first_failure ((of_entries program witness form r) ++ ((last program witness form r) ∷ [])) ≡ some r → 5 ≤ r.number
    all_number e = go ((append_fails (of_entries program witness form r) ((last program witness form r) ∷ []) r).0 e)
      where
        go : (first_failure (of_entries program witness form r) ≡ some r) ⊎ (AllPass (of_entries program witness form r) × (first_failure ((last program witness form r) ∷ []) ≡ some r)) → 5 ≤ r.number
        go (inl q) = entries_number q
        go (inr (a, q)) = omega (arith, (last_fails.0 q).0)

    after_header : 5 ≤ r.number → (first_failure (tests_in program witness form) ≡ some r)
        ↔ (HeaderIn program witness form × (first_failure ((of_entries program witness form r) ++ ((last program witness form r) ∷ [])) ≡ some r))
    unfolding tests_in
    after_header h =
        let f = header_form program witness form in
        iff_trans (later_fails ((four program witness form r) ∷ []) ((of_entries program witness form r) ++ ((last program witness form r) ∷ [])) r (λ e. omega (arith, (four_fails.0 e).0)))
        (λ x. (f.0 ((test_passes (four program witness form r)).0 x.0), x.1), λ x. ((test_passes (four program witness form r)).1 (f.1 x.0), x.1))

    -- the test of one entry
    of_entry : {Wrong : ℕ → Type 0} → 5 ≤ r.number → (r.number ≡ 25 → ⊥) → ((i : ℕ) → 1 ≤ i → (first_failure (entry_tests program witness form i) ≡ some r) ↔ Wrong i)
        → (first_failure (tests_in program witness form) ≡ some r) ↔ (HeaderIn program witness form × First (entries program witness) (EntryRight program witness form) Wrong)
    of_entry h other wrong =
        let x = first_means (entry_tests program witness form) r (entries program witness) (λ i l. entry_passes_lem i) wrong in
        let s = sooner_fails (of_entries program witness form r) ((last program witness form r) ∷ []) r (λ e. other (last_fails.0 e).0) in
        iff_trans (after_header h) (λ y. (y.0, x.0 (s.0 y.1)), λ y. (y.0, s.1 (x.1 y.1)))

  module _ (place : ℕ) where
    pub first_four : (first_failure (tests_in program witness form) ≡ some (refusal_at 4 place)) ↔ ((place ≡ 0) × ¬ HeaderIn program witness form)
    unfolding tests_in
    first_four =
        let r : Refusal = refusal_at 4 place in
        iff_trans (sooner_fails ((four program witness form) r ∷ []) ((of_entries program witness form) r ++ ((last program witness form) r ∷ [])) r (λ e. omega (arith, all_number r e)))
        (iff_trans (four_fails r) (λ x. (x.1, x.3), λ x. (refl, x.0, refl, x.1)))

    pub first_five : (first_failure (tests_in program witness form) ≡ some (refusal_at 5 place)) ↔ (HeaderIn program witness form × (EntryFails program witness form) place)
    first_five = let r : Refusal = refusal_at 5 place in of_entry r (omega arith) (λ e. omega arith) (λ i l. entry_five i r refl refl)

    pub first_fifteen : (first_failure (tests_in program witness form) ≡ some (refusal_at 15 place)) ↔ (HeaderIn program witness form × (EntryConstant program witness form) place)
    first_fifteen = let r : Refusal = refusal_at 15 place in of_entry r (omega arith) (λ e. omega arith) (λ i l. entry_fifteen i r refl refl)

    pub first_twenty_five : (first_failure (tests_in program witness form) ≡ some (refusal_at 25 place)) ↔ (HeaderIn program witness form × ((EntryLoose program witness form) place ⊎ (RowsLeft program witness form) place))
    first_twenty_five = iff_trans (after_header r (omega arith)) (λ y. (y.0, there ((append_fails ((of_entries program witness form) r) ((last program witness form) r ∷ []) r).0 y.1)), λ y. (y.0, (append_fails ((of_entries program witness form) r) ((last program witness form) r ∷ []) r).1 (back y.1)))
      where
        r : Refusal
        r = refusal_at 25 place

        there : (first_failure ((of_entries program witness form) r) ≡ some r) ⊎ (AllPass ((of_entries program witness form) r) × (first_failure ((last program witness form) r ∷ []) ≡ some r)) → (EntryLoose program witness form) place ⊎ (RowsLeft program witness form) place
        there (inl q) = inl ((first_means (entry_tests program witness form) r (entries program witness) (λ i l. entry_passes_lem i) (λ i l. entry_twenty_five i r refl refl)).0 q)
        there (inr (a, q)) =
            let z = (last_fails r).0 q in
            inr (record { stands = z.1; right = λ i l h. (entry_passes_lem i).0 ((pass_gathered (entry_tests program witness form) (entries program witness)).0 a i l h); unused = z.3 })

        back : (EntryLoose program witness form) place ⊎ (RowsLeft program witness form) place → (first_failure ((of_entries program witness form) r) ≡ some r) ⊎ (AllPass ((of_entries program witness form) r) × (first_failure ((last program witness form) r ∷ []) ≡ some r))
        back (inl x) = inl ((first_means (entry_tests program witness form) r (entries program witness) (λ i l. entry_passes_lem i) (λ i l. entry_twenty_five i r refl refl)).1 x)
        back (inr x) =
            inr ((pass_gathered (entry_tests program witness form) (entries program witness)).1 (λ i l h. (entry_passes_lem i).1 (x.right i l h)), (last_fails r).1 (refl, x.stands, refl, x.unused))
