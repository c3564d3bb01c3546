-- What refusals 4 and 9 of a trace say, if and only if, places included: 4 at 0 that its mark, sizes or total are wrong; 9 that these are
-- right and that this is the first value beyond its limit, of the start values and then of the entry values, which have a
-- family of tests each.
use Rattle.std.specs.Prelude.{◌≡◌, ◌↔◌, ◌⊎◌, List, [], ◌∷◌, ◌++◌, ℕ, ◌+◌, ◌≤◌, ℤ}
use Rattle.std.proofs.Math.Path.{refl}
use Rattle.std.proofs.Common.{inl, inr, arith}
use Rattle.std.proofs.Math.Logic.Iff.{trans as iff_trans}
use Rattle.std.proofs.Math.Option.{some}
use Rattle.words.specs.Limits.{start_limit}
use Rattle.words.specs.Words.{word, small}
use Rattle.words.proofs.Ranges.{small_between}
use Rattle.words.specs.Tests.{Refusal, test, first_failure, refusal_at}
use Rattle.words.specs.FirstFailure.{AllPass, FirstWrong}
use Rattle.words.proofs.FirstFailure.{append_fails, sooner_fails, later_fails, test_fails, test_passes, pass_listed, first_listed}
use Rattle.traces.specs.TraceWords.{E, starts, entry_value_place}
use Rattle.traces.specs.TraceTests.{header_passes, start_test, entry_value_test, trace_tests}
use Rattle.traces.specs.TraceForm.{TraceHeader}
use Rattle.traces.proofs.TraceForm.{header_form}
use Rattle.traces.specs.TraceRefusals.{EntryFails, EntryInside, StartInside, ValueFails, entry_tests, four, start_tests}

module _ (program witness : List ℤ) where
  starts_pass : AllPass (start_tests program witness) ↔ ((i : ℕ) → 1 ≤ i → i ≤ starts program witness → (StartInside program witness) i)
  starts_pass =
      let pass = pass_listed (λ i. test 9 (2 + i) (small start_limit (word witness (2 + i)))) (starts program witness) in (
        λ a i l h. (small_between start_limit (word witness (2 + i))).0 (pass.0 a i l h),
        λ a. pass.1 (λ i l h. (small_between start_limit (word witness (2 + i))).1 (a i l h)),
      )

  module _ (r : Refusal) where
    four_fails : (first_failure ((four program witness) ∷ []) ≡ some r) ↔ ((r.number ≡ 4) × (r.place ≡ 0) × (r.line ≡ 0) × ¬ TraceHeader program witness)
    four_fails = test_fails 4 0 0 (header_passes program witness) (header_form program witness) r

    start_fails : (first_failure (start_tests program witness) ≡ some r) ↔ ((r.number ≡ 9) × (r.line ≡ 0) × FirstWrong (starts program witness) (StartInside program witness) (λ i. 2 + i) r.place)
    start_fails =
        first_listed 9 (starts program witness) (λ i. 2 + i) (λ i. small start_limit (word witness (2 + i))) (λ i l. small_between start_limit (word witness (2 + i))) r

    entry_fails : (first_failure (entry_tests program witness) ≡ some r) ↔ ((r.number ≡ 9) × (r.line ≡ 0) × FirstWrong (E program witness) (EntryInside program witness) (entry_value_place program witness) r.place)
    entry_fails =
        first_listed 9 (E program witness) (entry_value_place program witness) (λ i. small start_limit (word witness (entry_value_place program witness i)))
        (λ i l. small_between start_limit (word witness (entry_value_place program witness i))) r

    values_fail : (first_failure ((start_tests program witness) ++ (entry_tests program witness)) ≡ some r)
        ↔ ((r.number ≡ 9) × (r.line ≡ 0) × (FirstWrong (starts program witness) (StartInside program witness) (λ i. 2 + i) r.place ⊎ (EntryFails program witness) r.place))
    values_fail = iff_trans (append_fails (start_tests program witness) (entry_tests program witness) r) (there, back)
      where
        there : (first_failure (start_tests program witness) ≡ some r) ⊎ (AllPass (start_tests program witness) × (first_failure (entry_tests program witness) ≡ some r))
            → (r.number ≡ 9) × (r.line ≡ 0) × (FirstWrong (starts program witness) (StartInside program witness) (λ i. 2 + i) r.place ⊎ (EntryFails program witness) r.place)
        there (inl e) = let x = start_fails.0 e in (x.0, x.1, inl x.2)
        there (inr (a, e)) = let x = entry_fails.0 e in (x.0, x.1, inr (record { starts = starts_pass.0 a; first = x.2 }))

        back : (r.number ≡ 9) × (r.line ≡ 0) × (FirstWrong (starts program witness) (StartInside program witness) (λ i. 2 + i) r.place ⊎ (EntryFails program witness) r.place)
            → (first_failure (start_tests program witness) ≡ some r) ⊎ (AllPass (start_tests program witness) × (first_failure (entry_tests program witness) ≡ some r))
        back (n, z, inl x) = inl (start_fails.1 (n, z, x))
        back (n, z, inr x) = inr (starts_pass.1 x.starts, entry_fails.1 (n, z, x.first))

  module _ (place : ℕ) where
    pub first_four : (first_failure (trace_tests program witness) ≡ some (refusal_at 4 place)) ↔ ((place ≡ 0) × ¬ TraceHeader program witness)
    unfolding trace_tests start_test entry_value_test
    first_four =
        let r : Refusal = refusal_at 4 place in
        iff_trans (sooner_fails ((four program witness) ∷ []) ((start_tests program witness) ++ (entry_tests program witness)) r (λ e. omega (arith, ((values_fail r).0 e).0))) (iff_trans (four_fails r) (λ x. (x.1, x.3), λ x. (refl, x.0, refl, x.1)))

    pub first_nine : (first_failure (trace_tests program witness) ≡ some (refusal_at 9 place)) ↔ (ValueFails program witness) place
    unfolding trace_tests start_test entry_value_test
    first_nine =
        let r : Refusal = refusal_at 9 place in
        let f = header_form program witness in
        iff_trans (later_fails ((four program witness) ∷ []) ((start_tests program witness) ++ (entry_tests program witness)) r (λ e. omega (arith, ((four_fails r).0 e).0))) (
          λ x. record { header = f.0 ((test_passes (four program witness)).0 x.0); first = ((values_fail r).0 x.1).2 },
          λ x. ((test_passes (four program witness)).1 (f.1 x.header), (values_fail r).1 (refl, refl, x.first)),
        )
