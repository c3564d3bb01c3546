-- The limits of a state and what tests 12, 14 and 11 look at: a step from a state inside the limits leads to one inside them if and only if
-- the depth and the values of the globals and of the top call are, since a step changes no other value.
use Rattle.std.specs.Prelude.{◌≡◌, refl, ◌&&◌, ◌↔◌, ℕ, zero, suc, ◌+◌, ◌≤◌, ◌<◌, List, [], ◌∷◌, ◌++◌, T, leb, ℤ, length, take}
use Rattle.std.proofs.Common.{sym, ap, ◌∙◌, arith, leb→le, le→leb}
use Rattle.std.proofs.Math.Bool.{and_assoc}
use Rattle.std.proofs.Math.Logic.Iff.{trans as iff_trans}
use Rattle.std.proofs.Math.Option.{none}
use Rattle.basics.proofs.Booleans.{and, both}
use Rattle.words.specs.Limits.{most_calls, value_limit}
use Rattle.words.specs.Words.{word, small}
use Rattle.words.specs.Tests.{Test, test, test_on, first_failure}
use Rattle.words.specs.FirstFailure.{AllPass}
use Rattle.words.proofs.FirstFailure.{no_failure, pass_first, pass_fewer, pass_more, none_pass}
use Rattle.programs.specs.Program.{Program}
use Rattle.programs.specs.Runs.{State, values_now, store, push, Step, on_skip, on_assign, on_true, on_false, on_pass, on_fail, on_call, on_exit}
use Rattle.programs.specs.Moves.{Configuration, configuration, frames, current}
use Rattle.programs.proofs.Determined.{length_frames}
use Rattle.traces.specs.Replay.{all_values, arrival_tests}
use Rattle.traces.specs.TracedRuns.{waiting_values, state_values, Limited}
use Rattle.traces.specs.LimitLaws.{Arrives}

pub values_both : (limit : ℕ) (xs ys : List ℤ) → all_values limit (xs ++ ys) ≡ all_values limit xs && all_values limit ys
unfolding all_values
values_both limit [] ys = refl
values_both limit (x ∷ xs) ys = ap (λ b. small limit x && b) (values_both limit xs ys) ∙ sym (and_assoc (small limit x) (all_values limit xs) (all_values limit ys))

pub values_append : (limit : ℕ) (xs ys : List ℤ) → T (all_values limit (xs ++ ys)) ↔ (T (all_values limit xs) × T (all_values limit ys))
values_append limit xs ys = rw (values_both limit xs ys) (both (all_values limit xs) (all_values limit ys))

-- the values of the calls that wait after a step
waiting_within : (p : Program) {s t : State} → Step p s t → T (all_values value_limit (state_values s)) → T (all_values value_limit (waiting_values t.below))
unfolding state_values store push waiting_values
waiting_within p (on_skip {s} g) v = ((values_append value_limit (values_now s) (waiting_values s.below)).0 v).1
waiting_within p (on_assign {s} g) v = ((values_append value_limit (values_now s) (waiting_values s.below)).0 v).1
waiting_within p (on_true {s} g a) v = ((values_append value_limit (values_now s) (waiting_values s.below)).0 v).1
waiting_within p (on_false {s} g a) v = ((values_append value_limit (values_now s) (waiting_values s.below)).0 v).1
waiting_within p (on_pass {s} g a) v = ((values_append value_limit (values_now s) (waiting_values s.below)).0 v).1
waiting_within p (on_fail {s} g a) v = ((values_append value_limit (values_now s) (waiting_values s.below)).0 v).1
waiting_within p (on_call {s} others o g) v =
    let h = (values_append value_limit (values_now s) (waiting_values s.below)).0 v in
    (values_append value_limit s.top.locals (waiting_values s.below)).1 (((values_append value_limit s.globals s.top.locals).0 h.0).1, h.1)
waiting_within p (on_exit {globals} {c} {w} {rest} ex g) v =
    let h = (values_append value_limit (globals ++ c.locals) (waiting_values (w ∷ rest))).0 v in
    ((values_append value_limit w.caller.locals (waiting_values rest)).0 h.1).1

pub arrives_iff : (place line need : ℕ) (left : List ℤ) (t : State) → (first_failure (arrival_tests place line need left (configuration t)) ≡ none) ↔ (Arrives t × (need ≤ length left))
unfolding arrival_tests
arrives_iff place line need left t = iff_trans (no_failure (arrival_tests place line need left (configuration t))) (there, back)
  where
    deep : Test
    deep = test_on 12 place line (leb (1 + length (frames t.below)) most_calls)

    missing : Test
    missing = test 14 place (leb need (length left))

    large : Test
    large = test_on 11 place line (all_values value_limit (values_now t))

    there : AllPass (deep ∷ missing ∷ large ∷ []) → Arrives t × (need ≤ length left)
    there f =
        let later = pass_fewer deep (missing ∷ large ∷ []) f in (
          record {
            calls = rw (← length_frames t.below) (leb→le (1 + length (frames t.below)) most_calls (pass_first deep (missing ∷ large ∷ []) f));
            values = pass_first large [] (pass_fewer missing (large ∷ []) later);
          },
          leb→le need (length left) (pass_first missing (large ∷ []) later),
        )

    back : Arrives t × (need ≤ length left) → AllPass (deep ∷ missing ∷ large ∷ [])
    back a =
        pass_more deep (missing ∷ large ∷ []) (le→leb (1 + length (frames t.below)) most_calls (rw (length_frames t.below) a.0.calls))
        (pass_more missing (large ∷ []) (le→leb need (length left) a.1) (pass_more large [] a.0.values none_pass))

-- whatever is arrived at, there were enough entry values
pub enough_left : (place line need : ℕ) (left : List ℤ) (c : Configuration) → first_failure (arrival_tests place line need left c) ≡ none → need ≤ length left
unfolding arrival_tests
enough_left place line need left c e =
    let deep = test_on 12 place line (leb (1 + length c.below) most_calls) in
    let missing = test 14 place (leb need (length left)) in
    let large = test_on 11 place line (all_values value_limit (current c)) in
    leb→le need (length left) (pass_first missing (large ∷ []) (pass_fewer deep (missing ∷ large ∷ []) ((no_failure (deep ∷ missing ∷ large ∷ [])).0 e)))

pub limited_arrives : (t : State) → Limited t → Arrives t
unfolding state_values
limited_arrives t l = record { calls = l.calls; values = ((values_append value_limit (values_now t) (waiting_values t.below)).0 l.values).0 }

pub arrives_limited : (p : Program) {s t : State} → Step p s t → Limited s → Arrives t → Limited t
unfolding state_values
arrives_limited p {s} {t} step l a =
    record { calls = a.calls; values = (values_append value_limit (values_now t) (waiting_values t.below)).1 (a.values, waiting_within p step (unfold state_values in l.values)) }

-- ---- values that are words

pub take_within : (limit m : ℕ) (words : List ℤ) → ((i : ℕ) → i < m → T (small limit (word words i))) → T (all_values limit (take m words))
unfolding all_values
take_within limit zero words h = tt
take_within limit (suc m) [] h = tt
take_within limit (suc m) (x ∷ words) h = and (small limit x) (all_values limit (take m words)) (h 0 (omega arith)) (take_within limit m words (λ i l. h (suc i) (omega arith)))
