-- The start of a replay: its tests as the code makes them, and the state with main's call alone, which stands at its entry as any call does.
use Rattle.std.specs.Prelude.{◌≡◌, true, false, ℕ, zero, suc, ◌+◌, ◌*◌, ◌-◌, ◌≤◌, T, ℤ, drop, replicate, Err}
use Rattle.std.proofs.Math.Path.{refl, sym, ap}
use Rattle.std.proofs.Common.{subst₂, ◌∙◌, inl, zero-le, length-take, length-drop, drop-drop}
use mathlib.Core.List.{List, [], ◌∷◌, ◌++◌}
use Rattle.std.proofs.Math.Option.{none, some}
use native.Mathlib.Omega.{arith}
use Rattle.std.proofs.Math.IntN.{pos}
use Rattle.std.proofs.Math.ListN.{length, take}
use Rattle.std.proofs.lemmas.List.{length-replicate}
use Rattle.std.proofs.Math.Seq.{paste, take_at}
use Rattle.std.proofs.lemmas.List.Edits.{length-paste}
use Rattle.basics.specs.Lists.{listed}
use Rattle.numbers.specs.Small.{Small}
use Rattle.rows.specs.Columns.{zeros}
use Rattle.words.specs.Limits.{most_globals, most_locals, value_limit}
use Rattle.words.specs.Words.{word, small}
use Rattle.words.proofs.Ranges.{number_most}
use Rattle.words.specs.Tests.{Refusal, Test, first_failure}
use Rattle.words.proofs.FirstFailure.{append_fails}
use Rattle.words.proofs.TestLoops.{passed}
use Rattle.programs.specs.ProgramWords.{p, G, locals}
use Rattle.programs.proofs.Formed.{main_owned}
use Rattle.programs.proofs.DecodedNumbers.{some_procedure_lem, main_first, first_range, locals_most}
use Rattle.traces.specs.TraceWords.{starts_from, N, E, starts, start_globals, start_arguments, start_others, entry_values_from}
use Rattle.traces.specs.TraceTests.{header_passes, start_test, entry_value_test, trace_tests}
use Rattle.traces.specs.TraceForm.{TraceForm}
use Rattle.traces.proofs.StartValues.{globals_length_lem, start_locals, start_part}
use Rattle.traces.specs.Replay.{all_values, initial_configuration}
use Rattle.answers.specs.Answers.{refusal_of}
use Rattle.answers.specs.Tested.{refusal_at, tested}
use Rattle.answers.specs.TestedLaws.{failed_some}
use Rattle.program_readers.specs.declared.places.Sizes.{Sizes}
use Rattle.answers.specs.declared.Reason.TheVariants.{Header}
use Rattle.run_state.specs.Frames.{frame_size, locals_from, procedure_in, padded, small_drop, small_append}
use Rattle.run_state.specs.ValueLaws.{values_small}
use Rattle.run_state.specs.Padded.{small_padded}
use Rattle.run_state.specs.EntryLaws as entry
use Rattle.run_state.specs.State.{locals_in, frames_of, configuration_of, Formed}
use Rattle.trace_steps.specs.ValueTests.{value_test}
use Rattle.trace_steps.specs.Runs.{Blank, Started}

module _ (program witness : List ℤ) where
  -- ---- tests 4 and 9

  pub header_refused : header_passes program witness ≡ false → Err (refusal_of (refusal_at Header 0)) ≡ tested (first_failure (trace_tests program witness))
  unfolding trace_tests first_failure tested
  header_refused e = simp e

  -- the two families as the code has them
  abbrev start_tests : List Test
  start_tests = listed (value_test witness 2) (starts program witness)

  abbrev entry_tests : ℕ → List Test
  entry_tests before = listed (value_test witness before) (E program witness)

  module _ (e : header_passes program witness ≡ true) (before : ℕ) (b : before + 1 ≡ entry_values_from program witness) where
    header_passed : first_failure (start_tests ++ entry_tests before) ≡ first_failure (trace_tests program witness)
    unfolding trace_tests start_test entry_value_test value_test first_failure
    header_passed = let q : before ≡ starts_from + starts program witness + N program witness = omega arith in rw (e, q) refl

    pub starts_refused : (r : Refusal) → Err r ≡ tested (first_failure start_tests) → Err r ≡ tested (first_failure (trace_tests program witness))
    unfolding tested
    starts_refused r q =
        let d : first_failure start_tests ≡ some r = failed_some (first_failure start_tests) r (sym q) in
        sym (ap tested (sym header_passed ∙ (append_fails start_tests (entry_tests before) r).1 (inl d)))

    pub starts_passed : first_failure start_tests ≡ none → tested (first_failure (entry_tests before)) ≡ tested (first_failure (trace_tests program witness))
    starts_passed p = ap tested (sym (passed start_tests (entry_tests before) p) ∙ header_passed)

-- ---- buffers of zeros

small_zeros : (b m : ℕ) → Small b (replicate m (pos 0))
unfolding Small
small_zeros b zero = tt
small_zeros b (suc m) = (zero-le, small_zeros b m)

pub blank : Blank (replicate 8 (pos 0)) (replicate 640 (pos 0))
blank =
    record { eight = length-replicate 8 (pos 0); long = length-replicate 640 (pos 0); small_globals = small_zeros value_limit 8; small_frames = small_zeros value_limit 640 }

drop_zeros : (m k : ℕ) → drop m (zeros k) ≡ zeros (k - m)
unfolding zeros
drop_zeros zero k = let e : k ≡ k - 0 = omega arith in ap zeros e
drop_zeros (suc m) zero = let e : 0 ≡ 0 - suc m = omega arith in ap zeros e
drop_zeros (suc m) (suc k) = drop_zeros m k ∙ (let e : k - m ≡ suc k - suc m = omega arith in ap zeros e)

-- ---- main's frame

-- before the start values: main's procedure, no caller, and zeros
abbrev pub main_blank : List ℤ
main_blank = pos 1 ∷ replicate 9 (pos 0)

module _ (values : List ℤ) (m : ℕ) (few : m ≤ most_locals) (long : length (take m values) ≡ m) where
  pub main_frame : paste main_blank 2 values m ≡ padded frame_size (pos 1 ∷ pos 0 ∷ take m values)
  unfolding zeros
  main_frame =
      let e : most_locals - m ≡ frame_size - length (pos 1 ∷ pos 0 ∷ take m values) = omega arith in
      ap (λ (l : List ℤ). pos 1 ∷ pos 0 ∷ (take m values ++ l)) (sym (drop-drop m 2 main_blank) ∙ (drop_zeros m most_locals ∙ ap zeros e))

-- ---- main's call alone

module _ (program witness : List ℤ) (sizes : Sizes) (f : Formed program sizes) (t : TraceForm program witness) (globals frames : List ℤ) (b : Blank globals frames) where
  globals_few : G program ≤ most_globals
  globals_few = number_most most_globals (word program 2)

  some_main : 1 ≤ p program
  some_main = some_procedure_lem program f.form

  -- main's locals
  abbrev own : List ℤ
  own = take (locals program 1) (drop (starts_from + G program) witness)

  pub own_length : length own ≡ locals program 1
  own_length = rw (length-take, length-drop) (omega (arith, t.header.total))

  abbrev few8 : length own ≤ most_locals
  few8 = omega (arith, own_length, locals_most program 1)

  -- ---- the globals

  abbrev shared : List ℤ
  shared = paste globals 0 (drop starts_from witness) (G program)

  shared_length : length shared ≡ most_globals
  shared_length = length-paste globals 0 (drop starts_from witness) (G program) (omega (arith, globals_few, b.eight)) (rw (length-drop starts_from witness) (omega (arith, t.header.total))) ∙ b.eight

  shared_small : Small value_limit shared
  shared_small =
      small_append value_limit (take (G program) (drop starts_from witness)) (drop (0 + G program) globals)
      (values_small value_limit (take (G program) (drop starts_from witness)) (start_part program witness t 0 (G program) (omega arith)))
      (small_drop value_limit (0 + G program) globals b.small_globals)

  globals_are : take (G program) shared ≡ start_globals program witness
  unfolding start_globals
  globals_are = take_at (take (G program) (drop starts_from witness)) (drop (0 + G program) globals) (G program) (globals_length_lem program witness f.form t)

  -- ---- the frames

  long : 0 * frame_size + frame_size ≤ length frames
  long = omega (arith, b.long)

  abbrev framed : List ℤ
  framed = paste frames 0 (padded frame_size (pos 1 ∷ pos 0 ∷ own)) frame_size

  procedure_is : procedure_in framed 0 ≡ 1
  procedure_is = entry.put_procedure frames 0 long (pos 1) (pos 0) own few8

  locals_are : locals_in program framed 0 ≡ start_arguments program witness ++ start_others program witness
  locals_are =
      ap (λ (q : ℕ). take (locals program q) (drop (locals_from 0) framed)) procedure_is
      ∙ (entry.put_locals frames 0 long (pos 1) (pos 0) own few8 (locals program 1) own_length ∙ sym (start_locals program witness f.form t))

  main_small : T (all_values value_limit (pos 1 ∷ pos 0 ∷ own))
  unfolding all_values small
  main_small = start_part program witness t (G program) (locals program 1) (omega arith)

  -- ---- the state

  started : Started program witness shared framed
  unfolding configuration_of frames_of initial_configuration
  started =
      record {
        proper =
            record {
              some = omega arith;
              few = omega arith;
              long = entry.put_length frames 0 long (pos 1) (pos 0) own few8 ∙ b.long;
              eight = shared_length;
              small_frames = entry.put_small frames 0 long (pos 1) (pos 0) own few8 b.small_frames (small_padded frame_size (pos 1 ∷ pos 0 ∷ own) main_small);
              small_globals = shared_small;
              procedures = λ i h. (let e : i ≡ 0 = omega arith in rw (e, procedure_is) (record { low = omega arith; known = some_main }));
              waits = λ i h. absurd (omega arith);
              here = rw procedure_is (record { known = omega (arith, first_range program f.form 1 (omega arith) some_main, main_first program f.form); owned = λ h. main_owned program f.form });
            };
        configured = λ i. record { globals = globals_are i; top = record { procedure = procedure_is i; vertex = 1; locals = locals_are i }; below = [] };
      }

  -- a state whose buffers are these
  pub start_there : {globals' frames' : List ℤ} → globals' ≡ shared → frames' ≡ framed → Started program witness globals' frames'
  start_there g l = subst₂ (λ (x y : List ℤ). Started program witness x y) (sym g) (sym l) started
