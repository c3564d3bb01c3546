-- The start values, as many as main has globals and locals, and the entry values, as many as the trace says: each inside the limit of values,
-- since it is inside its own.
use Rattle.std.specs.Prelude.{◌≡◌, ℕ, ◌+◌, ◌-◌, ◌≤◌, ℤ, pos, drop}
use Rattle.std.proofs.Math.Path.{sym, subst, ap}
use Rattle.std.proofs.Common.{◌∙◌, length-take, take-add, take_all, drop-drop}
use mathlib.Core.List.{List, ◌++◌}
use native.Mathlib.Omega.{arith}
use Rattle.std.proofs.Math.Dec.{T}
use Rattle.std.proofs.Math.ListN.{length, length-drop, take}
use Rattle.std.proofs.Math.Seq.{get_or-drop}
use Rattle.basics.proofs.Integers.{ints, negation}
use Rattle.words.specs.Limits.{start_limit, value_limit}
use Rattle.words.specs.Words.{word, small}
use Rattle.words.specs.Ranges.{Small}
use Rattle.words.proofs.Ranges.{small_between}
use Rattle.programs.specs.ProgramWords.{G, locals, parameters}
use Rattle.programs.specs.ProgramForm.{ProgramForm}
use Rattle.programs.proofs.DecodedNumbers.{some_procedure_lem, parameters_most}
use Rattle.traces.specs.TraceWords.{starts_from, E, starts, start_place, start_globals, start_arguments, start_others, entry_values_from, entry_value_place, listed_entry_values}
use Rattle.traces.specs.TraceForm.{TraceForm}
use Rattle.traces.specs.Replay.{all_values}
use Rattle.traces.proofs.LimitLaws.{take_within}

-- a value inside the start values' limit is inside that of all values
inside : (x : ℤ) → Small start_limit x → T (small value_limit x)
inside x b = (small_between value_limit x).1 (record { least = omega (arith, ints, b.least, negation (pos start_limit), negation (pos value_limit)); most = omega (arith, ints, b.most) })

module _ (program witness : List ℤ) (f : ProgramForm program) (g : TraceForm program witness) where
  -- main has no more parameters than locals
  main_fits : parameters program 1 ≤ locals program 1
  main_fits = parameters_most program f 1 (omega arith) (some_procedure_lem program f)

  pub globals_length_lem : length (start_globals program witness) ≡ G program
  unfolding start_globals
  globals_length_lem = rw (length-take, length-drop) (omega (arith, g.header.total))

  pub arguments_length : length (start_arguments program witness) ≡ parameters program 1
  unfolding start_arguments
  arguments_length = rw (length-take, length-drop) (omega (arith, main_fits, g.header.total))

  pub others_length : length (start_others program witness) ≡ locals program 1 - parameters program 1
  unfolding start_others
  others_length = rw (length-take, length-drop) (omega (arith, main_fits, g.header.total))

  -- main's locals, one after the other
  pub start_locals : start_arguments program witness ++ start_others program witness ≡ take (locals program 1) (drop (starts_from + G program) witness)
  unfolding start_arguments start_others
  start_locals =
      let m = parameters program 1 in
      let e : m + (locals program 1 - m) ≡ locals program 1 = omega (arith, main_fits) in
      sym (ap (λ j. take j (drop (starts_from + G program) witness)) (sym e)
      ∙ (take-add m (locals program 1 - m) (drop (starts_from + G program) witness)
      ∙ ap (λ (l : List ℤ). take m (drop (starts_from + G program) witness) ++ take (locals program 1 - m) l) (drop-drop m (starts_from + G program) witness)))

module _ (program witness : List ℤ) (g : TraceForm program witness) where
  -- so many of the start values, from one on
  pub start_part : (a m : ℕ) → a + m ≤ starts program witness → T (all_values value_limit (take m (drop (starts_from + a) witness)))
  start_part a m h =
      take_within value_limit m (drop (starts_from + a) witness) (λ i l. rw get_or-drop
      (let e : start_place (a + i + 1) ≡ starts_from + a + i = omega arith in
      subst (λ j. T (small value_limit (word witness j))) e (inside _ (g.start_value (a + i + 1) (omega arith) (omega arith)))))

  pub entries_length : length (listed_entry_values program witness) ≡ E program witness
  unfolding listed_entry_values
  entries_length = rw length-drop (omega (arith, g.header.total))

  pub entries_within : T (all_values value_limit (listed_entry_values program witness))
  unfolding listed_entry_values
  entries_within =
      let n : length (drop (entry_values_from program witness) witness) ≡ E program witness = entries_length in
      subst (λ (l : List ℤ). T (all_values value_limit l)) (take_all (E program witness) (drop (entry_values_from program witness) witness) (omega (arith, n)))
      (take_within value_limit (E program witness) (drop (entry_values_from program witness) witness) (λ i l. rw get_or-drop
      (let e : entry_value_place program witness (i + 1) ≡ entry_values_from program witness + i = omega arith in
      subst (λ j. T (small value_limit (word witness j))) e (inside _ (g.entry_value (i + 1) (omega arith) (omega arith))))))
