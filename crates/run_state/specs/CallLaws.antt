-- A call: the callee's frame has the actuals, all worked out at the caller's values, and then the first entry values that are left; too many open
-- calls are refused, then too few entry values, and then values beyond their limit. The globals are within theirs before the call and so are
-- the entry values, so only the arguments can be beyond.
use Rattle.std.specs.Prelude.{◌≡◌, Bool, true, false, ◌&&◌, List, ◌∷◌, ◌++◌, T, eqb, leb, ℤ, length, take, drop}
use Rattle.std.proofs.Math.Path.{refl, sym, ap}
use Rattle.std.proofs.Common.{subst, ◌∙◌, eqb-true, le→leb, length-append}
use Rattle.std.proofs.Math.Bool.{and-false}
use Rattle.std.proofs.Math.Option.{none, some}
use Prim.Native.Nat.{ℕ, suc, ◌+◌, ◌*◌, ◌-◌, ◌≤◌, ◌<◌}
use native.Mathlib.Omega.{arith}
use Rattle.std.proofs.lemmas.Bool.{eqb-false}
use Rattle.std.proofs.Math.IntN.{pos}
use Rattle.std.proofs.Math.Seq.{paste, take-append_seam}
use Rattle.numbers.specs.Small.{Small}
use Rattle.numbers.specs.SmallLaws.{small_take}
use Rattle.basics.proofs.Booleans.{and, holds}
use Rattle.rows.specs.Rows.{values}
use Rattle.rows.specs.Columns.{zeros}
use Rattle.rows.proofs.Blocks.{length_values}
use Rattle.words.specs.Limits.{most_calls, most_locals, value_limit}
use Rattle.words.specs.Words.{small}
use Rattle.words.specs.RowWords.{rows_of}
use Rattle.words.proofs.RowLaws.{length_rows}
use Rattle.words.specs.RowForm.{Expressions}
use Rattle.words.proofs.RowForm.{expressions_stand}
use Rattle.programs.specs.ProgramWords.{first, locals, parameters, k, fields, vertex_field, procedure_field}
use Rattle.programs.proofs.Formed.{first_owned}
use Rattle.programs.proofs.DecodedNumbers.{first_of_lem, first_range, locals_most, others_of_lem}
use Rattle.programs.specs.StatementRows.{CallForm}
use Rattle.programs.specs.Moves.{Configuration, current, called, goes_to, move_by, needed_by}
use Rattle.traces.specs.Replay.{all_values}
use Rattle.traces.proofs.LimitLaws.{values_both, values_append}
use Rattle.answers.specs.Answers as answers
use Rattle.answers.specs.declared.Reason.TheVariants.{ListedVertex, ValueLimit, CallDepth, EntryValues}
use Rattle.program_readers.specs.declared.kinds.Kind.TheVariants.{Call}
use Rattle.program_readers.specs.declared.places.Sizes.{Sizes}
use Rattle.program_readers.specs.declared.places.Vertex.{Vertex}
use Rattle.run_state.specs.Frames.{frame_size, locals_from, procedure_in, caller_in, padded}
use Rattle.run_state.specs.ValueLaws.{small_values}
use Rattle.run_state.specs.Padded.{length_padded, small_padded}
use Rattle.run_state.specs.Changes.{entered_at}
use Rattle.run_state.specs.State.{RunState, line_left, state_in, locals_in, frames_of, configuration_of, SomeProcedure, MayBe, Waits, Proper, AtKind, refused_for, Moves, need_of, move_of}
use Rattle.run_state.specs.StateLaws.{procedure_kept, caller_kept, locals_kept, frames_kept, depth_below, too_deep_lem, too_few, too_large, refuses, goes_to_lem, other_vertex, that_vertex}
use Rattle.run_state.specs.Statements.{calls, is_call}
use Rattle.run_state.specs.StatementLaws.{formed_as, moves_by, needs_by}
use Rattle.run_state.specs.EntryLaws as entry
use Rattle.run_state.specs.declared.changes.Stored.TheVariants.{Frame}

-- ---- the callee

module _ (words : List ℤ) (s : RunState) where
  abbrev pub callee : ℕ
  callee = procedure_field words s.vertex.0 1

  -- the values of the actuals
  abbrev pub arguments : List ℤ
  arguments = values (rows_of (k words s.vertex.0) (parameters words callee) (drop (fields words s.vertex.0 + 2) words)) (current (configuration_of words s))

  -- how many other locals it has
  abbrev pub others : ℕ
  others = locals words callee - parameters words callee

  -- its locals
  abbrev own : List ℤ
  own = arguments ++ take others s.left

  -- its frame, with the arguments and then 0
  abbrev pub callee_frame : List ℤ
  callee_frame = padded frame_size (pos callee ∷ pos s.vertex.0 ∷ arguments)

  -- with the entry values too
  abbrev pub filled_frame : List ℤ
  filled_frame = paste callee_frame (2 + parameters words callee) s.left others

  abbrev begun : Configuration
  begun =
      record {
        globals = (configuration_of words s).globals;
        top = record { procedure = callee; vertex = first words callee; locals = own };
        below = (configuration_of words s).top ∷ (configuration_of words s).below;
      }

  pub arguments_length : length arguments ≡ parameters words callee
  arguments_length =
      length_values (rows_of (k words s.vertex.0) (parameters words callee) (drop (fields words s.vertex.0 + 2) words)) (current (configuration_of words s))
      ∙ length_rows (k words s.vertex.0) (parameters words callee) (drop (fields words s.vertex.0 + 2) words)

  pub arguments_inside : 2 + parameters words callee ≤ length callee_frame
  arguments_inside = let rest = zeros (frame_size - length (pos callee ∷ pos s.vertex.0 ∷ arguments)) in omega (arith, arguments_length, length-append arguments rest)

  -- the arguments in its frame
  pub arguments_in : take (parameters words callee) (drop 2 callee_frame) ≡ arguments
  arguments_in =
      ap (λ (m : ℕ). take m (drop 2 callee_frame)) (sym arguments_length) ∙ take-append_seam arguments (zeros (frame_size - length (pos callee ∷ pos s.vertex.0 ∷ arguments)))

module _ (words : List ℤ) (sizes : Sizes) (s : RunState) (listed : ℕ) (a : AtKind words sizes s Call) where
  call_form_lem : CallForm words s.vertex.0 (vertex_field words s.vertex.0 0) (callee words s) (fields words s.vertex.0 + 2)
  call_form_lem = formed_as words sizes s Call a (omega arith) (calls words s.vertex.0)

  pub actual_expressions : Expressions words (fields words s.vertex.0 + 2) (k words s.vertex.0) (parameters words (callee words s))
  actual_expressions = expressions_stand words (fields words s.vertex.0 + 2) (k words s.vertex.0) (parameters words (callee words s)) call_form_lem.inside call_form_lem.form

  call_needs : need_of words s ≡ others words s
  unfolding needed_by
  call_needs = needs_by words sizes s Call a (omega arith) (is_call words s.vertex.0) ∙ others_of_lem words (callee words s) call_form_lem.callee_low call_form_lem.callee_high

  call_move : move_of words s listed ≡ goes_to listed (first words (callee words s)) true (begun words s) none
  unfolding move_by called
  call_move =
      moves_by words sizes s Call a (omega arith) (is_call words s.vertex.0) listed
      ∙ rw (first_of_lem words (callee words s) call_form_lem.callee_low call_form_lem.callee_high, call_needs) refl

  pub call_refused : (listed ≡ first words (callee words s) → ⊥) → Moves words s listed (refused_for ListedVertex s)
  call_refused d = other_vertex words s a.proper listed (first words (callee words s)) (begun words s) call_move d

  -- parameters and other locals are all its locals
  pub all_locals : parameters words (callee words s) + others words s ≡ locals words (callee words s)
  all_locals = entry.all_locals words a.formed.form (callee words s) call_form_lem.callee_low call_form_lem.callee_high

  pub frame_ten : length (callee_frame words s) ≡ frame_size
  frame_ten = length_padded frame_size (pos (callee words s) ∷ pos s.vertex.0 ∷ arguments words s) (omega (arith, arguments_length words s, all_locals, locals_most words (callee words s)))

  -- ---- its vertex is listed

  module _ (d : listed ≡ first words (callee words s)) where
    goes : move_of words s listed ≡ some (begun words s)
    goes = that_vertex words s listed (first words (callee words s)) (begun words s) call_move d

    pub call_deep : s.depth ≡ most_calls → Moves words s listed (refused_for CallDepth s)
    call_deep e = refuses words s a.proper listed (answers.number_of CallDepth) goes (λ place. too_deep_lem place (line_left words s) (need_of words s) s.left (begun words s) (omega (arith, depth_below words s a.proper)))

    module _ (b : s.depth < most_calls) where
      pub call_few : length s.left < others words s → Moves words s listed (refused_for EntryValues s)
      call_few l =
          refuses words s a.proper listed (answers.number_of EntryValues) goes (λ place. too_few place (line_left words s) (need_of words s) s.left (begun words s) (omega (arith, depth_below words s a.proper)) (omega (arith, call_needs)))

      module _ (l : others words s ≤ length s.left) where
        pub call_large : all_values value_limit (arguments words s) ≡ false → Moves words s listed (refused_for ValueLimit s)
        call_large e =
            let before = (configuration_of words s).globals in
            let rest = take (others words s) s.left in
            let large : all_values value_limit (own words s) ≡ false = values_both value_limit (arguments words s) rest ∙ ap (λ t. t && all_values value_limit rest) e in
            refuses words s a.proper listed (answers.number_of ValueLimit) goes (λ place. too_large place (line_left words s) (need_of words s) s.left (begun words s) (omega (arith, depth_below words s a.proper)) (omega (arith, call_needs))
            (values_both value_limit before (own words s) ∙ (ap (λ t. all_values value_limit before && t) large ∙ and-false (all_values value_limit before))))

        module _ (e : all_values value_limit (arguments words s) ≡ true) (m : Small value_limit s.left) (v : Vertex) (h : v.0 ≡ first words (callee words s)) where
          own_length : length (own words s) ≡ locals words (callee words s)
          own_length = entry.own_length words a.formed.form (callee words s) call_form_lem.callee_low call_form_lem.callee_high (arguments words s) s.left (arguments_length words s) l

          long : s.depth * frame_size + frame_size ≤ length s.frames
          long = omega (arith, a.proper.long)

          abbrev few8 : length (own words s) ≤ most_locals
          few8 = omega (arith, own_length, locals_most words (callee words s))

          abbrev frames : List ℤ
          frames = entry.with_frame s.frames s.depth long (pos (callee words s)) (pos s.vertex.0) (own words s) few8

          front : take (s.depth * frame_size) frames ≡ take (s.depth * frame_size) s.frames
          front = entry.put_front s.frames s.depth long (pos (callee words s)) (pos s.vertex.0) (own words s) few8

          callee_is : procedure_in frames s.depth ≡ callee words s
          callee_is = entry.put_procedure s.frames s.depth long (pos (callee words s)) (pos s.vertex.0) (own words s) few8

          caller_is : caller_in frames s.depth ≡ s.vertex.0
          caller_is = entry.put_caller s.frames s.depth long (pos (callee words s)) (pos s.vertex.0) (own words s) few8

          locals_are : locals_in words frames s.depth ≡ (begun words s).top.locals
          locals_are =
              ap (λ (q : ℕ). take (locals words q) (drop (locals_from s.depth) frames)) callee_is
              ∙ entry.put_locals s.frames s.depth long (pos (callee words s)) (pos s.vertex.0) (own words s) few8 (locals words (callee words s)) own_length

          -- a call below is as it was
          procedure_same : (i : ℕ) → i < s.depth → procedure_in frames i ≡ procedure_in s.frames i
          procedure_same i l = procedure_kept words (s.depth * frame_size) frames s.frames front i (omega arith)

          below_are : frames_of words frames s.depth ≡ (configuration_of words s).top ∷ (configuration_of words s).below
          unfolding configuration_of frames_of
          below_are =
              let i = s.depth - 1 in
              let r : s.depth ≡ suc i = omega (arith, a.proper.some) in
              let q = procedure_same i (omega arith) in
              let u = ap (caller_in frames) (sym r) ∙ caller_is in
              let own = locals_kept words (s.depth * frame_size) frames s.frames front i (omega arith) in
              let rest = frames_kept words (s.depth * frame_size) frames s.frames front i (omega arith) in
              ap (frames_of words frames) r ∙ (λ j. record { procedure = q j; vertex = u j; locals = own j } ∷ rest j)

          -- ---- the state

          -- every open call has a procedure
          known : (i : ℕ) → i < s.depth + 1 → SomeProcedure words (procedure_in frames i)
          known i l = go (eqb i s.depth) refl
            where
              go : (t : Bool) → eqb i s.depth ≡ t → SomeProcedure words (procedure_in frames i)
              go true t = let j : i ≡ s.depth = eqb-true i s.depth t in rw (j, callee_is) (record { low = call_form_lem.callee_low; known = call_form_lem.callee_high })
              go false t = let j = eqb-false i s.depth t in rw (procedure_same i (omega arith)) (a.proper.procedures i (omega arith))

          -- the caller waits at this statement, and the others where they waited
          wait : (i : ℕ) → i + 1 < s.depth + 1 → Waits words (procedure_in frames i) (caller_in frames (i + 1))
          wait i l = go (eqb (i + 1) s.depth) refl
            where
              go : (t : Bool) → eqb (i + 1) s.depth ≡ t → Waits words (procedure_in frames i) (caller_in frames (i + 1))
              go true t =
                  let j : i + 1 ≡ s.depth = eqb-true (i + 1) s.depth t in
                  let m : i ≡ s.depth - 1 = omega arith in
                  rw (procedure_same i (omega arith), j, caller_is, m) (record { there = a.proper.here; calls = a.vertex })
              go false t =
                  let j = eqb-false (i + 1) s.depth t in
                  rw (procedure_same i (omega arith), caller_kept words (s.depth * frame_size) frames s.frames front (i + 1) (omega arith)) (a.proper.waits i (omega arith))

          own_small : T (all_values value_limit (own words s))
          own_small =
              let rest = take (others words s) s.left in
              (values_append value_limit (arguments words s) rest).1 (holds e, small_values value_limit rest (small_take value_limit (others words s) s.left m))

          entered_small : T (all_values value_limit (pos (callee words s) ∷ pos s.vertex.0 ∷ own words s))
          unfolding all_values small
          entered_small =
              and (leb (callee words s) value_limit) (leb s.vertex.0 value_limit && all_values value_limit (own words s)) (le→leb (callee words s) value_limit (omega (arith, call_form_lem.callee_high, a.formed.header)))
              (and (leb s.vertex.0 value_limit) (all_values value_limit (own words s)) (le→leb s.vertex.0 value_limit (omega (arith, a.proper.here.known, a.formed.header))) own_small)

          call_proper : Proper words (state_in s.globals frames v (s.depth + 1) (drop (others words s) s.left))
          call_proper =
              let r = a.proper in
              let m : s.depth ≡ s.depth + 1 - 1 = omega arith in
              record {
                some = omega arith;
                few = omega arith;
                long = entry.put_length s.frames s.depth long (pos (callee words s)) (pos s.vertex.0) (own words s) few8 ∙ r.long;
                eight = r.eight;
                small_frames = entry.put_small s.frames s.depth long (pos (callee words s)) (pos s.vertex.0) (own words s) few8 r.small_frames (small_padded frame_size (pos (callee words s) ∷ pos s.vertex.0 ∷ own words s) entered_small);
                small_globals = r.small_globals;
                procedures = known;
                waits = wait;
                here =
                    subst (λ (i : ℕ). MayBe words (procedure_in frames i) v.0) m
                    (record {
                      known = omega (arith, first_range words a.formed.form (callee words s) call_form_lem.callee_low call_form_lem.callee_high);
                      owned = λ i. rw (h, callee_is) (first_owned words a.formed.form (callee words s) call_form_lem.callee_low call_form_lem.callee_high);
                    });
              }

          made : Moves words s listed (entered_at v s.depth (others words s) (padded frame_size (pos (callee words s) ∷ pos s.vertex.0 ∷ own words s)))
          unfolding configuration_of
          made =
              let m : s.depth ≡ s.depth + 1 - 1 = omega arith in
              let q = sym callee_is ∙ ap (procedure_in frames) m in
              let locals = sym locals_are ∙ ap (locals_in words frames) m in
              let below = sym below_are ∙ ap (frames_of words frames) m in
              goes_to_lem words s listed v (s.depth + 1) (others words s) (Frame (s.depth * frame_size)) (padded frame_size (pos (callee words s) ∷ pos s.vertex.0 ∷ own words s)) call_needs l
              (long, entry.new_ten s.frames s.depth long (pos (callee words s)) (pos s.vertex.0) (own words s) few8)
              call_proper
              (goes ∙ ap some (λ i. record { globals = (configuration_of words s).globals; top = record { procedure = q i; vertex = sym h i; locals = locals i }; below = below i }))

          pub call_moved : Moves words s listed (entered_at v s.depth (others words s) (filled_frame words s))
          call_moved =
              rw (entry.filled words a.formed.form (callee words s) call_form_lem.callee_low call_form_lem.callee_high (arguments words s) s.left (arguments_length words s) l (pos (callee words s)) (pos s.vertex.0))
              made
