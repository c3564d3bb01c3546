-- An assignment: the column that it stores into is a global's or a local's, so it changes one of the two lists of values and leaves the other
-- as it is; a value beyond its limit is refused.
use Rattle.std.specs.Prelude.{◌≡◌, refl, true, false, ◌&&◌, List, [], ◌∷◌, ◌++◌, ℕ, zero, suc, ◌+◌, ◌-◌, ◌≤◌, ◌<◌, ℤ, nat_abs, length, set, drop}
use Rattle.std.proofs.Math.Path.{sym, ap}
use Rattle.std.proofs.Common.{subst, ◌∙◌, arith, length-set, take-append-drop, drop-set-lt, take_at, drop_at}
use Rattle.std.proofs.Math.Bool.{and-false}
use Rattle.std.proofs.Math.Option.{none, some}
use borrow.Author.Tests.{leb-true}
use Rattle.std.proofs.Math.ListN.{take}
use Rattle.std.proofs.Math.Seq.{take-set-lt}
use Rattle.std.proofs.lemmas.List.{take-set-le, drop-set-add}
use Rattle.numbers.specs.SmallLaws.{small_set}
use Rattle.rows.specs.Rows.{value}
use Rattle.words.specs.Limits.{most_globals, value_limit}
use Rattle.words.specs.Words.{word, small}
use Rattle.words.proofs.Ranges.{number_most}
use Rattle.words.specs.RowForm.{Expression}
use Rattle.programs.specs.ProgramWords.{G, locals, k, fields, vertex_field, column_field}
use Rattle.programs.specs.Decode.{expression, program}
use Rattle.programs.proofs.DecodedNumbers.{locals_most}
use Rattle.programs.specs.StatementRows.{Successor}
use Rattle.programs.specs.Moves.{Configuration, current, stored, goes_to, move_by, needed_by}
use Rattle.traces.specs.Replay.{all_values}
use Rattle.answers.specs.Answers as answers
use Rattle.answers.specs.declared.Reason.TheVariants.{ListedVertex, ValueLimit}
use Rattle.program_readers.specs.declared.kinds.Kind.TheVariants.{Assign}
use Rattle.program_readers.specs.declared.places.Sizes.{Sizes}
use Rattle.program_readers.specs.declared.places.Vertex.{Vertex}
use Rattle.run_state.specs.Frames.{locals_from, procedure_in}
use Rattle.run_state.specs.Changes.{moved_to, no_frame}
use Rattle.run_state.specs.State.{RunState, line_left, state_in, procedure_now, locals_in, configuration_of, SomeProcedure, MayBe, Proper, AtKind, refused_for, Moves, need_of, move_of}
use Rattle.run_state.specs.StateLaws.{procedure_kept, caller_kept, frames_kept, depth_below, too_large, refuses, goes_to_lem, other_vertex, that_vertex}
use Rattle.run_state.specs.Statements.{assigns, is_assign}
use Rattle.run_state.specs.Scopes.{globals_length_lem, current_length, owner}
use Rattle.run_state.specs.StatementLaws.{next_may_be, formed_as, moves_by, needs_by}
use Rattle.run_state.specs.declared.changes.Stored.TheVariants.{Global, Local}

-- ---- a store into one of two lists

module _ (gs ls : List ℤ) (x : ℤ) (g : ℕ) (size : length gs ≡ g) (i : ℕ) where
  store_left : i < g → (take g (set (gs ++ ls) i x) ≡ set gs i x) × (drop g (set (gs ++ ls) i x) ≡ ls)
  store_left h = (
    take-set-lt g (gs ++ ls) i x h ∙ ap (λ (l : List ℤ). set l i x) (take_at gs ls g size),
    drop-set-lt g (gs ++ ls) i x h ∙ drop_at gs ls g size,
  )

  store_right : g ≤ i → (take g (set (gs ++ ls) i x) ≡ gs) × (drop g (set (gs ++ ls) i x) ≡ set ls (i - g) x)
  store_right h =
      let e : i ≡ g + (i - g) = omega arith in (
        take-set-le g (gs ++ ls) i x h ∙ take_at gs ls g size,
        ap (λ (j : ℕ). drop g (set (gs ++ ls) j x)) e ∙ (drop-set-add g (gs ++ ls) (i - g) x ∙ ap (λ (l : List ℤ). set l (i - g) x) (drop_at gs ls g size)),
      )

-- a value beyond its limit is found
large_set : (limit : ℕ) (l : List ℤ) (i : ℕ) (x : ℤ) → i < length l → small limit x ≡ false → all_values limit (set l i x) ≡ false
unfolding all_values
large_set limit [] i x h e = absurd (omega arith)
large_set limit (y ∷ l) zero x h e = rw e refl
large_set limit (y ∷ l) (suc i) x h e = ap (λ b. small limit y && b) (large_set limit l i x (omega arith) e) ∙ and-false (small limit y)

-- ---- what it stores, and where

module _ (words : List ℤ) (s : RunState) where
  abbrev pub next : ℕ
  next = vertex_field words s.vertex.0 0

  abbrev pub column : ℕ
  column = column_field words s.vertex.0 1

  -- the value that is stored
  abbrev pub result : ℤ
  result = value (expression words (k words s.vertex.0) (fields words s.vertex.0 + 2)) (current (configuration_of words s))

  -- the values of the columns afterwards
  abbrev changed : List ℤ
  changed = set (current (configuration_of words s)) column result

  -- the configuration afterwards
  abbrev after : Configuration
  after = stored (program words) next changed (configuration_of words s)

  -- where a local's column stands in the frames
  abbrev pub place : ℕ
  place = locals_from (s.depth - 1) + (column - G words)

module _ (words : List ℤ) (sizes : Sizes) (s : RunState) (listed : ℕ) (a : AtKind words sizes s Assign) where
  abbrev L : ℕ
  L = locals words (procedure_now s)

  assign_form_lem : Successor words s.vertex.0 (next words s) × ((column words s < k words s.vertex.0) × Expression words (fields words s.vertex.0 + 2) (k words s.vertex.0))
  assign_form_lem = formed_as words sizes s Assign a (omega arith) (assigns words s.vertex.0)

  pub assigned_expression : Expression words (fields words s.vertex.0 + 2) (k words s.vertex.0)
  assigned_expression = assign_form_lem.1.1

  assign_move : move_of words s listed ≡ goes_to listed (next words s) true (after words s) none
  unfolding move_by
  assign_move = moves_by words sizes s Assign a (omega arith) (is_assign words s.vertex.0) listed

  assign_needs : need_of words s ≡ 0
  unfolding needed_by
  assign_needs = needs_by words sizes s Assign a (omega arith) (is_assign words s.vertex.0)

  pub assign_refused : (listed ≡ next words s → ⊥) → Moves words s listed (refused_for ListedVertex s)
  assign_refused d = other_vertex words s a.proper listed (next words s) (after words s) assign_move d

  known_column : column words s < G words + L
  unfolding k
  known_column = rw (owner words sizes s Assign a) at assign_form_lem.1.0

  -- ---- its successor is listed

  module _ (d : listed ≡ next words s) where
    goes : move_of words s listed ≡ some (after words s)
    goes = that_vertex words s listed (next words s) (after words s) assign_move d

    in_columns_lem : column words s < length (current (configuration_of words s))
    in_columns_lem = omega (arith, known_column, current_length words s a.proper)

    pub assign_large : small value_limit (result words s) ≡ false → Moves words s listed (refused_for ValueLimit s)
    unfolding stored
    assign_large e =
        refuses words s a.proper listed (answers.number_of ValueLimit) goes (λ at. too_large at (line_left words s) (need_of words s) s.left (after words s) (omega (arith, depth_below words s a.proper, a.proper.few)) (omega (arith, assign_needs))
        (ap (all_values value_limit) (take-append-drop (program words).globals (changed words s)) ∙ large_set value_limit (current (configuration_of words s)) (column words s) (result words s) in_columns_lem e))

    module _ (e : small value_limit (result words s) ≡ true) (v : Vertex) (q : v.0 ≡ next words s) where
      size : nat_abs (result words s) ≤ value_limit
      unfolding small
      size = leb-true (nat_abs (result words s)) value_limit e

      there : MayBe words (procedure_now s) v.0
      there = rw q (next_may_be words sizes s Assign a assign_form_lem.0)

      -- ---- a global's column

      module _ (h : column words s < G words) where
        abbrev globals : List ℤ
        globals = set s.globals (column words s) (result words s)

        in_globals : (take (G words) (changed words s) ≡ set (configuration_of words s).globals (column words s) (result words s)) × (drop (G words) (changed words s) ≡ (configuration_of words s).top.locals)
        in_globals = store_left (configuration_of words s).globals (configuration_of words s).top.locals (result words s) (G words) (globals_length_lem words s a.proper) (column words s) h

        globals_changed : take (G words) (changed words s) ≡ take (G words) globals
        unfolding configuration_of
        globals_changed = in_globals.0 ∙ sym (take-set-lt (G words) s.globals (column words s) (result words s) h)

        global_proper : Proper words (state_in globals s.frames v s.depth s.left)
        global_proper =
            let r = a.proper in
            record {
              some = r.some;
              few = r.few;
              long = r.long;
              eight = length-set s.globals (column words s) (result words s) ∙ r.eight;
              small_frames = r.small_frames;
              small_globals = small_set value_limit s.globals (column words s) (result words s) size r.small_globals;
              procedures = r.procedures;
              waits = r.waits;
              here = there;
            }

        pub assign_global : Moves words s listed (moved_to v s.depth (Global (column words s) (result words s)))
        unfolding stored program configuration_of
        assign_global =
            goes_to_lem words s listed v s.depth 0 (Global (column words s) (result words s)) no_frame assign_needs (omega arith) (omega (arith, a.proper.eight, number_most most_globals (word words 2))) global_proper
            (goes ∙ ap some (λ i. record { globals = globals_changed i; top = record { procedure = procedure_now s; vertex = sym q i; locals = in_globals.1 i }; below = (configuration_of words s).below }))

      -- ---- a local's

      module _ (h : G words ≤ column words s) where
        abbrev frames : List ℤ
        frames = set s.frames (place words s) (result words s)

        in_locals : (take (G words) (changed words s) ≡ (configuration_of words s).globals) × (drop (G words) (changed words s) ≡ set (configuration_of words s).top.locals (column words s - G words) (result words s))
        in_locals = store_right (configuration_of words s).globals (configuration_of words s).top.locals (result words s) (G words) (globals_length_lem words s a.proper) (column words s) h

        -- what stands before the locals of the top call
        front : take (locals_from (s.depth - 1)) frames ≡ take (locals_from (s.depth - 1)) s.frames
        front = take-set-le (locals_from (s.depth - 1)) s.frames (place words s) (result words s) (omega arith)

        procedure_same : (i : ℕ) → i < s.depth → procedure_in frames i ≡ procedure_in s.frames i
        procedure_same i b = procedure_kept words (locals_from (s.depth - 1)) frames s.frames front i (omega arith)

        top_same : procedure_in frames (s.depth - 1) ≡ procedure_now s
        top_same = procedure_same (s.depth - 1) (omega (arith, a.proper.some))

        locals_changed : drop (G words) (changed words s) ≡ locals_in words frames (s.depth - 1)
        unfolding configuration_of
        locals_changed =
            in_locals.1
            ∙ (sym (take-set-lt L (drop (locals_from (s.depth - 1)) s.frames) (column words s - G words) (result words s) (omega (arith, known_column)))
            ∙ (ap (take L) (sym (drop-set-add (locals_from (s.depth - 1)) s.frames (column words s - G words) (result words s)))
            ∙ ap (λ (p : ℕ). take (locals words p) (drop (locals_from (s.depth - 1)) frames)) (sym top_same)))

        local_inside : place words s < length s.frames
        local_inside = omega (arith, known_column, locals_most words (procedure_now s), a.proper.some, a.proper.few, a.proper.long)

        local_proper : Proper words (state_in s.globals frames v s.depth s.left)
        local_proper =
            let r = a.proper in
            record {
              some = r.some;
              few = r.few;
              long = length-set s.frames (place words s) (result words s) ∙ r.long;
              eight = r.eight;
              small_frames = small_set value_limit s.frames (place words s) (result words s) size r.small_frames;
              small_globals = r.small_globals;
              procedures = λ i b. subst (SomeProcedure words) (sym (procedure_same i b)) (r.procedures i b);
              waits = λ i b. rw (procedure_same i (omega arith), caller_kept words (locals_from (s.depth - 1)) frames s.frames front (i + 1) (omega arith)) (r.waits i b);
              here = subst (λ (p : ℕ). MayBe words p v.0) (sym top_same) there;
            }

        pub assign_local : Moves words s listed (moved_to v s.depth (Local (place words s) (result words s)))
        unfolding stored program configuration_of
        assign_local =
            let below = frames_kept words (locals_from (s.depth - 1)) frames s.frames front (s.depth - 1) (omega arith) in
            goes_to_lem words s listed v s.depth 0 (Local (place words s) (result words s)) no_frame assign_needs (omega arith) local_inside local_proper
            (goes ∙ ap some (λ i. record { globals = in_locals.0 i; top = record { procedure = sym top_same i; vertex = sym q i; locals = locals_changed i }; below = sym below i }))
