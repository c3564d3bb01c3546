-- What a step gives, by the move of its configuration: a refusal leaves the state as it came, and a step that is made leaves a proper state whose
-- configuration is the one moved to, without the entry values that the step needed.
use Rattle.std.proofs.Math.Path.{◌≡◌, refl, sym}
use Rattle.std.proofs.Common.{ap, ◌∙◌}
use Rattle.std.specs.Prelude.{true, false, cond, ◌&&◌, List, ◌∷◌, ℤ, take, Ok}
use Rattle.std.proofs.Math.Option.{Option, none, some}
use Prim.Native.Nat.{ℕ, zero, suc, ◌+◌, ◌*◌, ◌-◌, ◌≤◌, ◌<◌}
use native.Mathlib.Omega.{arith}
use borrow.Author.Tests.{le-leb, lt-leb, eq-eqb, ne_eqb}
use Rattle.std.proofs.Math.ListN.{length, drop}
use Rattle.basics.proofs.Booleans.{is_true}
use Rattle.numbers.specs.SmallLaws.{small_take}
use Rattle.words.specs.Limits.{most_calls, value_limit}
use Rattle.words.specs.Tests.{first_failure, refusal_at, refusal_on}
use Rattle.programs.specs.ProgramWords.{G, locals}
use Rattle.programs.proofs.DecodedNumbers.{locals_most}
use Rattle.programs.specs.Moves.{Configuration, current, goes_to}
use Rattle.traces.specs.Replay.{Progress, at, ended, all_values, arrival_tests, arrived, arrival}
use Rattle.traces.proofs.LimitLaws.{values_append}
use Rattle.answers.specs.Answers as answers
use Rattle.answers.specs.declared.Reason.TheVariants.{ListedVertex}
use Rattle.program_readers.specs.declared.kinds.Kind.{Kind}
use Rattle.program_readers.specs.declared.places.Sizes.{Sizes}
use Rattle.program_readers.specs.declared.places.Vertex.{Vertex}
use Rattle.run_state.specs.Frames.{frame_size, locals_from, number_of, procedure_in, caller_in, number_kept, part_kept, small_drop}
use Rattle.run_state.specs.ValueLaws.{small_values}
use Rattle.run_state.specs.Changes.{Storable}
use Rattle.run_state.specs.State.{RunState, line_left, line_for, state_in, locals_in, frames_of, configuration_of, Proper, AtKind, progress_by, applied, ComesTo, Moves, refused_in, refused_for, need_of, move_of}
use Rattle.run_state.specs.declared.changes.Change.{Change}
use Rattle.run_state.specs.declared.changes.Stored.{Stored}

-- ---- calls in buffers that agree on their first m numbers

module _ (words : List ℤ) (m : ℕ) (l l' : List ℤ) (e : take m l ≡ take m l') where
  pub procedure_kept : (i : ℕ) → i * frame_size < m → procedure_in l i ≡ procedure_in l' i
  procedure_kept i h = ap number_of (number_kept m l l' e (i * frame_size) h)

  pub caller_kept : (i : ℕ) → i * frame_size + 1 < m → caller_in l i ≡ caller_in l' i
  caller_kept i h = ap number_of (number_kept m l l' e (i * frame_size + 1) h)

  pub locals_kept : (i : ℕ) → i * frame_size + frame_size ≤ m → locals_in words l i ≡ locals_in words l' i
  locals_kept i h =
      ap (λ (q : ℕ). take (locals words q) (drop (locals_from i) l)) (procedure_kept i (omega arith))
      ∙ part_kept m l l' e (locals_from i) (locals words (procedure_in l' i)) (omega (arith, locals_most words (procedure_in l' i)))

  pub frames_kept : (i : ℕ) → locals_from i ≤ m → frames_of words l i ≡ frames_of words l' i
  unfolding frames_of
  frames_kept zero h = refl
  frames_kept (suc i) h =
      let q = procedure_kept i (omega arith) in
      let v = caller_kept (suc i) (omega arith) in
      let own = locals_kept i (omega arith) in
      let rest = frames_kept i (omega arith) in
      λ j. record { procedure = q j; vertex = v j; locals = own j } ∷ rest j

-- ---- nothing that the code relies on looks at the entry values

pub with_left : (words : List ℤ) {sizes : Sizes} {globals frames : List ℤ} {vertex : Vertex} {depth : ℕ} {left : List ℤ} {its : Kind} → AtKind words sizes (state_in globals frames vertex depth left) its
    → (other : List ℤ) → AtKind words sizes (state_in globals frames vertex depth other) its
with_left words a other =
    let q = a.proper in
    record {
      formed = a.formed;
      proper =
          record { some = q.some; few = q.few; long = q.long; eight = q.eight; small_frames = q.small_frames; small_globals = q.small_globals; procedures = q.procedures; waits = q.waits; here = q.here };
      vertex = a.vertex;
    }

-- ---- arrival at a configuration

module _ (place line need : ℕ) (left : List ℤ) (c : Configuration) where
  pub too_deep_lem : most_calls < 1 + length c.below → arrival place line need left (some c) ≡ ended (refusal_on 12 place line)
  unfolding arrival arrived arrival_tests first_failure
  too_deep_lem h = simp (lt-leb (1 + length c.below) most_calls h)

  module _ (h : 1 + length c.below ≤ most_calls) where
    pub too_few : length left < need → arrival place line need left (some c) ≡ ended (refusal_at 14 place)
    unfolding arrival arrived arrival_tests first_failure
    too_few b = simp (le-leb (1 + length c.below) most_calls h, lt-leb need (length left) b)

    module _ (b : need ≤ length left) where
      pub too_large : all_values value_limit (current c) ≡ false → arrival place line need left (some c) ≡ ended (refusal_on 11 place line)
      unfolding arrival arrived arrival_tests first_failure
      too_large e = simp (le-leb (1 + length c.below) most_calls h, le-leb need (length left) b, e)

      arrives : all_values value_limit (current c) ≡ true → arrival place line need left (some c) ≡ at c (drop need left)
      unfolding arrival arrived arrival_tests first_failure
      arrives e = simp (le-leb (1 + length c.below) most_calls h, le-leb need (length left) b, e)

-- ---- what a step gives

length_frames : (words frames : List ℤ) (i : ℕ) → length (frames_of words frames i) ≡ i
unfolding frames_of
length_frames words frames zero = refl
length_frames words frames (suc i) = ap suc (length_frames words frames i)

module _ (words : List ℤ) (s : RunState) (q : Proper words s) where
  pub depth_below : 1 + length (configuration_of words s).below ≡ s.depth
  unfolding configuration_of
  depth_below = omega (arith, length_frames words s.frames (s.depth - 1), q.some)

  proper_arrives : (place line need : ℕ) (left : List ℤ) → need ≤ length left → arrival place line need left (some (configuration_of words s)) ≡ at (configuration_of words s) (drop need left)
  unfolding configuration_of
  proper_arrives place line need left b =
      let own = drop (locals_from (s.depth - 1)) s.frames in
      let m = locals words (procedure_in s.frames (s.depth - 1)) in
      arrives place line need left (configuration_of words s) (omega (arith, depth_below, q.few)) b
      (is_true (all_values value_limit (current (configuration_of words s)))
      ((values_append value_limit (take (G words) s.globals) (take m own)).1
      (small_values value_limit _ (small_take value_limit (G words) s.globals q.small_globals), small_values value_limit _ (small_take value_limit m own (small_drop value_limit (locals_from (s.depth - 1)) s.frames q.small_frames)))))

module _ (words : List ℤ) (s : RunState) (q : Proper words s) where
  -- a step that is refused, whatever it was to come to
  pub refused_as : (to : ℕ → Progress) (number : ℕ) → ((place : ℕ) → to place ≡ ended (refusal_on number place (line_for words number s))) → ComesTo words s to (refused_in number s)
  unfolding progress_by
  refused_as to number e = record { gives = record { progress = λ place. sym (e place); proper = q; kept = λ n d. refl }; storable = tt; few_taken = omega arith }

  module _ (listed : ℕ) where
    pub refuses : (number : ℕ) {o : Option Configuration} → move_of words s listed ≡ o → ((place : ℕ) → arrival place (line_left words s) (need_of words s) s.left o ≡ ended (refusal_on number place (line_for words number s)))
        → Moves words s listed (refused_in number s)
    refuses number e x =
        refused_as (λ place. arrival place (line_left words s) (need_of words s) s.left (move_of words s listed)) number (λ place. ap (arrival place (line_left words s) (need_of words s) s.left) e ∙ x place)

    pub goes_nowhere : move_of words s listed ≡ none → Moves words s listed (refused_for ListedVertex s)
    unfolding arrival
    goes_nowhere e = refuses (answers.number_of ListedVertex) e (λ place. refl)

    -- a step that can go to one vertex alone
    pub other_vertex : (next : ℕ) (made : Configuration) → move_of words s listed ≡ goes_to listed next true made none → (listed ≡ next → ⊥)
        → Moves words s listed (refused_for ListedVertex s)
    other_vertex next made e d = goes_nowhere (e ∙ ap (λ b. cond (b && true) (some made) none) (ne_eqb listed next d))

module _ (words : List ℤ) (s : RunState) (listed : ℕ) where
  pub that_vertex : (next : ℕ) (made : Configuration) → move_of words s listed ≡ goes_to listed next true made none → listed ≡ next
      → move_of words s listed ≡ some made
  that_vertex next made e d = e ∙ ap (λ b. cond (b && true) (some made) none) (eq-eqb listed next d)

  -- a step that is made, with the entry values that it needs
  module _ (vertex : Vertex) (depth taken : ℕ) (stored : Stored) (frame : List ℤ) (n : need_of words s ≡ taken) (few : taken ≤ length s.left) where
    abbrev change : Change
    change = record { outcome = Ok tt; vertex = vertex; depth = depth; taken = taken; stored = stored; frame = frame }

    pub goes_to_lem : Storable s.globals s.frames stored frame → Proper words (applied s change)
        → move_of words s listed ≡ some (configuration_of words (applied s change)) → Moves words s listed change
    unfolding progress_by
    goes_to_lem b r e =
        record {
          gives =
              record {
                progress =
                    λ place.
                    sym (ap (arrival place (line_left words s) (need_of words s) s.left) e
                    ∙ (ap (λ m. arrival place (line_left words s) m s.left (some (configuration_of words (applied s change)))) n ∙ proper_arrives words (applied s change) r place (line_left words s) taken s.left few));
                proper = r;
                kept = λ n d. absurd (let z : ◌≡◌ {A = ℕ} 0 1 = cc in omega arith);
              };
          storable = b;
          few_taken = few;
        }
