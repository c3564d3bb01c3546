-- A call at its entry: its frame, put behind those of the calls below, has its procedure, the vertex at which the caller waits, and its locals,
-- the arguments and then entry values, and the calls below are as they were. A procedure has no more parameters than locals, and at most eight,
-- so there are as many values as it has locals.
use Rattle.std.specs.Prelude.{◌≡◌, List, ◌∷◌, ◌++◌, ℕ, ◌+◌, ◌*◌, ◌-◌, ◌≤◌, ℤ, pos, length, get_or, take, drop}
use Rattle.std.proofs.Common.{sym, ap, ◌∙◌, append_assoc, add-zero, arith, length-append, take_all, take_at, drop_at, drop-drop, get_or-drop, length-take-le}
use Rattle.std.proofs.Math.Seq.{paste}
use Rattle.std.proofs.lemmas.List.Edits.{length-paste}
use Rattle.numbers.specs.Small.{Small}
use Rattle.numbers.specs.SmallLaws.{small_take}
use Rattle.rows.specs.Columns.{zeros}
use Rattle.words.specs.Limits.{most_locals, value_limit}
use Rattle.programs.specs.ProgramWords.{p, locals, parameters}
use Rattle.programs.specs.ProgramForm.{ProgramForm}
use Rattle.programs.proofs.DecodedNumbers.{parameters_most}
use Rattle.run_state.specs.Frames.{frame_size, locals_from, number_of, procedure_in, caller_in, padded, small_drop, small_append}
use Rattle.run_state.specs.Padded.{length_padded, paste_padded}

-- ---- a frame put at the place of open call i

module _ (frames : List ℤ) (i : ℕ) (long : i * frame_size + frame_size ≤ length frames) (q v : ℤ) (own : List ℤ) (few : length own ≤ most_locals) where
  abbrev pub new_frame : List ℤ
  new_frame = padded frame_size (q ∷ v ∷ own)

  abbrev pub with_frame : List ℤ
  with_frame = paste frames (i * frame_size) new_frame frame_size

  pub new_ten : length new_frame ≡ frame_size
  new_ten = length_padded frame_size (q ∷ v ∷ own) (omega arith)

  front_length : length (take (i * frame_size) frames) ≡ i * frame_size
  front_length = length-take-le (i * frame_size) frames (omega arith)

  put_is : with_frame ≡ take (i * frame_size) frames ++ (new_frame ++ drop (i * frame_size + frame_size) frames)
  put_is =
      let rest = drop (i * frame_size + frame_size) frames in
      append_assoc (take (i * frame_size) frames) (take frame_size new_frame) rest
      ∙ ap (λ (l : List ℤ). take (i * frame_size) frames ++ (l ++ rest)) (take_all frame_size new_frame (omega (arith, new_ten)))

  -- the calls below
  pub put_front : take (i * frame_size) with_frame ≡ take (i * frame_size) frames
  put_front = ap (take (i * frame_size)) put_is ∙ take_at (take (i * frame_size) frames) _ (i * frame_size) front_length

  put_there : drop (i * frame_size) with_frame ≡ new_frame ++ drop (i * frame_size + frame_size) frames
  put_there = ap (drop (i * frame_size)) put_is ∙ drop_at (take (i * frame_size) frames) _ (i * frame_size) front_length

  pub put_procedure : procedure_in with_frame i ≡ number_of q
  put_procedure =
      ap (λ (j : ℕ). number_of (get_or with_frame j (pos 0))) (sym (add-zero (i * frame_size)))
      ∙ (ap number_of (sym (get_or-drop (i * frame_size) with_frame 0 (pos 0))) ∙ ap (λ (l : List ℤ). number_of (get_or l 0 (pos 0))) put_there)

  pub put_caller : caller_in with_frame i ≡ number_of v
  put_caller = ap number_of (sym (get_or-drop (i * frame_size) with_frame 1 (pos 0))) ∙ ap (λ (l : List ℤ). number_of (get_or l 1 (pos 0))) put_there

  pub put_locals : (m : ℕ) → length own ≡ m → take m (drop (locals_from i) with_frame) ≡ own
  put_locals m l =
      let rest = drop (i * frame_size + frame_size) frames in
      let none = zeros (frame_size - length (q ∷ v ∷ own)) in
      ap (take m) (sym (drop-drop 2 (i * frame_size) with_frame) ∙ (ap (drop 2) put_there ∙ append_assoc own none rest)) ∙ take_at own (none ++ rest) m l

  pub put_length : length with_frame ≡ length frames
  put_length = length-paste frames (i * frame_size) new_frame frame_size long (omega (arith, new_ten))

  pub put_small : Small value_limit frames → Small value_limit new_frame → Small value_limit with_frame
  put_small h g =
      small_append value_limit (take (i * frame_size) frames ++ take frame_size new_frame) (drop (i * frame_size + frame_size) frames)
      (small_append value_limit (take (i * frame_size) frames) (take frame_size new_frame) (small_take value_limit (i * frame_size) frames h) (small_take value_limit frame_size new_frame g))
      (small_drop value_limit (i * frame_size + frame_size) frames h)

-- ---- its locals

module _ (words : List ℤ) (f : ProgramForm words) (q : ℕ) (l : 1 ≤ q) (h : q ≤ p words) where
  -- how many aren't parameters
  abbrev others : ℕ
  others = locals words q - parameters words q

  pub all_locals : parameters words q + others ≡ locals words q
  all_locals = omega (arith, parameters_most words f q l h)

  module _ (arguments left : List ℤ) (count : length arguments ≡ parameters words q) (few : others ≤ length left) where
    pub own_length : length (arguments ++ take others left) ≡ locals words q
    own_length = length-append arguments (take others left) ∙ omega (arith, count, length-take-le others left few, all_locals)

    -- entry values put behind the arguments
    pub filled : (i v : ℤ) → paste (padded frame_size (i ∷ v ∷ arguments)) (2 + parameters words q) left others ≡ padded frame_size (i ∷ v ∷ (arguments ++ take others left))
    filled i v =
        let e : 2 + parameters words q ≡ length (i ∷ v ∷ arguments) = omega (arith, count) in
        ap (λ (j : ℕ). paste (padded frame_size (i ∷ v ∷ arguments)) j left others) e ∙ paste_padded frame_size (i ∷ v ∷ arguments) left others few
