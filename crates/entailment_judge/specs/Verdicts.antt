-- The step that the code answers is the step of the judgement of all entailments: the words after a witness are all the words from a position
-- on, because the witness's own stand before them.
use Rattle.std.specs.Prelude.{◌≡◌, Bool, cond, ℕ, suc, ◌-◌, ◌≤◌, ℤ, length, drop, Result, Ok, Err}
use Rattle.std.proofs.Math.Path.{refl}
use Rattle.std.proofs.Common.{ap, subst, arith}
use Rattle.std.proofs.Math.Bool.{true, false}
use mathlib.Core.List.{List}
use Rattle.words.specs.Limits.{most_splits}
use Rattle.answers.specs.declared.Reason.{Reason}
use Rattle.answers.specs.Answers.{number_of}
use Rattle.certificates.specs.Entailments.{Entailment}
use Rattle.certificates.specs.Witnesses.{Witness, fits}
use Rattle.certificates.specs.Judgement.{Read, got, missing, and_then, read_witness, Progress, running, ended, judge_read, judge_one}
use Rattle.entailment_judge.specs.Judging.{judged_tree, judged_witness}
use Rattle.entailment_judge.specs.WordsLeft.{Leaves, tree_leaves, left_at}
use Rattle.entailment_judge.specs.Answers.{verdict_of}

-- the judgement's progress after a step, where so many entailments held before
abbrev pub progress_of : List ℤ → ℕ → ℕ → Result ℕ Reason → Progress
progress_of w at held (Ok p) = running (drop p w) (suc held)
progress_of w at held (Err reason) = ended (number_of reason) (drop at w)

-- the next unread word is one of the words, or the end
abbrev pub Inside : List ℤ → Result ℕ Reason → Type 0
Inside w (Ok p) = p ≤ length w
Inside w (Err reason) = Unit

module _ (e : Entailment) (w : List ℤ) (at : ℕ) (there : at ≤ length w) where
  -- the words left are the words from a position on
  left : (x : Witness) (rest : List ℤ) → read_witness e (drop at w) ≡ got x rest → rest ≡ drop (length w - length rest) w
  unfolding read_witness
  left x rest h = left_at w at there (subst (Leaves (drop at w)) h (tree_leaves most_splits e (drop at w)))

  verdict_of_lem : (held : ℕ) (x : Read Witness) → read_witness e (drop at w) ≡ x → (r : Result ℕ Reason) → r ≡ verdict_of w (and_then x (λ y rest. got (fits e y) rest))
      → (judge_read e (drop at w) held x ≡ progress_of w at held r) × Inside w r
  unfolding judge_read and_then
  verdict_of_lem held missing h r q = rw q (refl, tt)
  verdict_of_lem held (got y rest) h r q = by_fit (fits e y) q
    where
      by_fit : (b : Bool) → r ≡ verdict_of w (got b rest) → (cond b (running rest (suc held)) (ended 7 (drop at w)) ≡ progress_of w at held r) × Inside w r
      by_fit true q = rw q (ap (λ (l : List ℤ). running l (suc held)) (left y rest h), omega arith)
      by_fit false q = rw q (refl, tt)

  pub judged_verdict : (held : ℕ) (r : Result ℕ Reason) → r ≡ verdict_of w (judged_witness e (drop at w)) → (judge_one e (running (drop at w) held) ≡ progress_of w at held r) × Inside w r
  unfolding judge_one judged_witness judged_tree read_witness
  judged_verdict held r q = verdict_of_lem held (read_witness e (drop at w)) refl r q
