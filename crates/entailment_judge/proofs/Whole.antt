-- One entailment, by its witness's first word: what the code answers of what follows the word is the judgement's verdict, because the judgement
-- reads the same word first, and the rows in the buffer are judged as the premises.
use mathlib.Core.Path.{◌≡◌, refl, sym, ap, ◌∙◌}
use mathlib.Core.Bool.{true, false}
use mathlib.Core.List.{List}
use Prim.Native.Nat.{ℕ, suc, ◌+◌, ◌-◌, ◌≤◌}
use native.Mathlib.Omega.{arith}
use lib.IntN.{ℤ}
use lib.ListN.{length, drop}
use Rattle.std.specs.Prelude.{Option, Some, None}
use Rattle.rows.specs.Rows.{Row}
use Rattle.words.specs.Limits.{most_splits}
use Rattle.words.specs.StoredRows.{rows_in}
use Rattle.words.proofs.StoredRows.{no_rows_in}
use Rattle.entailment_judge.specs.WitnessReader.{word_in}
use Rattle.entailment_judge.specs.declared.reader.ReadNumber.{ReadNumber}
use Rattle.certificates.specs.Entailments as certificates
use Rattle.certificates.specs.CertificateWords.{row_count}
use Rattle.certificates.specs.CertificateForm.{DisjunctsForm}
use Rattle.certificates.specs.CertificateWords.{disjuncts_end}
use Rattle.row_buffers.specs.Entries.{AllAlike}
use Rattle.row_buffers.specs.FlatRows.{Buffered}
use Rattle.row_buffers.proofs.FlatRows.{buffered_alike}
use Rattle.entailments.specs.Meaning.{image_rows, meaning_of}
use Rattle.entailments.specs.declared.Entailment.{Entailment}
use Rattle.entailment_judge.specs.Buffers.{premised, held}
use Rattle.entailment_judge.specs.Judging.{judged_tree, judged_witness, judged_chosen, read_contradiction, read_fits, chosen_contradiction, chosen_target, judged_missing, judged_bottom, judged_chosen_lem}
use Rattle.entailment_judge.specs.Sides.{splits_at}
use Rattle.entailment_judge.specs.Stored.{judged_premised, chosen_premised}
use Rattle.entailment_judge.specs.Answers.{leaf_of}
use Rattle.entailment_judge.specs.TrueTargets.{target_place, is_true, names_true}
use Rattle.entailment_judge.specs.declared.Leaf.{Leaf}
use Rattle.entailment_judge.proofs.Words.{found, next_at}
use Rattle.entailment_judge.proofs.FirstWord.{disjunct_at_lem, no_word, is_word}

module _ (words rows : List ℤ) (e : Entailment) (w : List ℤ) where
  abbrev meant : certificates.Entailment
  meant = meaning_of words rows e

  -- a witness whose first word is in a leaf's range is that leaf
  pub first_leaf : (at : ℕ) {x : ReadNumber} → word_in w at 0 e.count ≡ Some x → judged_witness meant (drop at w) ≡ judged_chosen meant x.number (drop x.at w)
  unfolding meaning_of judged_witness
  first_leaf at f = judged_chosen_lem most_splits meant (drop at w) (is_word e.form rows e.width e.place e.count w at f)

  -- a target without rows fits whatever the premises and the image are, and no word of it follows the first
  pub true_fits : (at : ℕ) {x : ReadNumber} → DisjunctsForm e.form rows e.width e.count e.place → word_in w at 0 e.count ≡ Some x
      → is_true rows (target_place rows e x.number) ≡ true → Some (record { fits = true; next = x.at }) ≡ leaf_of w (judged_witness meant (drop at w))
  unfolding meaning_of read_fits
  true_fits at {x} t f h =
      let j = x.number in
      let next = x.at in
      let p = disjuncts_end e.form rows e.width (j - 1) e.place in
      let (o, z) = names_true rows e j h in
      let k = found w at 0 e.count f in
      let s : j ≡ suc (j - 1) = omega arith in
      let d = disjunct_at_lem e.form rows e.width e.place e.count j p t o k.most refl in
      let y = chosen_target meant (drop next w) (j - 1) (rows_in e.form e.width (row_count rows p) (drop (p + 1) rows)) d in
      sym (ap (leaf_of w) (first_leaf at f ∙ ap (λ (i : ℕ). judged_chosen meant i (drop next w)) s ∙ y) ∙ rw (z, no_rows_in e.form e.width (drop (p + 1) rows), next_at w next k.inside))

  -- ---- a leaf, by its first word, with n rows for its premises

  module _ (n : ℕ) (ps : List Row) (many : length ps ≡ n) where
    pub leaf_zero : {j : ℕ} (next : ℕ) (r : Option Leaf) → j ≡ 0 → r ≡ leaf_of w (read_contradiction ps n (drop next w)) → r ≡ leaf_of w (judged_chosen (premised meant ps) j (drop next w))
    unfolding meaning_of
    leaf_zero next r z h = h ∙ rw (z, chosen_contradiction (premised meant ps) (drop next w), many)

    pub leaf_target : {j : ℕ} (next : ℕ) (r : Option Leaf) (p : ℕ) → DisjunctsForm e.form rows e.width e.count e.place → 1 ≤ j → j ≤ e.count → p ≡ disjuncts_end e.form rows e.width (j - 1) e.place
        → r ≡ leaf_of w (read_fits (image_rows words e.shape e.image) ps n (rows_in e.form e.width (row_count rows p) (drop (p + 1) rows)) true (drop next w))
        → r ≡ leaf_of w (judged_chosen (premised meant ps) j (drop next w))
    unfolding meaning_of
    leaf_target {j} next r p t o k q h =
        let s : suc (j - 1) ≡ j = omega arith in
        let d = disjunct_at_lem e.form rows e.width e.place e.count j p t o k q in
        let y = chosen_target (premised meant ps) (drop next w) (j - 1) (rows_in e.form e.width (row_count rows p) (drop (p + 1) rows)) d in
        h ∙ ap (leaf_of w) (sym (rw many at y) ∙ ap (λ (i : ℕ). judged_chosen (premised meant ps) i (drop next w)) s)

  -- the same, where the rows are alike the premises
  pub premised_leaf : {ps : List Row} → AllAlike ps meant.premises → (j next : ℕ) (r : Option Leaf) → r ≡ leaf_of w (judged_chosen (premised meant ps) j (drop next w)) → r ≡ leaf_of w (judged_chosen meant j (drop next w))
  premised_leaf h j next r q = q ∙ ap (leaf_of w) (chosen_premised meant h j (drop next w))

  module _ (n : ℕ) (buffer : List ℤ) where
    -- ---- a witness, with so many splits left

    module _ (at d : ℕ) where
      pub tree_leaf : {x : ReadNumber} (r : Option Leaf) → word_in w at 0 e.count ≡ Some x → r ≡ leaf_of w (judged_chosen (held meant n buffer) x.number (drop x.at w))
          → r ≡ leaf_of w (judged_tree d (held meant n buffer) (drop at w))
      unfolding meaning_of
      tree_leaf r f h = h ∙ ap (leaf_of w) (sym (judged_chosen_lem d (held meant n buffer) (drop at w) (is_word e.form rows e.width e.place e.count w at f)))

      pub tree_out : word_in w at 0 e.count ≡ None → splits_at (drop at w) ≡ false → None ≡ leaf_of w (judged_tree d (held meant n buffer) (drop at w))
      unfolding meaning_of
      tree_out f s = rw (judged_missing d (held meant n buffer) (drop at w) s (no_word e.form rows e.width e.place e.count w at f))

      pub tree_bottom : word_in w at 0 e.count ≡ None → d ≡ 0 → None ≡ leaf_of w (judged_tree d (held meant n buffer) (drop at w))
      unfolding meaning_of
      tree_bottom f z = rw (z, judged_bottom (held meant n buffer) (drop at w) (no_word e.form rows e.width e.place e.count w at f))

    -- ---- the same, where the buffer holds the premises

    module _ (b : Buffered e.columns meant.premises n buffer) where
      pub filled_leaf : (j next : ℕ) (r : Option Leaf) → r ≡ leaf_of w (judged_chosen (held meant n buffer) j (drop next w)) → r ≡ leaf_of w (judged_chosen meant j (drop next w))
      unfolding meaning_of
      filled_leaf = premised_leaf (buffered_alike b)

      pub filled_tree : (at : ℕ) (r : Option Leaf) → r ≡ leaf_of w (judged_tree most_splits (held meant n buffer) (drop at w)) → r ≡ leaf_of w (judged_witness meant (drop at w))
      unfolding meaning_of judged_witness
      filled_tree at r h = h ∙ ap (leaf_of w) (judged_premised meant (buffered_alike b) most_splits (drop at w))
