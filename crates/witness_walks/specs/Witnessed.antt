-- An entailment by value: what walking is asked of it holds where it has the form, and after the words of a shaped witness the walk stands behind them
-- and has marked what the witness names.
use Rattle.std.specs.Prelude.{◌≡◌, List, ◌++◌, ℕ, ◌+◌, ◌≤◌, T, ℤ, length, drop}
use Rattle.std.proofs.Common.{ap, ◌∙◌, arith, length-append, length-drop}
use Rattle.words.specs.Limits.{most_splits}
use Rattle.certificates.specs.Witnesses.{Witness, encode, shaped}
use Rattle.entailments.specs.Meaning.{meaning_of}
use Rattle.entailments.specs.Forms.{EntailmentForm}
use Rattle.entailments.proofs.ImageSizes.{columns_most, width_most}
use Rattle.entailments.specs.declared.Entailment.{Entailment}
use Rattle.trimming.specs.Kept.{leaf_targets}
use Rattle.trimming.specs.Walks.{Walked, walked_by, walk}
use Rattle.trimming.proofs.Walks.{walked_tree}
use Rattle.witness_walks.specs.Marks.{Walkable, targets_of, marked, MarkedBy}
use Rattle.witness_walks.specs.Counts.{added_rows, premises_are, added_few}

unfoldable pub walked_from : List ℤ → Entailment → List ℤ → Walked
walked_from rows e ws = walk most_splits e.columns (e.n + added_rows e.added) (targets_of rows e) ws

module _ (words rows : List ℤ) (e : Entailment) (f : EntailmentForm words rows e) where
  pub walkable : Walkable rows e
  walkable =
      record {
        few_targets = f.few_targets;
        narrow = (omega (arith, width_most f.image_here), omega (arith, columns_most f.image_here));
        near = f.near_targets;
        targets_form = f.targets_form;
        few = f.disjunct_here.stand.few;
        few_added = added_few words rows e f;
      }

  walked_from_lem : (x : Witness) (rest : List ℤ) → T (shaped (meaning_of words rows e) x) → walked_from rows e (encode x ++ rest) ≡ walked_by rest (leaf_targets x)
  unfolding walked_from targets_of meaning_of shaped
  walked_from_lem x rest t = rw (premises_are words rows e f) at (walked_tree most_splits (meaning_of words rows e) x rest t)

  -- the walk ends behind the witness's words, and exactly the flags of the targets that it names are set
  pub witness_marked : (w : List ℤ) (at r : ℕ) (before after : List ℕ) (x : Witness) (rest : List ℤ) → T (shaped (meaning_of words rows e) x) → at ≤ length w → drop at w ≡ encode x ++ rest
      → MarkedBy w (walked_from rows e (drop at w)) r before after → (r ≡ at + length (encode x)) × (after ≡ marked (leaf_targets x) before)
  witness_marked w at r before after x rest t h q m =
      let z : walked_from rows e (drop at w) ≡ walked_by rest (leaf_targets x) = ap (walked_from rows e) q ∙ walked_from_lem x rest t in
      let left : drop r w ≡ rest = m.left ∙ ap (λ (y : Walked). y.left) z in
      (omega (arith, m.inside, length-drop at w, length-drop r w, ap length q, ap length left, length-append (encode x) rest), m.flags ∙ ap (λ (y : Walked). marked y.names before) z)
