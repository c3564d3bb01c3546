-- What a walk asks of an entailment by value, and flags that are set for the targets that a witness names.
use Rattle.std.specs.Prelude.{◌≡◌, refl, List, [], ◌∷◌, ◌++◌, ℕ, ◌≤◌, ℤ, length, drop, set}
use Rattle.words.specs.Limits.{most_rows, most_disjuncts, most_words}
use Rattle.certificates.specs.Certificate.{Disjunct}
use Rattle.certificates.specs.CertificateWords.{disjuncts_of}
use Rattle.certificates.specs.CertificateForm.{DisjunctsForm}
use Rattle.entailments.specs.declared.Entailment.{Entailment}
use Rattle.trimming.specs.Walks.{Walked}
use Rattle.witness_walks.specs.Counts.{FewAdded}

-- its targets stand in the row words, and its numbers are within limits
pub record Walkable (rows : List ℤ) (e : Entailment) : Type 0 where
  pub few_targets : e.count ≤ most_disjuncts
  pub narrow : (e.width ≤ 64) × (e.columns ≤ 64)
  pub near : e.place ≤ most_words
  pub targets_form : DisjunctsForm e.form rows e.width e.count e.place
  pub few : e.n ≤ most_rows
  pub few_added : FewAdded e.added

unfoldable pub targets_of : List ℤ → Entailment → List Disjunct
targets_of rows e = disjuncts_of e.form e.width e.count (drop e.place rows)

unfoldable pub marked : List ℕ → List ℕ → List ℕ
marked [] flags = flags
marked (j ∷ js) flags = marked js (set flags j 1)

pub marked_append : (js ks flags : List ℕ) → marked (js ++ ks) flags ≡ marked ks (marked js flags)
unfolding marked
marked_append [] ks flags = refl
marked_append (j ∷ js) ks flags = marked_append js ks (set flags j 1)

-- the words left begin at r, and the flags of what is named are set
pub record MarkedBy (w : List ℤ) (x : Walked) (r : ℕ) (before after : List ℕ) : Type 0 where
  pub left : drop r w ≡ x.left
  pub inside : r ≤ length w
  pub flags : after ≡ marked x.names before
