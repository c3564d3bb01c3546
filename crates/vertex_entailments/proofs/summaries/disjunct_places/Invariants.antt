-- `disjunct_places` meets its contract: before turn j the table has the places of the first j disjuncts, the last of which the loop stands at, and
-- the next one stands behind it.
use Rattle.std.proofs.Common.{◌≡◌, List, ℕ, suc, ◌+◌, ◌-◌, ◌≤◌, ℤ, length}
use Rattle.words.specs.declared.StoredForm.{StoredForm}
use Rattle.words.specs.Limits.{most_disjuncts}
use Rattle.certificates.specs.CertificateWords.{disjunct_words, disjuncts_end}
use Rattle.certificates.specs.CertificateForm.{DisjunctsForm}
use Rattle.vertex_entailments.specs.Summaries.{PlacesAt}
use Rattle.vertex_entailments.proofs.summaries.disjunct_places.Given as goal

pub record Turns (form : StoredForm) (rows : List ℤ) (m count place : ℕ) (at j : ℕ) (places : List ℕ) : Type 0 where
  pub few : j ≤ most_disjuncts
  pub left : j ≤ count → DisjunctsForm form rows m (suc (count - j)) at
  pub behind : at + disjunct_words form m rows at ≡ disjuncts_end form rows m j place
  pub placed : PlacesAt form rows m j place places

abbrev pub invariant-loop-j : goal.invariant-loop-j
invariant-loop-j l = Turns l.form l.rows l.m l.count l.place l.at l.j l.places × (length l.places ≡ length l.fn.places)
