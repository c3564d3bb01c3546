-- The disjuncts of a vertex, one after the other in the row words: the disjunct that a loop over the vertex's entry comes to stands where those before
-- it end, is the vertex's disjunct of that number, and has its form, because the form of the entry is known.
use Rattle.std.specs.Prelude.{◌≡◌, List, [], ℕ, ◌+◌, ◌≤◌, ◌<◌, ℤ, length, get_or, drop}
use Rattle.std.proofs.Math.Path.{refl}
use Rattle.std.proofs.Common.{arith}
use Rattle.basics.proofs.Lists.{get_d_at}
use Rattle.words.specs.declared.StoredForm.{StoredForm}
use Rattle.programs.specs.ProgramWords.{k}
use Rattle.certificates.specs.Certificate.{path_edges}
use Rattle.certificates.specs.CertificateWords.{stored_form, row_count, disjunct_words, disjuncts_of, count_of, place_of, disjuncts_end, certificate}
use Rattle.certificates.specs.CertificateForm.{DisjunctsForm, DisjunctsStrict}
use Rattle.certificates.proofs.Entries.{length_disjuncts_of}
use Rattle.certificate_readers.specs.DisjunctEnds.{end_next}
use Rattle.certificate_readers.specs.Disjuncts.{DisjunctHere, disjunct_here_lem, chosen}
use Rattle.program_readers.specs.declared.places.Sizes.{Sizes}
use Rattle.vertex_entailments.specs.Given.{Given, disjunct_at}
use Rattle.vertex_entailments.specs.Targets.{EdgesAt, entry_target, path_at}

-- ---- the places of the disjuncts, as a loop counts them

module _ (form : StoredForm) (rows : List ℤ) (m : ℕ) where
  pub first_place : (start : ℕ) → start ≡ disjuncts_end form rows m 0 start
  unfolding disjuncts_end
  first_place start = refl

  pub place_on : (start d place size width : ℕ) → place ≡ disjuncts_end form rows m d start → size ≡ disjunct_words form width rows place → width ≡ m
      → place + size ≡ disjuncts_end form rows m (d + 1) start
  place_on start d place size width e g h = rw (end_next form rows m d start, ← e, g, h)

-- ---- the entry of a vertex

module _ {program witness : List ℤ} {sizes : Sizes} {rows : List ℤ} (given : Given program witness sizes rows) (v : ℕ) (low : 1 ≤ v)
    (high : v ≤ sizes.statements + sizes.procedures) where
  abbrev columns : ℕ
  columns = k program v + k program v

  abbrev all_entries : ℕ
  all_entries = sizes.statements + sizes.procedures + sizes.procedures

  -- its disjuncts in the row words
  pub vertex_entry : EdgesAt rows columns (entry_target sizes witness v) (path_edges (certificate program witness) v)
  vertex_entry = path_at given v low (omega (arith, given.header.statements, given.header.procedures))

  module _ {count start : ℕ} (e : count ≡ count_of witness v) (f : start ≡ place_of witness all_entries v) where
    formed : DisjunctsForm (stored_form witness) rows columns count start
    formed = rw (e, f) vertex_entry.form

    -- the disjunct that a loop over the entry comes to
    pub vertex_disjunct : (d place : ℕ) → d < count → place ≡ disjuncts_end (stored_form witness) rows columns d start → DisjunctHere (stored_form witness) columns rows (place + 1) (row_count rows place)
    vertex_disjunct d place h there =
        let strict : DisjunctsStrict (stored_form witness) rows columns count start = rw (e, f) vertex_entry.strict in
        disjunct_here_lem (stored_form witness) rows columns d place (row_count rows place) formed strict h there refl

    -- it is the vertex's disjunct of that number
    pub vertex_edge : (d place : ℕ) → d < count → place ≡ disjuncts_end (stored_form witness) rows columns d start
        → get_or (path_edges (certificate program witness) v) d [] ≡ disjunct_at (stored_form witness) program rows v (place + 1) (row_count rows place)
    vertex_edge d place h there = rw (there, vertex_entry.is, ← e, ← f) (get_d_at (disjuncts_of (stored_form witness) columns count (drop start rows)) d [] (chosen (stored_form witness) rows columns count start d formed h).is)

    pub vertex_count : length (path_edges (certificate program witness) v) ≡ count
    vertex_count = rw (vertex_entry.is, length_disjuncts_of) (rw e)
