-- The entailments of a vertex, judged disjunct by disjunct in the row words: they are those of its entry's disjuncts, one after the other.
use mathlib.Core.Path.{◌≡◌, refl, ap}
use mathlib.Core.List.{List, [], ◌∷◌, ◌++◌, flat_map}
use Prim.Native.Nat.{ℕ, zero, suc, ◌+◌, ◌≤◌, ◌<◌}
use lib.IntN.{ℤ}
use lib.ListN.{length, take, drop}
use lib.Seq.{drop-drop}
use Rattle.words.specs.declared.StoredForm.{StoredForm}
use Rattle.words.specs.StoredRows.{rows_in}
use Rattle.programs.specs.ProgramWords.{k}
use Rattle.programs.specs.Decode as decode
use Rattle.certificates.specs.Certificate.{Disjunct}
use Rattle.certificates.specs.CertificateWords.{stored_form, row_count, disjunct_words, disjuncts_of, count_of, place_of, disjuncts_end, certificate}
use Rattle.certificates.specs.Entailments.{Entailment, from_vertex}
use Rattle.certificates.specs.Judgement.{Progress, running, judge}
use Rattle.program_readers.specs.declared.places.Sizes.{Sizes}
use Rattle.certificates.proofs.Entries.{count_at, rest_at}
use Rattle.certificate_readers.specs.DisjunctEnds.{end_next}
use Rattle.vertex_entailments.specs.Given.{Given, cases_of}
use Rattle.vertex_entailments.specs.VertexDisjuncts.{vertex_entry}
use Rattle.judge.specs.SearchLaws.{Grows, grows_flat_map, goes_on, Ends, ends_on, taken_all}

-- ---- one disjunct more

module _ (form : StoredForm) (rows : List ℤ) (m : ℕ) where
  -- the disjunct after so many from a place on
  abbrev pub disjunct_after : ℕ → ℕ → Disjunct
  disjunct_after place d = rows_in form m (row_count rows (disjuncts_end form rows m d place)) (drop (disjuncts_end form rows m d place + 1) rows)

  disjuncts_more : (d place : ℕ) → disjuncts_of form m (suc d) (drop place rows) ≡ disjuncts_of form m d (drop place rows) ++ (disjunct_after place d ∷ [])
  unfolding disjuncts_of disjuncts_end
  disjuncts_more zero place = rw (count_at form rows m place, drop-drop 1 place rows)
  disjuncts_more (suc d) place =
      let next = place + disjunct_words form m rows place in
      ap (λ (l : List Disjunct). rows_in form m (row_count (drop place rows) 0) (drop 1 (drop place rows)) ∷ l)
      (rw (rest_at form rows m place) (disjuncts_more d next))

  none_listed : (place : ℕ) → disjuncts_of form m 0 (drop place rows) ≡ []
  unfolding disjuncts_of
  none_listed place = refl

  pub grows_disjuncts : (f : Disjunct → List Entailment) (place count : ℕ)
      → Grows (λ d. flat_map f (disjuncts_of form m d (drop place rows))) (λ d. f (disjunct_after place d)) count
  grows_disjuncts f place count = grows_flat_map f (λ d. disjuncts_of form m d (drop place rows)) (disjunct_after place) count (none_listed place) (λ d. disjuncts_more d place)

  -- the entailments of a disjunct judged, where it stands
  pub disjunct_on : (f : Disjunct → List Entailment) (start count d place case : ℕ) (s t : Progress) {r : Progress} → d < count → place ≡ disjuncts_end form rows m d start
      → case ≡ length (f (rows_in form m (row_count rows place) (drop (place + 1) rows))) → judge (flat_map f (disjuncts_of form m d (drop start rows))) s ≡ t → judge (take case (f (rows_in form m (row_count rows place) (drop (place + 1) rows)))) t ≡ r
      → judge (flat_map f (disjuncts_of form m (d + 1) (drop start rows))) s ≡ r
  disjunct_on f start count d place case s t h e z before here =
      let whole = taken_all (f (rows_in form m (row_count rows place) (drop (place + 1) rows))) case t z here in
      goes_on (grows_disjuncts f start count) s d h before (rw e at whole)

  -- one of them refused, and with it the whole entry
  pub disjunct_ends : (f : Disjunct → List Entailment) (start count d place : ℕ) (words here : List ℤ) (n k : ℕ) {number : ℕ} {left : List ℤ} {held : ℕ} → d < count → place ≡ disjuncts_end form rows m d start
      → judge (flat_map f (disjuncts_of form m d (drop start rows))) (running words n) ≡ running here k
      → Ends (f (rows_in form m (row_count rows place) (drop (place + 1) rows))) (running here k) k number left held → Ends (flat_map f (disjuncts_of form m count (drop start rows))) (running words n) n number left held
  disjunct_ends f start count d place words here n k h e before ends = ends_on (grows_disjuncts f start count) words n d here k h before (rw e at ends)

  -- the next one stands behind it
  pub next_on : (start d place next width : ℕ) (told : StoredForm) → place ≡ disjuncts_end form rows m d start → next ≡ place + disjunct_words told width rows place → told ≡ form → width ≡ m
      → next ≡ disjuncts_end form rows m (d + 1) start
  next_on start d place next width told e g same h = rw (end_next form rows m d start, ← e, g, same, h)

-- ---- the entry of a vertex

module _ {program witness : List ℤ} {sizes : Sizes} {rows : List ℤ} (given : Given program witness sizes rows) (v : ℕ) (low : 1 ≤ v)
    (high : v ≤ sizes.statements + sizes.procedures) where
  abbrev columns : ℕ
  columns = k program v + k program v

  abbrev all_entries : ℕ
  all_entries = sizes.statements + sizes.procedures + sizes.procedures

  vertex_listed : from_vertex (decode.program program) (certificate program witness) v
      ≡ flat_map (cases_of program witness v) (disjuncts_of (stored_form witness) columns (count_of witness v) (drop (place_of witness all_entries v) rows))
  unfolding from_vertex cases_of
  vertex_listed = rw (vertex_entry given v low high).is

  module _ {count start : ℕ} (e : count ≡ count_of witness v) (f : start ≡ place_of witness all_entries v) where
    -- what is known of the entailments of all its disjuncts
    pub vertex_known : (Known : List Entailment → Type 0) (d : ℕ) → d ≡ count → Known (flat_map (cases_of program witness v) (disjuncts_of (stored_form witness) columns d (drop start rows)))
        → Known (from_vertex (decode.program program) (certificate program witness) v)
    vertex_known Known d z h = rw vertex_listed (rw (z, e, f) at h)
