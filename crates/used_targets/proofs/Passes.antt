-- A pass that fills the table: at the head of each of its loops all entailments before the next one have their bytes, and the next one's witness begins
-- at the place reached. One entailment more sets its byte and no other's, because a disjunct has at most 9 entailments and a vertex at most 8
-- disjuncts, so that each entailment has a slot of its own; and after all vertices the table is the uses.
use Rattle.std.specs.Prelude.{◌≡◌, ◌⊎◌, Bool, true, false, ℕ, suc, ◌+◌, ◌≤◌, ◌<◌, T, eqb, ltb, ℤ, set, drop}
use Rattle.std.proofs.Math.Path.{refl, sym, ap}
use Rattle.std.proofs.Common.{◌∙◌, subst, inl, inr, arith, eqb-true, ltb-true, ltb-false, get_or-set_same, get_or-set_other}
use mathlib.Core.List.{List, [], ◌++◌, Memᴰ}
use Rattle.std.proofs.lemmas.Bool.{eqb-false}
use Rattle.std.proofs.Math.ListN.{length, get_or}
use Rattle.std.proofs.Math.Seq.{get_or-append_seam}
use Rattle.basics.proofs.Booleans.{parts}
use Rattle.rows.specs.Rows.{fits_constant}
use Rattle.programs.specs.Program.{statement_at, owner}
use Rattle.programs.specs.ProgramWords.{n, p, k}
use Rattle.programs.proofs.Formed.{length_statements, length_procedures}
use Rattle.certificates.specs.Certificate.{Disjunct, path_edges}
use Rattle.certificates.specs.CertificateWords.{stored_form, count_of, place_of, witness_words}
use Rattle.certificates.proofs.Count.{disjunct_bound}
use Rattle.certificates.proofs.Entries.{length_disjuncts_of, summary_most}
use Rattle.certificates.specs.Entailments.{start_entailment, from_disjunct}
use Rattle.certificates.specs.Sources.{Sourced, sourced}
use Rattle.certificates.specs.Witnesses.{Witness, encode, encode_all, works, works_by}
use Rattle.trimming.specs.Kept.{leaf_targets, Use, use_by}
use Rattle.trimming.proofs.InRange.{targets_exist}
use Rattle.trimming.specs.Passed.{no_witness, This, Place, passed, reached}
use Rattle.trimming.proofs.Passed.{start_this, start_reached, first_reached, disjunct_reached, vertex_reached, case_this, case_reached, ahead, place_of_lem, used_place, cases_counted, case_entailment, start_inside}
use Rattle.program_readers.specs.declared.places.Sizes.{Sizes}
use Rattle.vertex_entailments.specs.Given.{Given, cases_of, no_entailment, StandsFor}
use Rattle.vertex_entailments.specs.VertexDisjuncts.{vertex_entry}
use Rattle.checker.specs.ListedWitnesses.{listed_sources, AllListed}
use Rattle.entailments.specs.Meaning.{meaning_of}
use Rattle.entailments.specs.Forms.{EntailmentForm}
use Rattle.entailments.specs.declared.Entailment.{Entailment}
use Rattle.witness_walks.specs.Marks.{marked}
use Rattle.witness_walks.specs.Witnessed.{witness_marked}
use Rattle.used_targets.specs.declared.Used.{Used}
use Rattle.used_targets.specs.Packed.{packed_of, no_flags}
use Rattle.used_targets.proofs.PackedLaws.{packed_names}
use Rattle.used_targets.specs.UseTable.{slot_of, UsedBy, start_sourced, cases_from, Listed, Tabled}
use Rattle.used_targets.specs.Passes.{ByteOf, Head, UsedAt, before, certified, decoded, witness_for, ws}

module _ {program rows : List ℤ} {e : Entailment} (f : EntailmentForm program rows e) where
  targets_few : (x : Witness) → T (works (meaning_of program rows e) x) → (j : ℕ) → Memᴰ j (leaf_targets x) → j < 8
  unfolding meaning_of
  targets_few x t j m = omega (arith, targets_exist fits_constant (meaning_of program rows e) x t j m, length_disjuncts_of e.form e.width e.count (drop e.place rows), f.few_targets)

  -- of one that works
  pub used_at : (w : List ℤ) (at : ℕ) (x : Witness) (rest : List ℤ) (r : Used) → T (works (meaning_of program rows e) x) → at ≤ length w → drop at w ≡ encode x ++ rest → UsedAt w rows e at r
      → (r.next ≡ at + length (encode x)) × ByteOf x r.byte
  unfolding works_by
  used_at w at x rest r t h q u =
      let (next, flags) = witness_marked program rows e f w at r.next no_flags u.flags x rest (search parts) h q u.walked in
      let byte : r.byte ≡ packed_of (marked (leaf_targets x) no_flags) = u.packs ∙ ap packed_of flags in
      (next, record { exactly = λ j. rw byte (packed_names (leaf_targets x) (targets_few x t) j) })

module _ {program witness : List ℤ} {sizes : Sizes} {rows : List ℤ} (given : Given program witness sizes rows) (all : AllListed program witness) where
  -- ---- the slots

  few : (v i case : ℕ) → Listed program witness v i case → (1 ≤ v) × ((i < 8) × (case < 9))
  few v i case l =
      let entry = vertex_entry given v l.low (omega (arith, l.high, given.header.statements, given.header.procedures)) in
      let edges = ap length entry.is ∙ length_disjuncts_of (stored_form witness) (k program v + k program v) (count_of witness v) (drop (place_of witness (sizes.statements + sizes.procedures + sizes.procedures) v) rows) in
      let d = get_or (path_edges (certified given all) v) i [] in
      let most = disjunct_bound (decoded given all) (certified given all) (summary_most program witness (stored_form witness)) (owner (decoded given all) v) (statement_at (decoded given all) v) d in
      (l.low, (omega (arith, l.disjunct, edges, entry.few), omega (arith, l.this, cases_counted (decoded given all) (certified given all) v i, most)))

  -- each entailment has its own
  own_slot : (u j other v i case : ℕ) → Listed program witness u j other → Listed program witness v i case → slot_of u j other ≡ slot_of v i case → (u ≡ v) × ((j ≡ i) × (other ≡ case))
  own_slot u j other v i case l r e =
      let a = few u j other l in
      let b = few v i case r in
      (omega arith, (omega arith, omega arith))

  -- ---- the next entailment

  vertices_are : length (decoded given all).statements + length (decoded given all).procedures ≡ n program + p program
  vertices_are = omega (arith, length_statements program, length_procedures program)

  this_one : (v i case : ℕ) → Listed program witness v i case
      → This (listed_sources program witness) (ws given all) (before program witness v i case) (get_or (cases_from program witness v i) case (start_sourced program witness)) (witness_for program witness v i case)
  this_one v i case l =
      case_this (decoded given all) (certified given all) (ws given all) all.work v i case (start_sourced program witness) l.low (omega (arith, l.high, vertices_are)) l.disjunct l.this

  module _ {v i case at : ℕ} {table : List ℕ} (h : Head program witness v i case at table) where
    pub head_inside : at ≤ length (witness_words program witness)
    head_inside = omega (arith, h.place, start_inside (ws given all) (before program witness v i case), ap length all.spelled)

    module _ (l : Listed program witness v i case) where
      -- its witness stands where the pass is, and works
      pub head_begins : drop at (witness_words program witness) ≡ encode (witness_for program witness v i case) ++ encode_all (drop (suc (before program witness v i case)) (ws given all))
      head_begins = ap (drop at) all.spelled ∙ (ap (λ (a : ℕ). drop a (encode_all (ws given all))) h.place ∙ (this_one v i case l).begins)

      pub head_works : T (works (get_or (cases_from program witness v i) case (start_sourced program witness)).entailment (witness_for program witness v i case))
      head_works = (this_one v i case l).work

      -- with its byte set
      pub head_case : (next byte : ℕ) → slot_of v i case < length table → next ≡ at + length (encode (witness_for program witness v i case)) → ByteOf (witness_for program witness v i case) byte
          → Head program witness v i (case + 1) next (set table (slot_of v i case) byte)
      head_case next byte inside e b =
          record {
            place = e ∙ (ap (λ (a : ℕ). a + length (encode (witness_for program witness v i case))) h.place
                ∙ sym (case_reached (decoded given all) (certified given all) (ws given all) all.work v i case (start_sourced program witness) l.low (omega (arith, l.high, vertices_are)) l.disjunct l.this));
            filled = filled;
          }
        where
          filled : (u j other : ℕ) → Listed program witness u j other → slot_of u j other < slot_of v i (case + 1) → ByteOf (witness_for program witness u j other) (get_or (set table (slot_of v i case) byte) (slot_of u j other) 0)
          filled u j other r below = go (eqb (slot_of u j other) (slot_of v i case)) refl
            where
              go : (t : Bool) → eqb (slot_of u j other) (slot_of v i case) ≡ t → ByteOf (witness_for program witness u j other) (get_or (set table (slot_of v i case) byte) (slot_of u j other) 0)
              go true q =
                  let (a, (d, f)) = own_slot u j other v i case r l (eqb-true (slot_of u j other) (slot_of v i case) q) in
                  rw (a, d, f, get_or-set_same table (slot_of v i case) byte 0 inside) b
              go false q =
                  let apart = eqb-false (slot_of u j other) (slot_of v i case) q in
                  rw (get_or-set_other table (slot_of v i case) (slot_of u j other) byte 0 apart) (h.filled u j other r (omega (arith, apart)))

  -- what the code's value for it says
  stands_for : (v i case : ℕ) {d : Disjunct} {e : Entailment} → Listed program witness v i case → get_or (path_edges (certified given all) v) i [] ≡ d → StandsFor program rows e (get_or (cases_of program witness v d) case no_entailment)
      → (get_or (cases_from program witness v i) case (start_sourced program witness)).entailment ≡ meaning_of program rows e
  unfolding cases_of
  stands_for v i case l q s =
      case_entailment (decoded given all) (certified given all) v i case (start_sourced program witness) no_entailment l.this
      ∙ (ap (λ (d : Disjunct). get_or (from_disjunct (decoded given all) (certified given all) (owner (decoded given all) v) (statement_at (decoded given all) v) d) case no_entailment) q ∙ sym s.is)

  -- how many entailments the disjunct has
  pub cases_here : (v i : ℕ) {d : Disjunct} → get_or (path_edges (certified given all) v) i [] ≡ d → length (cases_of program witness v d) ≡ length (cases_from program witness v i)
  unfolding cases_of
  cases_here v i q =
      ap (λ (d : Disjunct). length (from_disjunct (decoded given all) (certified given all) (owner (decoded given all) v) (statement_at (decoded given all) v) d)) (sym q)
      ∙ sym (cases_counted (decoded given all) (certified given all) v i)

  -- the byte that was read for it
  pub head_used : {v i case at : ℕ} {table : List ℕ} {d : Disjunct} {e : Entailment} (r : Used) → Head program witness v i case at table → Listed program witness v i case → get_or (path_edges (certified given all) v) i [] ≡ d
      → StandsFor program rows e (get_or (cases_of program witness v d) case no_entailment) → UsedAt (witness_words program witness) rows e at r
      → (slot : ℕ) → slot ≡ slot_of v i case → slot < length table → Head program witness v i (case + 1) r.next (set table slot r.byte)
  head_used {v} {i} {case} {at} {table} r h l q s u slot z inside =
      let x = witness_for program witness v i case in
      let good : T (works (meaning_of _ _ _) x) = subst (λ y. T (works y x)) (stands_for v i case l q s) (head_works h l) in
      let (next, byte) = used_at s.form (witness_words program witness) at x _ r good (head_inside h) (head_begins h l) u in
      subst (λ (a : ℕ). Head program witness v i (case + 1) r.next (set table a r.byte)) (sym z) (head_case h l r.next r.byte (omega arith) next byte)

  -- the start's byte stands apart
  head_first : {at : ℕ} {table : List ℕ} → at ≡ length (encode (get_or (ws given all) 0 no_witness)) → Head program witness 1 0 0 at table
  head_first e =
      record { place = e ∙ sym (first_reached (decoded given all) (certified given all) (ws given all) all.work); filled = λ u j other r below. absurd (omega arith) }

  -- and for the start's
  pub start_used : {e : Entailment} {table : List ℕ} (r : Used) → StandsFor program rows e (start_entailment (decoded given all) (certified given all)) → UsedAt (witness_words program witness) rows e 0 r
      → Head program witness 1 0 0 r.next table × ByteOf (get_or (ws given all) 0 no_witness) r.byte
  start_used r s u =
      let this = start_this (decoded given all) (certified given all) (ws given all) all.work in
      let x = get_or (ws given all) 0 no_witness in
      let here = ap (drop 0) all.spelled ∙ (ap (λ (a : ℕ). drop a (encode_all (ws given all))) (sym (start_reached (decoded given all) (certified given all) (ws given all) all.work)) ∙ this.begins) in
      let good : T (works (meaning_of _ _ _) x) = subst (λ y. T (works y x)) (sym s.is) this.work in
      let (next, byte) = used_at s.form (witness_words program witness) 0 x _ r good (omega arith) here u in
      (head_first (next ∙ omega arith), byte)

  -- a disjunct's entailments fill its slots up to the next disjunct's, as far as there are any
  before_disjunct : (u j other v i case : ℕ) → Listed program witness u j other → 1 ≤ v → i < 8 → case ≡ length (cases_from program witness v i) → slot_of u j other < slot_of v (i + 1) 0 → slot_of u j other < slot_of v i case
  before_disjunct u j other v i case r low b e below = go (ltb (slot_of u j other) (slot_of v i case)) refl
    where
      go : (t : Bool) → ltb (slot_of u j other) (slot_of v i case) ≡ t → slot_of u j other < slot_of v i case
      go true q = ltb-true (slot_of u j other) (slot_of v i case) q
      go false q =
          let last = ltb-false (slot_of u j other) (slot_of v i case) q in
          let least = few u j other r in
          let same : u ≡ v = omega arith in
          let alike : j ≡ i = omega arith in
          let this : other < length (cases_from program witness v i) = rw (same, alike) at r.this in
          absurd (omega arith)

  before_vertex : (u j other v i : ℕ) → Listed program witness u j other → 1 ≤ v → i ≡ length (path_edges (certified given all) v) → slot_of u j other < slot_of (v + 1) 0 0 → slot_of u j other < slot_of v i 0
  before_vertex u j other v i r low e below = go (ltb (slot_of u j other) (slot_of v i 0)) refl
    where
      go : (t : Bool) → ltb (slot_of u j other) (slot_of v i 0) ≡ t → slot_of u j other < slot_of v i 0
      go true q = ltb-true (slot_of u j other) (slot_of v i 0) q
      go false q =
          let last = ltb-false (slot_of u j other) (slot_of v i 0) q in
          let least = few u j other r in
          let same : u ≡ v = omega arith in
          let disjunct : j < length (path_edges (certified given all) v) = rw same at r.disjunct in
          absurd (omega arith)

  -- all entailments of a disjunct
  pub head_disjunct : {v i case at : ℕ} {table : List ℕ} → 1 ≤ v → i < 8 → i < length (path_edges (certified given all) v) → case ≡ length (cases_from program witness v i) → Head program witness v i case at table
      → Head program witness v (i + 1) 0 at table
  head_disjunct {v} {i} {case} low b d e h =
      record {
        place = h.place ∙ (ap (reached (decoded given all) (certified given all) (ws given all) v i) e ∙ disjunct_reached (decoded given all) (certified given all) (ws given all) all.work v i d);
        filled = λ u j other r below. h.filled u j other r (before_disjunct u j other v i case r low b e below);
      }

  -- all disjuncts of a vertex
  pub head_vertex : {v i at : ℕ} {table : List ℕ} → 1 ≤ v → i ≡ length (path_edges (certified given all) v) → Head program witness v i 0 at table → Head program witness (v + 1) 0 0 at table
  head_vertex {v} {i} low e h =
      record {
        place = h.place ∙ (ap (λ (j : ℕ). reached (decoded given all) (certified given all) (ws given all) v j 0) e ∙ vertex_reached (decoded given all) (certified given all) (ws given all) all.work v low);
        filled = λ u j other r below. h.filled u j other r (before_vertex u j other v i r low e below);
      }

  -- ---- all vertices

  sourced_at : (v i case : ℕ) → Listed program witness v i case → get_or (listed_sources program witness) (before program witness v i case) (start_sourced program witness) ≡ get_or (cases_from program witness v i) case (start_sourced program witness)
  sourced_at v i case l =
      let (rest, e) = ahead (decoded given all) (certified given all) v i case (start_sourced program witness) l.low (omega (arith, l.high, vertices_are)) l.disjunct l.this in
      ap (λ (xs : List Sourced). get_or xs (before program witness v i case) (start_sourced program witness)) e
      ∙ get_or-append_seam (passed (decoded given all) (certified given all) v i case) (get_or (cases_from program witness v i) case (start_sourced program witness)) rest (start_sourced program witness)

  start_at : get_or (listed_sources program witness) 0 (start_sourced program witness) ≡ start_sourced program witness
  unfolding sourced
  start_at = refl

  -- a byte of a witness is what the use with that witness says
  used_by : {x : Sourced} {byte : ℕ} {y : Witness} {u : Use} → u ≡ use_by x.source x.leads_to (leaf_targets y) → ByteOf y byte → UsedBy x byte u
  used_by e b = rw e (record { source = refl; leads_to = refl; targets = b.exactly })

  module _ {v at : ℕ} {table : List ℕ} {start : ℕ} (e : v ≡ n program + p program + 1) (h : Head program witness v 0 0 at table) (b : ByteOf (get_or (ws given all) 0 no_witness) start) where
    byte_at : (v i case : ℕ) → Listed program witness v i case → ByteOf (witness_for program witness v i case) (get_or table (slot_of v i case) 0)
    byte_at v i case l = h.filled v i case l (let a = few v i case l in omega (arith, l.high))

    found : (u : Use) (k : ℕ) → u ≡ use_by (get_or (listed_sources program witness) k (start_sourced program witness)).source (get_or (listed_sources program witness) k (start_sourced program witness)).leads_to (leaf_targets (get_or (ws given all) k no_witness))
        → (k ≡ 0) ⊎ ((v : ℕ) × (i : ℕ) × (case : ℕ) × Place (decoded given all) (certified given all) v i case × (k ≡ before program witness v i case))
        → UsedBy (start_sourced program witness) start u ⊎ ((v : ℕ) × (i : ℕ) × (case : ℕ) × Listed program witness v i case × UsedBy (get_or (cases_from program witness v i) case (start_sourced program witness)) (get_or table (slot_of v i case) 0) u)
    found u k q (inl z) = inl (used_by (rw (z, start_at) at q) b)
    found u k q (inr (v, i, case, l, z)) =
        let there : Listed program witness v i case = record { low = l.low; high = omega (arith, l.high, vertices_are); disjunct = l.disjunct; this = l.this } in
        inr (v, i, case, there, used_by (rw (z, sourced_at v i case there) at q) (byte_at v i case there))

    pub tabled : Tabled program witness table start
    tabled =
        record {
          start_listed = (_, (start_this (decoded given all) (certified given all) (ws given all) all.work).used, used_by refl b);
          listed = λ v i case l. (_, (this_one v i case l).used, used_by refl (byte_at v i case l));
          all = λ u m. let (k, i, q) = used_place (listed_sources program witness) (ws given all) (start_sourced program witness) m in found u k q (place_of_lem (decoded given all) (certified given all) k i);
        }
