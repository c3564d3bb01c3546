-- A flag is a byte: each disjunct that a program's entries may have has a place of its own, since the entries' numbers differ.
use Rattle.std.specs.Prelude.{◌≡◌, refl, ◌&&◌, List, ℕ, ◌+◌, ◌/◌, ◌%◌, ◌≤◌, ◌<◌, T, leb, ltb}
use Rattle.std.proofs.Common.{sym, ◌∙◌, arith, lt→ltb}
use Rattle.std.proofs.Math.Path.{ap}
use Rattle.std.proofs.Math.Dec.{ltb→lt}
use Rattle.std.proofs.Math.ListN.{get_or}
use Rattle.basics.proofs.Booleans.{and, and_l, and_r, le_test, eq_test}
use Rattle.words.specs.Limits.{most_disjuncts}
use Rattle.certificates.specs.Sources.{Entry, of_vertex, of_summary, Source, from_start, from_path, from_return}
use Rattle.trimming.specs.Kept.{keeps}
use Rattle.program_readers.specs.declared.places.Sizes.{Sizes}
use Rattle.entailment_sources.specs.KeptBytes.{entry_number, byte_of, has_entry, byte_is_one, flags_in}

-- what is known of a disjunct's place
pub record PlaceOf (sizes : Sizes) (t : Entry) (j b : ℕ) : Type 0 where
  pub has : T (has_entry sizes t)
  pub few : j < most_disjuncts
  pub at : b ≡ byte_of (entry_number sizes t) j

abbrev pub place_for : Sizes → Entry → ℕ → ℕ
place_for sizes t j = byte_of (entry_number sizes t) j

module _ (sizes : Sizes) where
  pub vertex_range : (v : ℕ) → T (has_entry sizes (of_vertex v)) → (1 ≤ v) × (v ≤ sizes.statements + sizes.procedures)
  unfolding has_entry
  vertex_range v h =
      ((le_test 1 v).0 (and_l (leb 1 v) (leb v (sizes.statements + sizes.procedures)) h), (le_test v (sizes.statements + sizes.procedures)).0 (and_r (leb 1 v) (leb v (sizes.statements + sizes.procedures)) h))

  pub summary_range : (q : ℕ) → T (has_entry sizes (of_summary q)) → (1 ≤ q) × (q ≤ sizes.procedures)
  unfolding has_entry
  summary_range q h = ((le_test 1 q).0 (and_l (leb 1 q) (leb q sizes.procedures) h), (le_test q sizes.procedures).0 (and_r (leb 1 q) (leb q sizes.procedures) h))

  pub has_vertex : (v : ℕ) → 1 ≤ v → v ≤ sizes.statements + sizes.procedures → T (has_entry sizes (of_vertex v))
  unfolding has_entry
  has_vertex v l h = and (leb 1 v) (leb v (sizes.statements + sizes.procedures)) ((le_test 1 v).1 l) ((le_test v (sizes.statements + sizes.procedures)).1 h)

  pub has_summary : (q : ℕ) → 1 ≤ q → q ≤ sizes.procedures → T (has_entry sizes (of_summary q))
  unfolding has_entry
  has_summary q l h = and (leb 1 q) (leb q sizes.procedures) ((le_test 1 q).1 l) ((le_test q sizes.procedures).1 h)

  pub number_range : (t : Entry) → T (has_entry sizes t) → (1 ≤ entry_number sizes t) × (entry_number sizes t ≤ sizes.statements + sizes.procedures + sizes.procedures)
  unfolding entry_number
  number_range (of_vertex v) h = let r = vertex_range v h in (r.0, omega (arith, r.1))
  number_range (of_summary q) h = let r = summary_range q h in (omega (arith, r.0), omega (arith, r.1))

  same_entry_lem : (t s : Entry) → T (has_entry sizes t) → T (has_entry sizes s) → entry_number sizes t ≡ entry_number sizes s → t ≡ s
  unfolding entry_number
  same_entry_lem (of_vertex v) (of_vertex u) h g e = ap of_vertex e
  same_entry_lem (of_vertex v) (of_summary q) h g e = absurd (omega (arith, e, (vertex_range v h).1, (summary_range q g).0))
  same_entry_lem (of_summary q) (of_vertex v) h g e = absurd (omega (arith, e, (vertex_range v g).1, (summary_range q h).0))
  same_entry_lem (of_summary q) (of_summary r) h g e = ap of_summary (omega (arith, e))

  -- a place is one disjunct's
  pub same_place : {t s : Entry} {j k b : ℕ} → PlaceOf sizes t j b → PlaceOf sizes s k b → (t ≡ s) × (j ≡ k)
  same_place {t} {s} {j} {k} {b} x y =
      let a = number_range t x.has in
      let c = number_range s y.has in
      (same_entry_lem t s x.has y.has (omega (arith, x.at, y.at, x.few, y.few, a.0, c.0)), omega (arith, x.at, y.at, x.few, y.few, a.0, c.0))

  -- which entry's and which of its disjuncts a place is
  pub place_parts : {t : Entry} {j b : ℕ} → PlaceOf sizes t j b → (b / most_disjuncts + 1 ≡ entry_number sizes t) × (b % most_disjuncts ≡ j)
  place_parts {t} {j} {b} x = let a = number_range t x.has in (omega (arith, x.at, x.few, a.0), omega (arith, x.at, x.few, a.0))

  module _ (kept : List ℕ) where
    pub flag_place : (t : Entry) (j : ℕ) → T (flags_in sizes kept t j) → PlaceOf sizes t j (place_for sizes t j)
    unfolding flags_in
    flag_place t j h =
        record {
          has = and_l (has_entry sizes t) (ltb j most_disjuncts && byte_is_one kept (entry_number sizes t) j) h;
          few = ltb→lt j most_disjuncts (and_l (ltb j most_disjuncts) (byte_is_one kept (entry_number sizes t) j) (and_r (has_entry sizes t) (ltb j most_disjuncts && byte_is_one kept (entry_number sizes t) j) h));
          at = refl;
        }

    pub flag_byte : (t : Entry) (j : ℕ) → T (flags_in sizes kept t j) → get_or kept (place_for sizes t j) 0 ≡ 1
    unfolding flags_in
    flag_byte t j h =
        (eq_test (get_or kept (place_for sizes t j) 0) 1).0
        (and_r (ltb j most_disjuncts) (byte_is_one kept (entry_number sizes t) j) (and_r (has_entry sizes t) (ltb j most_disjuncts && byte_is_one kept (entry_number sizes t) j) h))

    pub byte_flag : {t : Entry} {j b : ℕ} → PlaceOf sizes t j b → get_or kept b 0 ≡ 1 → T (flags_in sizes kept t j)
    unfolding flags_in
    byte_flag {t} {j} {b} x e =
        and (has_entry sizes t) (ltb j most_disjuncts && byte_is_one kept (entry_number sizes t) j) x.has
        (and (ltb j most_disjuncts) (byte_is_one kept (entry_number sizes t) j) (lt→ltb j most_disjuncts x.few) ((eq_test (get_or kept (place_for sizes t j) 0) 1).1 (ap (λ (i : ℕ). get_or kept i 0) (sym x.at) ∙ e)))

-- ---- more bytes are more flags

abbrev pub More : List ℕ → List ℕ → Type 0
More kept kept' = (b : ℕ) → get_or kept b 0 ≡ 1 → get_or kept' b 0 ≡ 1

module _ (sizes : Sizes) (kept kept' : List ℕ) (more : More kept kept') where
  pub more_flags : (t : Entry) (j : ℕ) → T (flags_in sizes kept t j) → T (flags_in sizes kept' t j)
  more_flags t j h = byte_flag sizes kept' (flag_place sizes kept t j h) (more (place_for sizes t j) (flag_byte sizes kept t j h))

  pub more_kept : (s : Source) → T (keeps (flags_in sizes kept) s) → T (keeps (flags_in sizes kept') s)
  unfolding keeps
  more_kept from_start h = tt
  more_kept (from_path v i) h = more_flags (of_vertex v) i h
  more_kept (from_return v i q l) h =
      and (flags_in sizes kept' (of_vertex v) i) (flags_in sizes kept' (of_summary q) l)
      (more_flags (of_vertex v) i (and_l (flags_in sizes kept (of_vertex v) i) (flags_in sizes kept (of_summary q) l) h))
      (more_flags (of_summary q) l (and_r (flags_in sizes kept (of_vertex v) i) (flags_in sizes kept (of_summary q) l) h))
