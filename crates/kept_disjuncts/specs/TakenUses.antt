-- Which entailments come from a disjunct: those of a vertex's disjunct are its own, and from a summary's disjunct l come the returns by it, which are
-- the entailments l + 1 of the disjuncts of calls. So when these are looked at, a disjunct is taken.
use Rattle.std.specs.Prelude.{◌≡◌, ◌⊎◌, Bool, true, false, ℕ, ◌+◌, ◌-◌, ◌/◌, ◌%◌, ◌≤◌, ◌<◌, T, ℤ, get_or}
use Rattle.std.proofs.Common.{sym, ap, ◌∙◌, inl, inr, arith}
use Rattle.std.proofs.Math.Path.{subst}
use mathlib.Core.List.{List, [], Memᴰ}
use Rattle.words.specs.Limits.{most_disjuncts}
use Rattle.programs.specs.Program.{statement_at}
use Rattle.programs.specs.Decode as decode
use Rattle.certificates.specs.Certificate.{path_edges}
use Rattle.certificates.specs.CertificateWords.{certificate}
use Rattle.certificates.specs.Sources.{Entry, of_vertex, of_summary, Source, from_start, from_path, from_return}
use Rattle.trimming.specs.Kept.{Use, keeps}
use Rattle.trimming.specs.Taking.{IsSource, Answers}
use Rattle.trimmed_words.specs.Trim.{listed_uses}
use Rattle.program_readers.specs.declared.places.Sizes.{Sizes}
use Rattle.entailment_sources.specs.KeptBytes.{entry_number, flags_in}
use Rattle.entailment_sources.specs.CaseLaws.{OwnSource, own_source}
use Rattle.used_targets.specs.UseTable.{UsedBy, start_sourced, Listed}
use Rattle.kept_disjuncts.specs.FlagBytes.{PlaceOf, vertex_range, summary_range, place_parts}
use Rattle.kept_disjuncts.specs.Standing.{Known, case_byte, case_here, CaseDone, ReturnDone}

-- ---- entries differ

number_in : Entry → ℕ
number_in (of_vertex v) = v
number_in (of_summary q) = q

is_vertex : Entry → Bool
is_vertex (of_vertex v) = true
is_vertex (of_summary q) = false

no_vertex : {v q : ℕ} → of_vertex v ≡ of_summary q → ⊥
unfolding is_vertex
no_vertex e = subst (λ (t : Entry). T (is_vertex t)) e tt

-- ---- the entailments that come from a disjunct

-- from a vertex's
from_own : (v i u j case : ℕ) (a : Source) → OwnSource u j case a → IsSource (of_vertex v) i a → (v ≡ u) × (i ≡ j)
unfolding OwnSource IsSource number_in
from_own v i u j case from_start o s = absurd o
from_own v i u j case (from_path w k) (e, f) (g, h) = (sym (ap number_in g) ∙ e, sym h ∙ f)
from_own v i u j case (from_return w k q l) (e, f, c) (inl (g, h)) = (sym (ap number_in g) ∙ e, sym h ∙ f)
from_own v i u j case (from_return w k q l) o (inr (g, h)) = absurd (no_vertex (sym g))

-- from a summary's
from_summary : (q l u j case : ℕ) (a : Source) → OwnSource u j case a → IsSource (of_summary q) l a → (l + 1 ≡ case) × (a ≡ from_return u j q l)
unfolding OwnSource IsSource number_in
from_summary q l u j case from_start o s = absurd o
from_summary q l u j case (from_path w k) o (g, h) = absurd (no_vertex g)
from_summary q l u j case (from_return w k r m) o (inl (g, h)) = absurd (no_vertex g)
from_summary q l u j case (from_return w k r m) (e, f, c) (inr (g, h)) = let callee : r ≡ q = ap number_in g in (omega (arith, c, h), rw (e, f, callee, h))

module _ {program witness : List ℤ} {sizes : Sizes} {table : List ℕ} (K : Known program witness sizes table) (bytes bytes' : List ℕ) where
  -- an entailment of a vertex's disjunct comes from it
  pub own : (v i case : ℕ) → Listed program witness v i case → OwnSource v i case (case_here program witness sizes table v i case).source
  own v i case l =
      own_source (decode.program program) (certificate program witness) v i (get_or (path_edges (certificate program witness) v) i []) (start_sourced program witness) (statement_at (decode.program program) v) case l.this

  -- a use whose entailment was looked at
  answered : (v i case : ℕ) → CaseDone program witness sizes table bytes bytes' v i case → Listed program witness v i case → (u : Use) → UsedBy (case_here program witness sizes table v i case) (case_byte table v i case) u
      → T (keeps (flags_in sizes bytes) u.source) → (k : ℕ) → Memᴰ k u.targets → T (flags_in sizes bytes' u.leads_to k)
  answered v i case d l u x t k m =
      subst (λ (a : Entry). T (flags_in sizes bytes' a k)) (sym x.leads_to)
      (d.done l (subst (λ (a : Source). T (keeps (flags_in sizes bytes) a)) x.source t) k ((x.targets k).1 m))

  not_start : (t : Entry) (j : ℕ) (u : Use) (byte : ℕ) → UsedBy (start_sourced program witness) byte u → IsSource t j u.source → ⊥
  unfolding IsSource
  not_start t j u byte x s = subst (IsSource t j) x.source s

  pub path_answers : (v i : ℕ) → ((case : ℕ) → CaseDone program witness sizes table bytes bytes' v i case) → Answers (listed_uses program witness) (flags_in sizes bytes) (of_vertex v) i (flags_in sizes bytes')
  path_answers v i d u m s t k n = go (K.tabled.all u m)
    where
      go : UsedBy (start_sourced program witness) K.start u ⊎ ((w : ℕ) × (j : ℕ) × (case : ℕ) × Listed program witness w j case × UsedBy (case_here program witness sizes table w j case) (case_byte table w j case) u)
          → T (flags_in sizes bytes' u.leads_to k)
      go (inl x) = absurd (not_start (of_vertex v) i u K.start x s)
      go (inr (w, j, case, l, x)) =
          let (e, f) = from_own v i w j case (case_here program witness sizes table w j case).source (own w j case l) (subst (IsSource (of_vertex v) i) x.source s) in
          answered w j case (subst (λ (a : ℕ). CaseDone program witness sizes table bytes bytes' a j case) e (subst (λ (b : ℕ). CaseDone program witness sizes table bytes bytes' v b case) f (d case))) l u x t k n

  pub summary_answers : (q l : ℕ) → ((v i : ℕ) → ReturnDone program witness sizes table bytes bytes' q v i (l + 1)) → Answers (listed_uses program witness) (flags_in sizes bytes) (of_summary q) l (flags_in sizes bytes')
  summary_answers q l d u m s t k n = go (K.tabled.all u m)
    where
      go : UsedBy (start_sourced program witness) K.start u ⊎ ((w : ℕ) × (j : ℕ) × (case : ℕ) × Listed program witness w j case × UsedBy (case_here program witness sizes table w j case) (case_byte table w j case) u)
          → T (flags_in sizes bytes' u.leads_to k)
      go (inl x) = absurd (not_start (of_summary q) l u K.start x s)
      go (inr (w, j, case, h, x)) =
          let (e, f) = from_summary q l w j case (case_here program witness sizes table w j case).source (own w j case h) (subst (IsSource (of_summary q) l) x.source s) in
          answered w j case ((subst (λ (c : ℕ). ReturnDone program witness sizes table bytes bytes' q w j c) e (d w j)).returns h l f) h u x t k n

-- what is known when the disjunct at a place is taken
pub record TakenAt (us : List Use) (sizes : Sizes) (place : ℕ) (bytes bytes' : List ℕ) : Type 0 where
  pub answers : (t : Entry) (j : ℕ) → PlaceOf sizes t j place → Answers us (flags_in sizes bytes) t j (flags_in sizes bytes')

module _ {program witness : List ℤ} {sizes : Sizes} {table : List ℕ} (K : Known program witness sizes table) (place : ℕ) (bytes bytes' : List ℕ) where
  -- the place of a vertex's
  pub path_taken : place / most_disjuncts + 1 ≤ sizes.statements + sizes.procedures
      → ((case : ℕ) → CaseDone program witness sizes table bytes bytes' (place / most_disjuncts + 1) (place % most_disjuncts) case) → TakenAt (listed_uses program witness) sizes place bytes bytes'
  unfolding entry_number
  path_taken h d = record { answers = go }
    where
      go : (t : Entry) (j : ℕ) → PlaceOf sizes t j place → Answers (listed_uses program witness) (flags_in sizes bytes) t j (flags_in sizes bytes')
      go (of_vertex v) j x =
          let e : place / most_disjuncts + 1 ≡ v = (place_parts sizes x).0 in
          let f : place % most_disjuncts ≡ j = (place_parts sizes x).1 in
          path_answers K bytes bytes' v j (λ case. subst (λ (a : ℕ). CaseDone program witness sizes table bytes bytes' a j case) e (subst (λ (b : ℕ). CaseDone program witness sizes table bytes bytes' (place / most_disjuncts + 1) b case) f (d case)))
      go (of_summary q) j x = absurd (omega (arith, h, (place_parts sizes x).0, (summary_range sizes q x.has).0))

  -- the place of a summary's
  pub summary_taken : sizes.statements + sizes.procedures < place / most_disjuncts + 1
      → ((v i : ℕ) → ReturnDone program witness sizes table bytes bytes' (place / most_disjuncts + 1 - (sizes.statements + sizes.procedures)) v i (place % most_disjuncts + 1)) → TakenAt (listed_uses program witness) sizes place bytes bytes'
  unfolding entry_number
  summary_taken h d = record { answers = go }
    where
      go : (t : Entry) (j : ℕ) → PlaceOf sizes t j place → Answers (listed_uses program witness) (flags_in sizes bytes) t j (flags_in sizes bytes')
      go (of_vertex v) j x = absurd (omega (arith, h, (place_parts sizes x).0, (vertex_range sizes v x.has).1))
      go (of_summary q) j x =
          let e : place / most_disjuncts + 1 - (sizes.statements + sizes.procedures) ≡ q = omega (arith, (place_parts sizes x).0) in
          let f : place % most_disjuncts ≡ j = (place_parts sizes x).1 in
          summary_answers K bytes bytes' q j (λ v i. subst (λ (b : ℕ). ReturnDone program witness sizes table bytes bytes' q v i (b + 1)) f (subst (λ (r : ℕ). ReturnDone program witness sizes table bytes bytes' r v i (place % most_disjuncts + 1)) e (d v i)))
