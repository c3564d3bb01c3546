-- What an entailment comes from and leads to, by the way that leaves its vertex, and when its sources are kept.
use Rattle.std.specs.Prelude.{◌≡◌, refl, Bool, true, false, List, ℤ, length, get_or}
use Rattle.std.proofs.Common.{sym, ap, ◌∙◌, arith}
use Prim.Native.Nat.{ℕ, zero, suc, ◌+◌, ◌-◌, ◌≤◌, ◌<◌}
use borrow.Author.Tests.{le-leb, lt-ltb}
use Rattle.words.specs.Limits.{most_disjuncts}
use Rattle.programs.specs.ProgramForm.{ProgramForm}
use Rattle.programs.proofs.StatementRows.{called}
use Rattle.certificates.specs.Certificate.{Disjunct, Certificate}
use Rattle.certificates.specs.Sources.{Entry, of_vertex, of_summary, Source, from_path, Sourced}
use Rattle.trimming.specs.Kept.{keeps}
use Rattle.program_readers.specs.Rows.{vertex_by}
use Rattle.program_readers.specs.Sizes.{Header}
use Rattle.program_readers.specs.declared.places.Sizes.{Sizes}
use Rattle.entailments.specs.declared.Shape.{Shape}
use Rattle.vertex_entailments.specs.declared.leaving.Way.{Way}
use Rattle.vertex_entailments.specs.declared.leaving.Way.TheVariants.{Skip, Assign, Branch, Assert, Call, Exit}
use Rattle.vertex_entailments.specs.declared.leaving.Leaving.{Leaving}
use Rattle.vertex_entailments.specs.Sides.{side_at}
use Rattle.vertex_entailments.specs.Leaving.{Says, Leaves}
use Rattle.vertex_entailments.specs.LeavingLaws.{is_call}
use Rattle.entailment_sources.specs.KeptBytes.{entry_number, byte_is_one, has_entry, flags_in}
use Rattle.entailment_sources.specs.CaseLaws.{call_source, call_entry, cases_by, CaseIs, exit_case, skip_case, assign_case, branch_case, assert_case, call_case}

-- what entailment `case` of disjunct i comes from
unfoldable pub way_source : ℕ → Way → ℕ → ℕ → Source
way_source v (Skip r) case i = from_path v i
way_source v (Assign r) case i = from_path v i
way_source v (Branch r) case i = from_path v i
way_source v (Assert r) case i = from_path v i
way_source v (Call r) case i = call_source v r.callee.0 case i
way_source v (Exit q) case i = from_path v i

-- where it leads
unfoldable pub way_entry : List ℤ → Way → ℕ → Entry
way_entry program (Skip r) case = of_vertex r.next.0
way_entry program (Assign r) case = of_vertex r.next.0
way_entry program (Branch r) case = of_vertex (side_at r.yea r.nay r.op case).next.0
way_entry program (Assert r) case = of_vertex (side_at r.next (vertex_by 0) r.op case).next.0
way_entry program (Call r) case = of_vertex (call_entry program r.back.0 r.callee.0 case)
way_entry program (Exit q) case = of_summary q.0

-- r is the number of the entry that entailment `case` of each disjunct leads to
pub record LeadsTo (program : List ℤ) (sizes : Sizes) (v case r : ℕ) : Type 0 where
  pub leads : (c : Certificate) (i : ℕ) (d : Disjunct) (z : Sourced) → case < length (cases_by program v c i d) → r ≡ entry_number sizes (get_or (cases_by program v c i d) case z).leads_to

-- r is whether the sources of entailment `case` of disjunct i are kept
pub record SourcesKept (program : List ℤ) (sizes : Sizes) (v i case : ℕ) (kept : List ℕ) (r : Bool) : Type 0 where
  pub sources : (c : Certificate) (d : Disjunct) (z : Sourced) → case < length (cases_by program v c i d) → r ≡ keeps (flags_in sizes kept) (get_or (cases_by program v c i d) case z).source

module _ {program : List ℤ} (f : ProgramForm program) where
  way_case : (sizes : Sizes) (v : ℕ) (shape : Shape) → 1 ≤ v → (way : Way) → Says program sizes v shape way → (case : ℕ) → CaseIs program v case (way_source v way case) (way_entry program way case)
  unfolding Says way_source way_entry
  way_case sizes v shape low (Skip r) x case = skip_case program v low x.inside x.is case
  way_case sizes v shape low (Assign r) x case = assign_case program v low x.inside x.is case
  way_case sizes v shape low (Branch r) x case = branch_case program v low x.inside r.op x.is case
  way_case sizes v shape low (Assert r) x case = assert_case program v low x.inside f r.op x.is case
  way_case sizes v shape low (Call r) x case = call_case program v f (is_call low x) case
  way_case sizes v shape low (Exit q) x case = rw x.ends (exit_case program v x.past case)

  module _ {sizes : Sizes} {l : Leaving} (x : Leaves program sizes l) where
    pub leaving_case : (case : ℕ) → CaseIs program l.vertex.0 case (way_source l.vertex.0 l.way case) (way_entry program l.way case)
    leaving_case = way_case sizes l.vertex.0 l.shape x.low l.way x.says

    pub leads_by : {way : Way} {case r : ℕ} → l.way ≡ way → r ≡ entry_number sizes (way_entry program way case) → LeadsTo program sizes l.vertex.0 case r
    leads_by {way} {case} {r} e h =
        record { leads = λ c i d z b. h ∙ ap (λ (w : Way). entry_number sizes (way_entry program w case)) (sym e) ∙ ap (entry_number sizes) (sym ((leaving_case case).is c i d z b).1) }

-- ---- a flag is a byte

-- the summary disjunct that an entailment of a call comes back by, if it does, is kept
unfoldable pub return_kept : List ℕ → ℕ → ℕ → Bool
return_kept kept summary zero = true
return_kept kept summary (suc j) = byte_is_one kept summary j

pub return_later : (kept : List ℕ) (summary case : ℕ) → (case ≡ 0 → ⊥) → byte_is_one kept summary (case - 1) ≡ return_kept kept summary case
unfolding return_kept
return_later kept summary zero h = absurd (h refl)
return_later kept summary (suc j) h = let e : suc j - 1 ≡ j = omega arith in ap (byte_is_one kept summary) e

module _ (sizes : Sizes) (kept : List ℕ) where
  pub path_flag : (v j : ℕ) → 1 ≤ v → v ≤ sizes.statements + sizes.procedures → j < most_disjuncts → flags_in sizes kept (of_vertex v) j ≡ byte_is_one kept v j
  unfolding flags_in has_entry entry_number
  path_flag v j low high few = rw (le-leb 1 v low, le-leb v (sizes.statements + sizes.procedures) high, lt-ltb j most_disjuncts few)

  pub summary_flag : (q j : ℕ) → 1 ≤ q → q ≤ sizes.procedures → j < most_disjuncts → flags_in sizes kept (of_summary q) j ≡ byte_is_one kept (sizes.statements + sizes.procedures + q) j
  unfolding flags_in has_entry entry_number
  summary_flag q j low high few = rw (le-leb 1 q low, le-leb q sizes.procedures high, lt-ltb j most_disjuncts few)

-- it comes back by none, or by one that is kept
unfoldable pub return_by : Sizes → List ℕ → Way → ℕ → Bool
return_by sizes kept (Skip r) case = true
return_by sizes kept (Assign r) case = true
return_by sizes kept (Branch r) case = true
return_by sizes kept (Assert r) case = true
return_by sizes kept (Call r) case = return_kept kept (sizes.statements + sizes.procedures + r.callee.0) case
return_by sizes kept (Exit q) case = true

-- ---- the sources are kept

module _ {program : List ℤ} {sizes : Sizes} (header : Header program sizes) (f : ProgramForm program) (kept : List ℕ) (i case : ℕ) (few : i < most_disjuncts) (small : case ≤ most_disjuncts) where
  return_flags : (v q case : ℕ) → case ≤ most_disjuncts → 1 ≤ q → q ≤ sizes.procedures → flags_in sizes kept (of_vertex v) i ≡ true → keeps (flags_in sizes kept) (call_source v q case i) ≡ return_kept kept (sizes.statements + sizes.procedures + q) case
  unfolding keeps call_source return_kept
  return_flags v q zero b low high e = e
  return_flags v q (suc j) b low high e = rw e (summary_flag sizes kept q j low high (omega arith))

  no_flags_lem : (v q case : ℕ) → flags_in sizes kept (of_vertex v) i ≡ false → keeps (flags_in sizes kept) (call_source v q case i) ≡ false
  unfolding keeps call_source
  no_flags_lem v q zero e = e
  no_flags_lem v q (suc j) e = rw e

  way_kept : (v : ℕ) (shape : Shape) → 1 ≤ v → (way : Way) → Says program sizes v shape way → flags_in sizes kept (of_vertex v) i ≡ true → keeps (flags_in sizes kept) (way_source v way case i) ≡ return_by sizes kept way case
  unfolding Says way_source return_by keeps
  way_kept v shape low (Skip r) x e = e
  way_kept v shape low (Assign r) x e = e
  way_kept v shape low (Branch r) x e = e
  way_kept v shape low (Assert r) x e = e
  way_kept v shape low (Call r) x e = let h = called program v f (is_call low x) in return_flags v r.callee.0 case small h.callee_low (omega (arith, h.callee_high, header.procedures)) e
  way_kept v shape low (Exit q) x e = e

  way_none : (v : ℕ) (way : Way) → flags_in sizes kept (of_vertex v) i ≡ false → keeps (flags_in sizes kept) (way_source v way case i) ≡ false
  unfolding way_source keeps
  way_none v (Skip r) e = e
  way_none v (Assign r) e = e
  way_none v (Branch r) e = e
  way_none v (Assert r) e = e
  way_none v (Call r) e = no_flags_lem v r.callee.0 case e
  way_none v (Exit q) e = e

  module _ {l : Leaving} (x : Leaves program sizes l) where
    flag : flags_in sizes kept (of_vertex l.vertex.0) i ≡ byte_is_one kept l.vertex.0 i
    flag = path_flag sizes kept l.vertex.0 i x.low x.high few

    sources_are : {r : Bool} → r ≡ keeps (flags_in sizes kept) (way_source l.vertex.0 l.way case i) → SourcesKept program sizes l.vertex.0 i case kept r
    sources_are h = record { sources = λ c d z b. h ∙ ap (keeps (flags_in sizes kept)) (sym ((leaving_case f x case).is c i d z b).0) }

    pub sources_by : {way : Way} {r : Bool} → l.way ≡ way → byte_is_one kept l.vertex.0 i ≡ true → r ≡ return_by sizes kept way case → SourcesKept program sizes l.vertex.0 i case kept r
    sources_by {way} e own h =
        sources_are (h ∙ ap (λ (w : Way). return_by sizes kept w case) (sym e) ∙ sym (way_kept l.vertex.0 l.shape x.low l.way x.says (flag ∙ own)))

    pub sources_none : byte_is_one kept l.vertex.0 i ≡ false → SourcesKept program sizes l.vertex.0 i case kept false
    sources_none own = sources_are (sym (way_none l.vertex.0 l.way (flag ∙ own)))
