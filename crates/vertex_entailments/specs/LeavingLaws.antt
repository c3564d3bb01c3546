-- What follows for a value that says what its vertex does: its shape is a good one with the vertex's columns, and its numbers are within their
-- limits, because the program has its form; and the summary of a call's callee has its form, because the certificate has.
use Rattle.std.specs.Prelude.{◌≡◌, refl, List, ℕ, ◌+◌, ◌≤◌, ℤ}
use Rattle.std.proofs.Common.{subst, arith}
use Rattle.programs.specs.ProgramWords.{p, procedure_of, k}
use Rattle.programs.specs.Decode.{call_row}
use Rattle.programs.proofs.DecodedNumbers.{procedure_range, k_most}
use Rattle.programs.specs.StatementRows.{IsCall}
use Rattle.program_readers.specs.declared.places.Sizes.{Sizes}
use Rattle.entailments.specs.declared.Shape.{Shape}
use Rattle.entailments.specs.Forms.{ShapeForm}
use Rattle.vertex_entailments.specs.declared.leaving.Way.{Way}
use Rattle.vertex_entailments.specs.declared.leaving.Way.TheVariants.{Skip, Assign, Branch, Assert, Call, Exit}
use Rattle.vertex_entailments.specs.declared.leaving.Leaving.{Leaving}
use Rattle.vertex_entailments.specs.Given.{Given}
use Rattle.vertex_entailments.specs.Conditions.{is_branch, is_assert}
use Rattle.vertex_entailments.specs.Values.{shape_form_lem, path_shape_lem}
use Rattle.vertex_entailments.specs.Leaving.{HasRow, Says, Leaves, WayForm}
use Rattle.vertex_entailments.specs.Summaries.{FormedBy}
use Rattle.vertex_entailments.specs.KindLaws.{successor_few, skip_next, assign_next}
use Rattle.vertex_entailments.specs.CallLaws.{callee_few, back_few, callee_shape, summaries_at}

-- what is said, where the way is known
pub told : {program : List ℤ} {sizes : Sizes} {l : Leaving} {way : Way} → Leaves program sizes l → l.way ≡ way → Says program sizes l.vertex.0 l.shape way
told {program} {sizes} {l} x e = subst (Says program sizes l.vertex.0 l.shape) e x.says

pub is_call : {program : List ℤ} {sizes : Sizes} {v : ℕ} {shape wanted : Shape} {back callee actuals : ℕ} → 1 ≤ v → HasRow program sizes v shape (call_row back callee actuals) wanted → IsCall program v back callee actuals
is_call low x = record { low = low; high = x.inside; row = x.is }

module _ {program witness : List ℤ} {sizes : Sizes} {rows : List ℤ} (g : Given program witness sizes rows) where
  -- ---- by the way

  module _ (v : ℕ) (low : 1 ≤ v) (high : v ≤ sizes.statements + sizes.procedures) (shape : Shape) where
    range : (1 ≤ procedure_of program v) × (procedure_of program v ≤ p program)
    range = procedure_range program g.program_form v low (omega (arith, g.header.statements, g.header.procedures))

    way_shape : (way : Way) → Says program sizes v shape way → (shape.k ≡ k program v) × ShapeForm shape
    unfolding Says
    way_shape (Skip r) x = rw x.shaped (refl, path_shape_lem g.header v)
    way_shape (Assign r) x = rw x.shaped (refl, path_shape_lem g.header v)
    way_shape (Branch r) x = rw x.shaped (refl, path_shape_lem g.header v)
    way_shape (Assert r) x = rw x.shaped (refl, path_shape_lem g.header v)
    way_shape (Call r) x = rw x.shaped (refl, callee_shape g (is_call low x))
    way_shape (Exit q) x =
        rw x.shaped (refl, shape_form_lem g.header g.program_form (k program v) q.0 (k_most program v) (omega (arith, x.ends, range.0)) (omega (arith, x.ends, range.1)))

    way_form : (way : Way) → Says program sizes v shape way → WayForm way
    unfolding Says WayForm
    way_form (Skip r) x = successor_few g v low r.next.0 (skip_next g v low x.inside x.is)
    way_form (Assign r) x = successor_few g v low r.next.0 (assign_next g v low x.inside x.is).0
    way_form (Branch r) x =
        let c = (is_branch program witness v g.program_form low x.inside x.is).here in
        (successor_few g v low r.yea.0 c.when_true, successor_few g v low r.nay.0 c.when_false)
    way_form (Assert r) x = let c = (is_assert program witness v g.program_form low x.inside x.is).here in successor_few g v low r.next.0 c.when_true
    way_form (Call r) x = (back_few g (is_call low x), callee_few g (is_call low x))
    way_form (Exit q) x = omega (arith, x.ends, range.1, g.header.procedures, g.header.few_procedures)

    -- the summary of a call's callee has its form
    way_formed : (way : Way) → Says program sizes v shape way → FormedBy witness sizes rows shape way
    unfolding Says FormedBy
    way_formed (Skip r) x = tt
    way_formed (Assign r) x = tt
    way_formed (Branch r) x = tt
    way_formed (Assert r) x = tt
    way_formed (Call r) x = rw x.shaped (summaries_at g (is_call low x)).form
    way_formed (Exit q) x = tt

  -- ---- of the value

  module _ {l : Leaving} (x : Leaves program sizes l) where
    pub leaving_columns : l.shape.k ≡ k program l.vertex.0
    leaving_columns = (way_shape l.vertex.0 x.low x.high l.shape l.way x.says).0

    pub leaving_shape : ShapeForm l.shape
    leaving_shape = (way_shape l.vertex.0 x.low x.high l.shape l.way x.says).1

    pub leaving_form : WayForm l.way
    leaving_form = way_form l.vertex.0 x.low x.high l.shape l.way x.says

    pub leaving_formed : FormedBy witness sizes rows l.shape l.way
    leaving_formed = way_formed l.vertex.0 x.low x.high l.shape l.way x.says
