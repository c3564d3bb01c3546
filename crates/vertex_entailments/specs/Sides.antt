-- The cases of both sides of a condition, one after the other: those of the op, and then those of its opposite.
use Rattle.std.specs.Prelude.{◌≡◌, Bool, cond, ℕ, suc, ◌+◌, ◌-◌, ◌≤◌, ◌<◌, pos, length}
use Rattle.std.proofs.Math.Path.{refl}
use Rattle.std.proofs.Common.{◌∙◌, arith}
use Rattle.std.proofs.Math.Bool.{true, false}
use borrow.Author.Tests.{le-leb, lt-leb, leb-true, leb-false}
use Rattle.std.proofs.Math.Dec.{leb}
use Rattle.rows.specs.Rows.{Row, constant_row}
use Rattle.program_readers.specs.declared.places.Vertex.{Vertex}
use Rattle.program_readers.specs.declared.kinds.Op.{Op}
use Rattle.entailments.specs.OpCases.{opposite_op, op_cases, case_count}
use Rattle.entailments.proofs.OpCases.{count_cases}
use Rattle.vertex_entailments.specs.declared.sides.Side.{Side}

abbrev pub sides_count : Op → ℕ
sides_count op = case_count op + case_count (opposite_op op)

module _ (yea nay : Vertex) (op : Op) (case : ℕ) where
  abbrev pub true_side : Side
  true_side = record { op = op; case = case; next = yea }

  abbrev pub false_side : Side
  false_side = record { op = opposite_op op; case = case - case_count op; next = nay }

  unfoldable pub side_at : Side
  side_at = cond (leb (suc case) (case_count op)) true_side false_side

  pub true_side_lem : case < case_count op → side_at ≡ true_side
  unfolding side_at
  true_side_lem h = rw (le-leb (suc case) (case_count op) (omega arith))

  pub false_side_lem : case_count op ≤ case → side_at ≡ false_side
  unfolding side_at
  false_side_lem h = rw (lt-leb (suc case) (case_count op) (omega arith))

  -- what holds of the side of either kind
  pub by_side : (S : Side → Type 0) → (case < case_count op → S true_side) → (case_count op ≤ case → S false_side) → S side_at
  unfolding side_at
  by_side S t f = go (leb (suc case) (case_count op)) refl
    where
      go : (b : Bool) → leb (suc case) (case_count op) ≡ b → S (cond b true_side false_side)
      go true e = t (let h = leb-true (suc case) (case_count op) e in omega arith)
      go false e = f (let h = leb-false (suc case) (case_count op) e in omega arith)

  pub side_most : {most : ℕ} → yea.0 ≤ most → nay.0 ≤ most → side_at.next.0 ≤ most
  side_most {most} y z = by_side (λ x. x.next.0 ≤ most) (λ b. y) (λ b. z)

-- the number of an op's cases, where it is that of each expression's
pub counted : (op : Op) {count : ℕ} → ((e : Row) → count ≡ length (op_cases op e)) → count ≡ case_count op
counted op f = f (constant_row (pos 0)) ∙ count_cases (constant_row (pos 0)) op
