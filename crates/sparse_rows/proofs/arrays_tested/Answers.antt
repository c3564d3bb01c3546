-- One column and one coefficient more, tested by what `passes_to` and `strict_to` say of them.
use Rattle.std.proofs.Common.{◌≡◌, Bool, ◌+◌, ℤ, pos, ◌+ℤ◌, sym, ap, ap₂, ◌∙◌, arith, w32, to_z, of_z, rules}
use mathlib.Core.Bool.{not, ◌&&◌}
use Rattle.std.proofs.Math.Dec.{T, leb}
use Rattle.std.specs.Int.Signed.{lt_z}
use Rattle.basics.proofs.Booleans.{holds, and_l, and_r, is_true}
use Rattle.basics.specs.Integers.{sum, eq_z}
use Rattle.basics.proofs.Integers.{ints}
use Rattle.words.specs.Limits.{coefficient_limit}
use Rattle.words.specs.Words.{word, number, below, small}
use Rattle.sparse_rows.specs.SparseLoops.{strict_to, least_to, arrays_none, passes_next, strict_next, least_next, below_is, rises_is, zero_is}
use Rattle.sparse_rows.proofs.arrays_tested.Goals as goal
use Rattle.sparse_rows.proofs.arrays_tested.Goals.{After-rises-later}

pub loop-j-init : goal.loop-j-init
loop-j-init c =
    let a = c.args in
    let (p, s, l) = arrays_none a.columns a.first a.used a.words.now in
    (sym p, λ t. (sym s, ap pos (sym l)))

-- the words of this turn, and what was tested of them
module _ (c : After-rises-later) where
  abbrev x : ℤ
  x = word c.args.words.now (c.args.first + c.loop-j.j)

  abbrev y : ℤ
  y = word c.args.words.now (c.args.first + c.args.used + c.loop-j.j)

  x_read : to_z w32 (of_z w32 x) ≡ x
  x_read = search rules

  y_read : to_z w32 (of_z w32 y) ≡ y
  y_read = search rules

  column_told : c.is_column-column.result ≡ below c.args.columns x
  column_told = c.is_column-column.ensures ∙ ap (below c.args.columns) x_read

  small_told : c.is_small-small.result ≡ small coefficient_limit y
  small_told = c.is_small-small.ensures ∙ ap (small coefficient_limit) y_read

  zero_told : c.is_small-zero.result ≡ eq_z y (pos 0)
  zero_told = c.is_small-zero.ensures ∙ (ap (small 0) y_read ∙ zero_is y)

  rises_told : c.rises-later.result ≡ lt_z (to_z w32 c.loop-j.last-bits) x
  rises_told = c.rises-later.ensures ∙ ap (lt_z (to_z w32 c.loop-j.last-bits)) x_read

-- where all so far are in range, the columns rise or not as the last one says
still : (c : After-rises-later) → let l = c.loop-j in let a = c.args in
    T (l.passes && (c.is_column-column.result && c.is_small-small.result))
    → (l.strict && (c.rises-later.result && not c.is_small-zero.result) ≡ strict_to a.columns a.first a.used a.words.now (l.j + 1))
    × (to_z w32 (of_z w32 (x c)) +ℤ pos 1 ≡ pos (least_to a.columns a.first a.used a.words.now (l.j + 1)))
still c t =
    let l = c.loop-j in
    let a = c.args in
    let more = and_r l.passes _ t in
    let in_range : T (below a.columns (x c)) = rw (column_told c) at (and_l c.is_column-column.result _ more) in
    let (e, f) = l.invariant.1 (is_true l.passes (and_l l.passes _ t)) in
    let next = strict_next a.columns a.first a.used a.words.now l.j c.loop-j-test.true c.requires in
    let least = least_next a.columns a.first a.used a.words.now l.j c.loop-j-test.true c.requires in
    let later : c.rises-later.result ≡ leb (least_to a.columns a.first a.used a.words.now l.j) (number a.columns (x c)) = rises_told c ∙ rises_is a.columns (least_to a.columns a.first a.used a.words.now l.j) (to_z w32 l.last-bits) (x c) in_range f in
    (ap₂ (λ (p q : Bool). p && q) e (ap₂ (λ (p q : Bool). p && q) later (ap not (zero_told c))) ∙ sym next, rw (x_read c) (omega (arith, ints, sum (x c) (pos 1), least, below_is a.columns (x c) in_range)))

pub loop-j-preserved : goal.loop-j-preserved
loop-j-preserved c =
    let l = c.loop-j in
    let a = c.args in (
      ap₂ (λ (p q : Bool). p && q) l.invariant.0 (ap₂ (λ (p q : Bool). p && q) (column_told c) (small_told c)) ∙ sym (passes_next a.columns a.first a.used a.words.now l.j c.loop-j-test.true c.requires),
      λ t. still c (holds t),
    )
