-- The constant, a coefficient of one of the columns that are moved, or 0.
use Rattle.std.proofs.Common.{◌≡◌, ap, ◌∙◌, ◌≤◌, ℤ, pos, nat_abs, ◌+ℤ◌, arith, SFits, w64, to_z-of_z}
use Rattle.numbers.specs.Magnitudes.{sfits_size, size_sum, back64}
use Rattle.words.specs.RowWords.{constant_at}
use Rattle.row_buffers.specs.EntryLimits.{entry_limit}
use Rattle.entailments.specs.GuardRows.{signed}
use Rattle.premises.proofs.MovedEntries.{constant_is, constant_more_is, nothing_is, coefficient_is}
use Rattle.premises.proofs.moved_entry.Goals as goal
use Rattle.premises.proofs.moved_entry.Goals.{After-signed_number-constant}

more_fits : (x : ℤ) → nat_abs x ≤ entry_limit → SFits w64 (x +ℤ pos 1)
more_fits x h = sfits_size (x +ℤ pos 1) (omega (arith, size_sum x (pos 1)))

-- the constant, signed
constant : (c : After-signed_number-constant) → let a = c.args in c.signed_number-constant.result ≡ signed a.variant.negative (constant_at a.words.now a.place)
constant c = c.signed_number-constant.ensures.is ∙ ap (signed c.args.variant.negative) (back64 c.constant_at.type_inv ∙ c.constant_at.ensures)

pub returns-then-variant : goal.returns-then-variant
returns-then-variant c =
    let w = c.signed_number-constant in
    let a = c.args in
    rw (back64 {z = w.result} w.type_inv, to_z-of_z (more_fits w.result w.ensures.small), c.if-variant.true)
    (constant_more_is a.words.now a.place a.k a.variant.negative a.shift w.result a.i (omega arith) (constant (goal.at.returns-then-variant c).After-signed_number-constant))

pub returns-then-i-eq0 : goal.returns-then-i-eq0
returns-then-i-eq0 c =
    let w = c.signed_number-constant in
    let a = c.args in
    rw (back64 w.type_inv, c.if-variant.false)
    (constant_is a.words.now a.place a.k a.variant.negative a.shift w.result a.i (omega arith) (constant (goal.at.returns-then-i-eq0 c).After-signed_number-constant))

pub returns-then-i-shift : goal.returns-then-i-shift
returns-then-i-shift c =
    let a = c.args in
    nothing_is a.words.now a.place a.k a.variant.negative a.shift a.variant.plus a.i (omega arith) (λ h l. omega arith)

pub returns-then-shift-k : goal.returns-then-shift-k
returns-then-shift-k c =
    let a = c.args in
    nothing_is a.words.now a.place a.k a.variant.negative a.shift a.variant.plus a.i (omega arith) (λ h l. omega arith)

pub returns : goal.returns
returns c =
    let w = c.signed_number in
    let a = c.args in
    let f = c.coefficients_from.ensures in
    back64 w.type_inv
    ∙ coefficient_is a.words.now a.place a.k a.variant.negative a.shift a.variant.plus a.i w.result (omega arith) (omega arith)
    (w.ensures.is ∙ ap (signed a.variant.negative) (back64 c.wide.type_inv ∙ (rw f at c.wide.ensures.is)))
