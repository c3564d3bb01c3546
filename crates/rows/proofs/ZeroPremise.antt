-- A premise that is put in with multiplier 0 changes no weighted sum, wherever it is put in among the others: what was refuted is refuted, and
-- what was yielded is yielded, by whatever rule for the constant.
use Rattle.std.specs.Prelude.{◌≡◌, Bool, T, ℤ, ◌+ℤ◌, ◌*ℤ◌, length}
use Rattle.std.proofs.Math.Path.{sym, ap}
use Rattle.std.proofs.Common.{◌∙◌, arith}
use mathlib.Core.List.{List, [], ◌∷◌}
use Prim.Native.Nat.{ℕ, zero, suc}
use Rattle.std.proofs.Math.IntN.{pos, +ℤ_idl, zero-*ℤ}
use Rattle.std.specs.Int.Signed.{le_z}
use Rattle.std.proofs.Math.ListN.{get_or}
use Rattle.basics.proofs.Booleans.{and, and_r, parts}
use Rattle.basics.specs.Lists.{put_in}
use Rattle.rows.specs.Rows.{Row, scaled, add, scale, combine, all_zero, agree, refutes, yields_by}
use Rattle.rows.proofs.Agreement.{zero_in, zero_each, agree_in, agree_each, get_or_plus, get_or_scaled}
use Rattle.rows.specs.ZeroPremise.{sum}

-- the premise g, put in at i
module _ (g : Row) where
  same_constant : (i : ℕ) (ms : List ℕ) (rows : List Row) → length ms ≡ length rows → ((sum g) (put_in i 0 ms) (put_in i g rows)).constant ≡ ((sum g) ms rows).constant
  unfolding put_in combine add scale
  same_constant zero ms rows e = rw (zero-*ℤ, +ℤ_idl)
  same_constant (suc i) [] [] e = rw (zero-*ℤ, +ℤ_idl)
  same_constant (suc i) [] (r ∷ rows) e = absurd (omega arith)
  same_constant (suc i) (m ∷ ms) [] e = absurd (omega arith)
  same_constant (suc i) (m ∷ ms) (r ∷ rows) e = ap (λ (z : ℤ). pos m *ℤ r.constant +ℤ z) (same_constant i ms rows (omega arith))

  -- column by column
  one_more : (m : ℕ) (r : Row) (ms : List ℕ) (rows : List Row) (j : ℕ)
      → get_or ((sum g) (m ∷ ms) (r ∷ rows)).coefficients j (pos 0) ≡ pos m *ℤ get_or r.coefficients j (pos 0) +ℤ get_or ((sum g) ms rows).coefficients j (pos 0)
  unfolding combine add scale
  one_more m r ms rows j =
      get_or_plus (scaled (pos m) r.coefficients) ((sum g) ms rows).coefficients j ∙ ap (λ (z : ℤ). z +ℤ get_or ((sum g) ms rows).coefficients j (pos 0)) (get_or_scaled (pos m) r.coefficients j)

  nothing_more : (ms : List ℕ) (rows : List Row) (j : ℕ) → get_or ((sum g) (0 ∷ ms) (g ∷ rows)).coefficients j (pos 0) ≡ get_or ((sum g) ms rows).coefficients j (pos 0)
  nothing_more ms rows j = one_more 0 g ms rows j ∙ rw (zero-*ℤ, +ℤ_idl)

  same_coefficients : (i : ℕ) (ms : List ℕ) (rows : List Row) → length ms ≡ length rows → (j : ℕ)
      → get_or ((sum g) (put_in i 0 ms) (put_in i g rows)).coefficients j (pos 0) ≡ get_or ((sum g) ms rows).coefficients j (pos 0)
  unfolding put_in
  same_coefficients zero ms rows e j = nothing_more ms rows j
  same_coefficients (suc i) [] [] e j = nothing_more [] [] j
  same_coefficients (suc i) [] (r ∷ rows) e j = absurd (omega arith)
  same_coefficients (suc i) (m ∷ ms) [] e j = absurd (omega arith)
  same_coefficients (suc i) (m ∷ ms) (r ∷ rows) e j =
      one_more m r (put_in i 0 ms) (put_in i g rows) j
      ∙ (ap (λ (z : ℤ). pos m *ℤ get_or r.coefficients j (pos 0) +ℤ z) (same_coefficients i ms rows (omega arith) j) ∙ sym (one_more m r ms rows j))

  module _ (i : ℕ) (ms : List ℕ) (rows : List Row) (e : length ms ≡ length rows) where
    pub still_refutes : T (refutes ms rows) → T (refutes (put_in i 0 ms) (put_in i g rows))
    unfolding refutes
    still_refutes t =
        let z = zero_in ((sum g) ms rows).coefficients (search parts) in
        and (all_zero ((sum g) (put_in i 0 ms) (put_in i g rows)).coefficients) (le_z (pos 1) ((sum g) (put_in i 0 ms) (put_in i g rows)).constant)
        (zero_each ((sum g) (put_in i 0 ms) (put_in i g rows)).coefficients (λ j. same_coefficients i ms rows e j ∙ z j))
        (rw (same_constant i ms rows e) (and_r (all_zero ((sum g) ms rows).coefficients) (le_z (pos 1) ((sum g) ms rows).constant) t))

    pub still_yields : (rule : ℕ → ℤ → ℤ → Bool) (divisor : ℕ) (r : Row) → T (yields_by rule divisor ms rows r) → T (yields_by rule divisor (put_in i 0 ms) (put_in i g rows) r)
    unfolding yields_by
    still_yields rule divisor r t =
        let a = agree_in ((sum g) ms rows).coefficients (scaled (pos divisor) r.coefficients) (search parts) in
        and (agree ((sum g) (put_in i 0 ms) (put_in i g rows)).coefficients (scaled (pos divisor) r.coefficients)) (rule divisor r.constant ((sum g) (put_in i 0 ms) (put_in i g rows)).constant)
        (agree_each ((sum g) (put_in i 0 ms) (put_in i g rows)).coefficients (scaled (pos divisor) r.coefficients) (λ j. same_coefficients i ms rows e j ∙ a j))
        (rw (same_constant i ms rows e) (and_r (agree ((sum g) ms rows).coefficients (scaled (pos divisor) r.coefficients)) (rule divisor r.constant ((sum g) ms rows).constant) t))
