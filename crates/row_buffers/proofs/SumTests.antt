-- The tests of a weighted sum, as the code makes them of two rows, entry by entry. Rows that are alike pass the same tests.
use Rattle.std.specs.Prelude.{◌≡◌, refl, ◌↔◌, Bool, ◌&&◌, List, map, ℕ, suc, T, ℤ, pos, ◌*ℤ◌, get_or}
use Rattle.std.proofs.Common.{sym, ap, ap₂, ◌∙◌}
use Rattle.std.specs.Int.Signed.{le_z}
use Rattle.basics.proofs.Booleans.{same_truth}
use Rattle.rows.proofs.Agreement.{zero_in, zero_each, agree_in, agree_each, get_or_scaled}
use Rattle.rows.specs.Rows.{Row, scaled, combine, all_zero, agree, fits_constant, refutes, yields_by, yields}
use Rattle.row_buffers.specs.Entries.{entry, Alike, AllAlike}
use Rattle.row_buffers.proofs.Entries.{combine_alike}
use Rattle.row_buffers.specs.SumTests.{is_refuted, is_yielded}

pub yields_sum : (divisor : ℕ) (ms : List ℕ) (premises : List Row) (r : Row) → yields divisor ms premises r ≡ is_yielded divisor (combine (map pos ms) premises) r
unfolding yields_by is_yielded
yields_sum divisor ms premises r = refl

pub refutes_sum : (ms : List ℕ) (premises : List Row) → refutes ms premises ≡ is_refuted (combine (map pos ms) premises)
unfolding refutes is_refuted
refutes_sum ms premises = refl

-- ---- coefficients agree if and only if they are the same in each column: in the rows' entries

pub agree_entries : (divisor : ℕ) (sum r : Row) → T (agree sum.coefficients (scaled (pos divisor) r.coefficients)) ↔ ((i : ℕ) → entry (suc i) sum ≡ pos divisor *ℤ entry (suc i) r)
unfolding entry
agree_entries divisor sum r = (there, back)
  where
    there : T (agree sum.coefficients (scaled (pos divisor) r.coefficients)) → (i : ℕ) → get_or sum.coefficients i (pos 0) ≡ pos divisor *ℤ get_or r.coefficients i (pos 0)
    there t i = agree_in sum.coefficients (scaled (pos divisor) r.coefficients) t i ∙ get_or_scaled (pos divisor) r.coefficients i

    back : ((i : ℕ) → get_or sum.coefficients i (pos 0) ≡ pos divisor *ℤ get_or r.coefficients i (pos 0)) → T (agree sum.coefficients (scaled (pos divisor) r.coefficients))
    back h = agree_each sum.coefficients (scaled (pos divisor) r.coefficients) (λ i. h i ∙ sym (get_or_scaled (pos divisor) r.coefficients i))

pub zero_entries : (sum : Row) → T (all_zero sum.coefficients) ↔ ((i : ℕ) → entry (suc i) sum ≡ pos 0)
unfolding entry
zero_entries sum = (zero_in sum.coefficients, zero_each sum.coefficients)

-- ---- rows that are alike

agree_alike : (divisor : ℕ) {a b r s : Row} → Alike a b → Alike r s
    → T (agree a.coefficients (scaled (pos divisor) r.coefficients)) → T (agree b.coefficients (scaled (pos divisor) s.coefficients))
agree_alike divisor {a} {b} {r} {s} h k t =
    (agree_entries divisor b s).1 (λ i. sym (h.same (suc i)) ∙ (agree_entries divisor a r).0 t i ∙ ap (λ (z : ℤ). pos divisor *ℤ z) (k.same (suc i)))

zero_alike : {a b : Row} → Alike a b → T (all_zero a.coefficients) → T (all_zero b.coefficients)
zero_alike {a} {b} h t = (zero_entries b).1 (λ i. sym (h.same (suc i)) ∙ (zero_entries a).0 t i)

constant_alike : {a b : Row} → Alike a b → a.constant ≡ b.constant
unfolding entry
constant_alike h = h.same 0

other_way : {a b : Row} → Alike a b → Alike b a
other_way h = record { same = λ i. sym (h.same i) }

pub yielded_alike : (divisor : ℕ) {a b r s : Row} → Alike a b → Alike r s → is_yielded divisor a r ≡ is_yielded divisor b s
unfolding is_yielded
yielded_alike divisor {a} {b} {r} {s} h k =
    ap₂ (λ (x y : Bool). x && y)
    (same_truth (agree a.coefficients (scaled (pos divisor) r.coefficients)) (agree b.coefficients (scaled (pos divisor) s.coefficients))
    (agree_alike divisor h k) (agree_alike divisor (other_way h) (other_way k)))
    (ap₂ (λ (x y : ℤ). fits_constant divisor x y) (constant_alike k) (constant_alike h))

pub refuted_alike : {a b : Row} → Alike a b → is_refuted a ≡ is_refuted b
unfolding is_refuted
refuted_alike {a} {b} h =
    ap₂ (λ (x y : Bool). x && y) (same_truth (all_zero a.coefficients) (all_zero b.coefficients) (zero_alike h) (zero_alike (other_way h))) (ap (le_z (pos 1)) (constant_alike h))

-- premises and a target row that are alike
pub yields_alike : (divisor : ℕ) (ms : List ℕ) {ps qs : List Row} {r s : Row} → AllAlike ps qs → Alike r s → yields divisor ms ps r ≡ yields divisor ms qs s
yields_alike divisor ms {ps} {qs} {r} {s} h k =
    yields_sum divisor ms ps r ∙ yielded_alike divisor (combine_alike (map pos ms) h) k ∙ sym (yields_sum divisor ms qs s)

pub refutes_alike : (ms : List ℕ) {ps qs : List Row} → AllAlike ps qs → refutes ms ps ≡ refutes ms qs
refutes_alike ms {ps} {qs} h = refutes_sum ms ps ∙ refuted_alike (combine_alike (map pos ms) h) ∙ sym (refutes_sum ms qs)
