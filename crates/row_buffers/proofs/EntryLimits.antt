-- Sizes of the entries of rows, and how many rows and columns a buffer holds. Within these limits no sum leaves 64 bits: a weighted row adds at
-- most its weight times its largest entry, and all rows of a buffer together stay below 2^63.
use Rattle.std.specs.Prelude.{List, [], ◌∷◌, ◌++◌, ℤ, pos, negsuc, nat_abs, ◌-ℤ◌, length, get_or, take, drop}
use Prim.Native.Nat.{ℕ, zero, suc, ◌+◌, ◌*◌, ◌-◌, ◌^◌, ◌≤◌, ◌<◌, min, zero-le}
use Rattle.std.proofs.Common.{mul-le-mul, suc-mul, arith, length-take}
use Rattle.std.proofs.Math.Nat.{le_trans}
use Rattle.std.proofs.Math.Seq.{take-length}
use Rattle.rows.specs.Rows.{Row, constant_row, add, scale, combine, substitute}
use Rattle.words.specs.Limits.{constant_limit, most_divisor}
use Rattle.numbers.specs.Small.{Small}
use Rattle.numbers.specs.SmallLaws.{small_at, small_take}
use Rattle.numbers.specs.Magnitudes.{size_sum, size_product}
use Rattle.row_buffers.specs.AllRows.{none, one}
use Rattle.row_buffers.proofs.AllRows.{all_at, all_weaken}
use Rattle.row_buffers.specs.Entries.{entry, Alike, AllAlike, nil, cons}
use Rattle.row_buffers.proofs.Entries.{entry_add, entry_scale, entry_zero, entry_combine_append}
use Rattle.row_buffers.specs.EntryLimits.{LimitedRow, SmallRow, SmallRows, SmallSums, entry_limit, most_buffer_rows, sum_limit, target_limit, weight_limit}

pub small_zero : {b : ℕ} → SmallRow b (constant_row (pos 0))
small_zero {b} = record { bound = λ i. rw entry_zero zero-le }

pub small_constant : {b : ℕ} (c : ℤ) → nat_abs c ≤ b → SmallRow b (constant_row c)
small_constant {b} c h = record { bound = go }
  where
    go : (i : ℕ) → nat_abs (entry i (constant_row c)) ≤ b
    go zero = unfold entry constant_row in h
    go (suc i) = unfold entry constant_row in zero-le

pub small_weaken : {a b : ℕ} {r : Row} → a ≤ b → SmallRow a r → SmallRow b r
small_weaken h s = record { bound = λ i. le_trans (s.bound i) h }

pub small_alike : {b : ℕ} {r s : Row} → Alike r s → SmallRow b s → SmallRow b r
small_alike h s = record { bound = λ i. rw (h.same i) (s.bound i) }

pub small_row_at : {b : ℕ} {rs : List Row} → SmallRows b rs → (j : ℕ) → SmallRow b (get_or rs j (constant_row (pos 0)))
small_row_at = all_at (constant_row (pos 0)) small_zero

pub rows_weaken : {a b : ℕ} {rs : List Row} → a ≤ b → SmallRows a rs → SmallRows b rs
rows_weaken h = all_weaken (λ r. small_weaken h)

pub rows_alike : {b : ℕ} {rs ss : List Row} → AllAlike rs ss → SmallRows b ss → SmallRows b rs
rows_alike nil none = none
rows_alike (cons h hs) (one k ks) = one (small_alike h k) (rows_alike hs ks)

-- ---- sums

small_drop : (b n : ℕ) (l : List ℤ) → Small b l → Small b (drop n l)
unfolding Small
small_drop b zero l h = h
small_drop b (suc n) [] h = tt
small_drop b (suc n) (x ∷ l) h = small_drop b n l h.1

pub small_add : {a b : ℕ} {r s : Row} → SmallRow a r → SmallRow b s → SmallRow (a + b) (add r s)
small_add {r = r} {s} h k = record { bound = λ i. rw entry_add (omega (arith, size_sum (entry i r) (entry i s), h.bound i, k.bound i)) }

pub small_scale : {a b : ℕ} (m : ℤ) {r : Row} → nat_abs m ≤ a → SmallRow b r → SmallRow (a * b) (scale m r)
small_scale m h k = record { bound = λ i. rw (entry_scale, size_product) (mul-le-mul h (k.bound i)) }

-- as many rows as there are weights for
pub small_combine : {b : ℕ} (a n : ℕ) (ws : List ℤ) {rs : List Row} → min (length ws) (length rs) ≤ n → Small a ws → SmallRows b rs → SmallRow (n * (a * b)) (combine ws rs)
unfolding combine Small
small_combine a n [] h s k = small_zero
small_combine a n (w ∷ ws) h s none = small_zero
small_combine a zero (w ∷ ws) h s (one k ks) = absurd (omega arith)
small_combine {b} a (suc n) (w ∷ ws) h s (one k ks) =
    small_weaken (omega (arith, suc-mul n (a * b))) (small_add (small_scale w s.0 k) (small_combine a n ws (omega arith) s.1 ks))

pub few_sums : {b : ℕ} (n : ℕ) {rs : List Row} → length rs ≤ n → SmallRows b rs → SmallSums (n * (weight_limit * b)) rs
few_sums n h k = record { sums = λ ws s. small_combine weight_limit n ws (omega arith) s k }

pub sums_weaken : {a b : ℕ} {rs : List Row} → a ≤ b → SmallSums a rs → SmallSums b rs
sums_weaken h k = record { sums = λ ws s. small_weaken h (k.sums ws s) }

pub sums_append : {a b : ℕ} (rs ss : List Row) → SmallSums a rs → SmallSums b ss → SmallSums (a + b) (rs ++ ss)
sums_append {a} {b} rs ss h k = record { sums = λ ws s. record { bound = bound ws s } }
  where
    bound : (ws : List ℤ) → Small weight_limit ws → (i : ℕ) → nat_abs (entry i (combine ws (rs ++ ss))) ≤ a + b
    bound ws s i =
        let front = entry i (combine ws rs) in
        let behind = entry i (combine (drop (length rs) ws) ss) in
        rw entry_combine_append (omega (arith, size_sum front behind, (h.sums ws s).bound i, (k.sums (drop (length rs) ws) (small_drop weight_limit (length rs) ws s)).bound i))

module _ {r : Row} (l : LimitedRow r) where
  pub limited_small : SmallRow constant_limit r
  limited_small = record { bound = bound }
    where
      bound : (i : ℕ) → nat_abs (entry i r) ≤ constant_limit
      bound zero = unfold entry in l.constant
      bound (suc i) = unfold entry in le_trans (small_at weight_limit r.coefficients l.coefficients i) (omega arith)

  module _ {b : ℕ} {image : List Row} (k : SmallSums b image) where
    -- an image put in for the first j columns
    pub small_partial : (j : ℕ) → SmallRow (constant_limit + b) (add (constant_row r.constant) (combine (take j r.coefficients) image))
    small_partial j = small_add (small_constant r.constant l.constant) (k.sums (take j r.coefficients) (small_take weight_limit j r.coefficients l.coefficients))

    -- and for all of them
    pub small_substitute : SmallRow (constant_limit + b) (substitute image r)
    unfolding substitute
    small_substitute = rw (take-length r.coefficients) at (small_partial (length r.coefficients))

-- ---- within 64 bits

-- fewer rows than a buffer holds, weighted
pub partial_small : (ws : List ℤ) {rs : List Row} (j : ℕ) → j < most_buffer_rows → Small weight_limit ws → SmallRows entry_limit rs → SmallRow sum_limit (combine (take j ws) rs)
partial_small ws {rs} j h s k =
    small_combine weight_limit (most_buffer_rows - 1) (take j ws) (omega (arith, length-take j ws)) (small_take weight_limit j ws s) k

-- one product more
pub next_fits : (x w y : ℤ) → nat_abs x ≤ sum_limit → nat_abs w ≤ weight_limit → nat_abs y ≤ entry_limit → nat_abs x + nat_abs w * nat_abs y < 2 ^ 63
next_fits x w y hx hw hy = omega (arith, mul-le-mul hw hy)

-- each partial sum of the rows of a buffer, with the product that comes next
pub partial_fits : (ws : List ℤ) {rs : List Row} (i j : ℕ) → j < most_buffer_rows → Small weight_limit ws → SmallRows entry_limit rs
    → nat_abs (entry i (combine (take j ws) rs)) + nat_abs (get_or ws j (pos 0)) * nat_abs (entry i (get_or rs j (constant_row (pos 0)))) < 2 ^ 63
partial_fits ws {rs} i j h s k =
    next_fits (entry i (combine (take j ws) rs)) (get_or ws j (pos 0)) (entry i (get_or rs j (constant_row (pos 0))))
    ((partial_small ws j h s k).bound i) (small_at weight_limit ws s j) ((small_row_at k j).bound i)

-- a divisor times an entry of a target row
pub multiple_fits : (d x : ℤ) → nat_abs d ≤ most_divisor → nat_abs x ≤ target_limit → nat_abs (pos 0) + nat_abs d * nat_abs x < 2 ^ 63
multiple_fits d x h k = omega (arith, mul-le-mul h k)

-- the entry less 1
pub less_small : (x : ℤ) → nat_abs x ≤ target_limit → nat_abs (x -ℤ pos 1) ≤ target_limit + 1
less_small x h = omega (arith, size_sum x (negsuc 0))

-- a divisor times that, and 1: what the sum's constant is compared with
pub rounded_fits : (d x : ℤ) → nat_abs d ≤ most_divisor → nat_abs x ≤ target_limit → nat_abs (pos 1) + nat_abs d * nat_abs (x -ℤ pos 1) < 2 ^ 63
rounded_fits d x h k = omega (arith, mul-le-mul h (less_small x k))
