-- The digits of a number by how many there are: a number below 10^k has at most k, and the digits that the system library gives, the fewest
-- that hold the number, are these. By induction on how many.
use Rattle.std.specs.Prelude.{◌≡◌, refl, List, [], ◌∷◌, ◌++◌, ℕ, zero, suc, ◌-◌, ◌/◌, ◌%◌, ◌^◌, ◌≤◌, ◌<◌, length}
use Rattle.std.proofs.Common.{pow-suc, sub-one, arith, lt-ltb, length-append}
use Rattle.io.specs.Digits as system
use Rattle.plan_text.specs.Lines.{digit, digits_within, digits}

-- ---- how many there are

length_within : (k n m : ℕ) → n < 10 ^ m → length (digits_within k n) ≤ m
unfolding digits_within
length_within zero n m h = omega arith
length_within (suc k) zero m h = omega arith
length_within (suc k) (suc n) zero h = absurd (omega arith)
length_within (suc k) (suc n) (suc m) h =
    let i = length_within k (suc n / 10) m (omega (arith, pow-suc 10 m)) in
    omega (arith, i, length-append (digits_within k (suc n / 10)) (digit (suc n % 10) ∷ []))

pub length_digits : (m n : ℕ) → n < 10 ^ suc m → length (digits n) ≤ suc m
unfolding digits
length_digits m n h =
    let i = length_within n (n / 10) m (omega (arith, pow-suc 10 m)) in
    omega (arith, i, length-append (digits_within n (n / 10)) (digit (n % 10) ∷ []))

-- ---- the digits that the system library gives

glyph_digit : (d : ℕ) → d < 10 → system.hex_digit_ascii d ≡ digit d
unfolding digit
glyph_digit d h = rw (lt-ltb d 10 h) refl

one_at_least : (k : ℕ) → 1 ≤ 10 ^ k
one_at_least zero = omega arith
one_at_least (suc k) = let i = one_at_least k in omega (arith, pow-suc 10 k, i)

below_power : (k : ℕ) → k ≤ 10 ^ k
below_power zero = omega arith
below_power (suc k) = let i = below_power k in omega (arith, pow-suc 10 k, i, one_at_least k)

-- the last digit taken off: what needed j + 1 digits needs j
fewer : (j n : ℕ) → 10 ^ (suc j - 1) ≤ n → 0 < j → 10 ^ (j - 1) ≤ n / 10
fewer zero n l h = absurd (omega arith)
fewer (suc i) n l h = let p : 10 ^ suc i ≤ n = rw (sub-one (suc (suc i))) at l in rw (sub-one (suc i)) (omega (arith, pow-suc 10 i, p))

one_more : (n : ℕ) {front end : List ℕ} → front ≡ end → front ++ (system.hex_digit_ascii (n % 10) ∷ []) ≡ end ++ (digit (n % 10) ∷ [])
one_more n {front} {end} e = rw (e, glyph_digit (n % 10) (omega arith)) refl

same_within : (k f n : ℕ) → k ≤ f → n < 10 ^ k → (0 < k → 10 ^ (k - 1) ≤ n) → system.last_digits 10 k n ≡ digits_within f n
unfolding digits_within
same_within zero zero n l h least = refl
same_within zero (suc f) zero l h least = refl
same_within zero (suc f) (suc n) l h least = absurd (omega arith)
same_within (suc j) zero n l h least = absurd (omega arith)
same_within (suc j) (suc f) zero l h least = absurd (let o = one_at_least j in let e = sub-one (suc j) in let p : 10 ^ j ≤ 0 = rw e at (least (omega arith)) in omega (arith, o, p))
same_within (suc j) (suc f) (suc n) l h least = one_more (suc n) (same_within j f (suc n / 10) (omega arith) (omega (arith, pow-suc 10 j)) (fewer j (suc n) (least (omega arith))))

pub same_digits : (n k : ℕ) → system.IsDigitCount 10 1 n k → system.last_digits 10 k n ≡ digits n
unfolding digits
same_digits n zero (some, holds, least) = absurd (omega arith)
same_digits n (suc j) (some, holds, least) = one_more n (same_within j n (n / 10) (enough j least) (omega (arith, pow-suc 10 j)) (λ h. fewer j n (least (omega arith)) h))
  where
    enough : (j : ℕ) → (1 < suc j → 10 ^ (suc j - 1) ≤ n) → j ≤ n
    enough zero l = omega arith
    enough (suc i) l = let p : 10 ^ suc i ≤ n = rw (sub-one (suc (suc i))) at (l (omega arith)) in omega (arith, p, below_power (suc i))
