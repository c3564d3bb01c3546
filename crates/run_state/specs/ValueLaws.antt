-- Values column by column: sums of products, and tests of values, grow at their end as a loop does that counts up; and no sum leaves 64 bits.
use Rattle.std.specs.Prelude.{◌≡◌, refl, ◌&&◌, List, [], ◌∷◌, ◌++◌, ℕ, zero, suc, ◌+◌, ◌*◌, ◌^◌, ◌≤◌, ◌<◌, T, leb, ℤ, pos, negsuc, nat_abs, ◌+ℤ◌, ◌*ℤ◌, get_or, take, drop}
use Rattle.std.proofs.Common.{sym, ◌∙◌, mul-le-mul, add-one, arith, leb→le, le→leb}
use Rattle.std.proofs.Math.Path.{ap}
use Rattle.std.proofs.Math.Bool.{and-true}
use Rattle.std.proofs.Math.Dec.{leb-suc-suc}
use Rattle.std.proofs.Math.IntN.{+ℤ_idl, +ℤ_idr, +ℤ_assoc}
use Rattle.std.specs.Int.Signed.{le_z}
use Rattle.std.proofs.Math.ListN.{length, length-take, length-drop}
use Rattle.std.proofs.Math.Seq.{take-suc, get_or-drop}
use Rattle.basics.proofs.Booleans.{and, and_l, and_r}
use Rattle.numbers.specs.Magnitudes.{more_fits}
use Rattle.numbers.specs.Small.{Small}
use Rattle.numbers.specs.SmallLaws.{small_at}
use Rattle.rows.specs.Rows.{dot}
use Rattle.words.specs.Limits.{coefficient_limit, value_limit}
use Rattle.words.specs.Words.{word, small}
use Rattle.traces.specs.Replay.{all_values}
use Rattle.traces.proofs.LimitLaws.{values_both}
use Rattle.run_state.specs.ScopeValues.{Bounded, Coefficients}

-- ---- tests of values

pub small_two : (x : ℤ) → le_z (negsuc 999999999999) x && le_z x (pos 1000000000000) ≡ small value_limit x
unfolding small
small_two (pos n) = refl
small_two (negsuc n) = and-true (leb n 999999999999) ∙ sym (leb-suc-suc n 999999999999)

pub next_small : (limit : ℕ) (xs : List ℤ) (i : ℕ) → i < length xs → all_values limit (take (i + 1) xs) ≡ all_values limit (take i xs) && small limit (get_or xs i (pos 0))
unfolding all_values
next_small limit xs i h =
    rw (add-one, take-suc xs i (pos 0))
    (values_both limit (take i xs) (get_or xs i (pos 0) ∷ []) ∙ ap (λ b. all_values limit (take i xs) && b) (and-true (small limit (get_or xs i (pos 0)))))

pub small_values : (limit : ℕ) (l : List ℤ) → Small limit l → T (all_values limit l)
unfolding Small all_values small
small_values limit [] h = tt
small_values limit (x ∷ l) h = and (leb (nat_abs x) limit) (all_values limit l) (le→leb (nat_abs x) limit h.0) (small_values limit l h.1)

pub values_small : (limit : ℕ) (l : List ℤ) → T (all_values limit l) → Small limit l
unfolding Small all_values small
values_small limit [] t = tt
values_small limit (x ∷ l) t =
    (leb→le (nat_abs x) limit (and_l (leb (nat_abs x) limit) (all_values limit l) t), values_small limit l (and_r (leb (nat_abs x) limit) (all_values limit l) t))

-- ---- sums of products

sum_of_four : (c x a b : ℤ) → c *ℤ x +ℤ (a +ℤ b) ≡ c *ℤ x +ℤ a +ℤ b
sum_of_four c x a b = sym (+ℤ_assoc (c *ℤ x) a b)

pub dot_append : (cs ds xs ys : List ℤ) → length cs ≡ length xs → dot (cs ++ ds) (xs ++ ys) ≡ dot cs xs +ℤ dot ds ys
unfolding dot
dot_append [] ds [] ys e = sym (+ℤ_idl (dot ds ys))
dot_append [] ds (x ∷ xs) ys e = absurd (omega arith)
dot_append (c ∷ cs) ds [] ys e = absurd (omega arith)
dot_append (c ∷ cs) ds (x ∷ xs) ys e = ap (λ (z : ℤ). c *ℤ x +ℤ z) (dot_append cs ds xs ys (omega arith)) ∙ sum_of_four c x (dot cs xs) (dot ds ys)

module _ (words : List ℤ) (at : ℕ) (values : List ℤ) (from count : ℕ) (sum : ℤ) (h : Coefficients words at count sum) (b : Bounded values from count) where
  -- the sum, with the products of the first i columns
  abbrev after : ℕ → ℤ
  after i = sum +ℤ dot (take i (drop at words)) (take i (drop from values))

  pub no_product : after 0 ≡ sum
  unfolding dot
  no_product = +ℤ_idr sum

  next_dot : (i : ℕ) → i < count → dot (take (suc i) (drop at words)) (take (suc i) (drop from values)) ≡ dot (take i (drop at words)) (take i (drop from values)) +ℤ word words (at + i) *ℤ word values (from + i)
  unfolding dot
  next_dot i l =
      let few = h.inside in
      let long : i < length (drop at words) = simp length-drop (omega arith) in
      let there : i < length (drop from values) = simp length-drop (omega (arith, b.inside)) in
      let same : length (take i (drop at words)) ≡ length (take i (drop from values)) = simp length-take (omega arith) in
      rw (take-suc (drop at words) i (pos 0) long, take-suc (drop from values) i (pos 0) there, get_or-drop at words i (pos 0), get_or-drop from values i (pos 0))
      (dot_append (take i (drop at words)) (word words (at + i) ∷ []) (take i (drop from values)) (word values (from + i) ∷ []) same
      ∙ ap (λ (z : ℤ). dot (take i (drop at words)) (take i (drop from values)) +ℤ z) (+ℤ_idr (word words (at + i) *ℤ word values (from + i))))

  pub next_product : (i : ℕ) → i < count → after (i + 1) ≡ after i +ℤ word words (at + i) *ℤ word values (from + i)
  next_product i l =
      rw (add-one, next_dot i l) (sym (+ℤ_assoc sum (dot (take i (drop at words)) (take i (drop from values))) (word words (at + i) *ℤ word values (from + i))))

  pub sum_size : (i : ℕ) → i ≤ count → nat_abs (after i) ≤ nat_abs sum + i * (coefficient_limit * value_limit)
  sum_size zero l = rw no_product (omega arith)
  sum_size (suc i) l =
      rw (← add-one i, next_product i l)
      (let f = more_fits (after i) (word words (at + i)) (word values (from + i)) (sum_size i (omega arith)) (h.small i l) (small_at value_limit values b.small (from + i)) in omega arith)

  -- one more product fits
  pub product_fits : (i : ℕ) → i < count → nat_abs (after i) + nat_abs (word words (at + i)) * nat_abs (word values (from + i)) < 2 ^ 63
  product_fits i l =
      let p : nat_abs (word words (at + i)) * nat_abs (word values (from + i)) ≤ coefficient_limit * value_limit = mul-le-mul (h.small i l) (small_at value_limit values b.small (from + i)) in
      omega (arith, h.fits, sum_size i (omega arith))
