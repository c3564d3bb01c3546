-- Integers: the laws of an ordered ring that the kit lacks, and the way from a linear fact over ℤ to `omega`.
-- Every number is the difference of two naturals, its halves, of which one is 0: `omega` sees the halves.
use Rattle.std.specs.Prelude.{◌≡◌, refl, ℕ, zero, suc, ◌+◌, ◌*◌, ◌-◌, ◌≤◌, ◌<◌, not, T, ℤ, pos, negsuc, neg_ℤ, ◌+ℤ◌, ◌-ℤ◌, ◌*ℤ◌, ◌≤ℤ◌, ◌<ℤ◌}
use Rattle.std.proofs.Common.{sym, ◌∙◌, ap, ap₂, subst, arith, leb→le, le→leb, ltb→lt, lt→ltb, eqb→eq}
use Rattle.std.proofs.Math.Dec.{nleb→lt, eqb_refl}
use Rattle.std.proofs.Math.IntN.{+ℤ_assoc, +ℤ_comm, +ℤ_idl, +ℤ_idr, +ℤ_one, -ℤ_one, suc_ℤ-+ℤ, pred_ℤ-+ℤ, suc_ℤ-*ℤ, pred_ℤ-*ℤ, *ℤ_comm, zero-*ℤ, *ℤ-zero, ℤ_ind, neg_ℤ-neg_ℤ}
use Rattle.std.specs.Int.Signed.{le_z, le_z_yes}
use Rattle.basics.specs.Integers.{down, eq_z, up}

pub +ℤ_left_comm : (a b c : ℤ) → a +ℤ (b +ℤ c) ≡ b +ℤ (a +ℤ c)
+ℤ_left_comm a b c = sym (+ℤ_assoc a b c) ∙ ap (λ (x : ℤ). x +ℤ c) (+ℤ_comm a b) ∙ +ℤ_assoc b a c

ruleset sums = (+ℤ_assoc, +ℤ_comm, +ℤ_left_comm, +ℤ_idl, +ℤ_idr)

-- ---- the product over the sum

pub *ℤ_dist_r : (a b c : ℤ) → (a +ℤ b) *ℤ c ≡ a *ℤ c +ℤ b *ℤ c
*ℤ_dist_r a b c = ℤ_ind (λ z. (z +ℤ b) *ℤ c ≡ z *ℤ c +ℤ b *ℤ c) base up down a
  where
    base : (pos zero +ℤ b) *ℤ c ≡ pos zero *ℤ c +ℤ b *ℤ c
    base = rw (+ℤ_idl, zero-*ℤ, +ℤ_idl)

    up : (n : ℕ) → (pos n +ℤ b) *ℤ c ≡ pos n *ℤ c +ℤ b *ℤ c → (pos n +ℤ pos 1 +ℤ b) *ℤ c ≡ (pos n +ℤ pos 1) *ℤ c +ℤ b *ℤ c
    up n h = ap (λ (z : ℤ). z *ℤ c) (ap (λ (z : ℤ). z +ℤ b) (+ℤ_one (pos n)) ∙ suc_ℤ-+ℤ (pos n) b) ∙ suc_ℤ-*ℤ (pos n +ℤ b) c ∙ ap (λ (z : ℤ). z +ℤ c) h
        ∙ (simp sums) ∙ ap (λ (z : ℤ). z +ℤ b *ℤ c) (sym (suc_ℤ-*ℤ (pos n) c) ∙ ap (λ (z : ℤ). z *ℤ c) (sym (+ℤ_one (pos n))))

    down : (n : ℕ) → (neg_ℤ (pos n) +ℤ b) *ℤ c ≡ neg_ℤ (pos n) *ℤ c +ℤ b *ℤ c → (neg_ℤ (pos n) +ℤ neg_ℤ (pos 1) +ℤ b) *ℤ c ≡ (neg_ℤ (pos n) +ℤ neg_ℤ (pos 1)) *ℤ c +ℤ b *ℤ c
    down n h = ap (λ (z : ℤ). z *ℤ c) (ap (λ (z : ℤ). z +ℤ b) (-ℤ_one (neg_ℤ (pos n))) ∙ pred_ℤ-+ℤ (neg_ℤ (pos n)) b) ∙ pred_ℤ-*ℤ (neg_ℤ (pos n) +ℤ b) c ∙ ap (λ (z : ℤ). z -ℤ c) h
        ∙ (simp sums) ∙ ap (λ (z : ℤ). z +ℤ b *ℤ c) (sym (pred_ℤ-*ℤ (neg_ℤ (pos n)) c) ∙ ap (λ (z : ℤ). z *ℤ c) (sym (-ℤ_one (neg_ℤ (pos n)))))

pub *ℤ_dist_l : (a b c : ℤ) → a *ℤ (b +ℤ c) ≡ a *ℤ b +ℤ a *ℤ c
*ℤ_dist_l a b c = *ℤ_comm a (b +ℤ c) ∙ *ℤ_dist_r b c a ∙ ap₂ (λ (x y : ℤ). x +ℤ y) (*ℤ_comm b a) (*ℤ_comm c a)

pub one-*ℤ : (k : ℤ) → pos 1 *ℤ k ≡ k
one-*ℤ k = suc_ℤ-*ℤ (pos zero) k ∙ rw (zero-*ℤ, +ℤ_idl)

pub negone-*ℤ : (k : ℤ) → negsuc zero *ℤ k ≡ neg_ℤ k
negone-*ℤ k = pred_ℤ-*ℤ (pos zero) k ∙ rw (zero-*ℤ, +ℤ_idl)

pub neg-*ℤ : (b c : ℤ) → neg_ℤ b *ℤ c ≡ neg_ℤ (b *ℤ c)
neg-*ℤ (pos zero) c = rw (zero-*ℤ)
neg-*ℤ (pos (suc n)) (pos m) = refl
neg-*ℤ (pos (suc n)) (negsuc m) = sym (neg_ℤ-neg_ℤ (pos (suc n * suc m)))
neg-*ℤ (negsuc n) (pos m) = sym (neg_ℤ-neg_ℤ (pos (suc n * m)))
neg-*ℤ (negsuc n) (negsuc m) = refl

-- `pos n +ℤ pos 1` computes, and then no law of the sum fits it: so the steps are over any x
pub *ℤ-assoc : (a b c : ℤ) → (a *ℤ b) *ℤ c ≡ a *ℤ (b *ℤ c)
*ℤ-assoc a b c = ℤ_ind (λ z. (z *ℤ b) *ℤ c ≡ z *ℤ (b *ℤ c)) (simp zero-*ℤ) (λ n. step (pos n) (pos 1) (simp one-*ℤ)) (λ n. step (neg_ℤ (pos n)) (negsuc zero) (simp (negone-*ℤ, neg-*ℤ))) a
  where
    step : (x y : ℤ) → (y *ℤ b) *ℤ c ≡ y *ℤ (b *ℤ c) → (x *ℤ b) *ℤ c ≡ x *ℤ (b *ℤ c) → ((x +ℤ y) *ℤ b) *ℤ c ≡ (x +ℤ y) *ℤ (b *ℤ c)
    step x y e h = simp (*ℤ_dist_r, e, h)

pub *ℤ_left_comm : (a b c : ℤ) → a *ℤ (b *ℤ c) ≡ b *ℤ (a *ℤ c)
*ℤ_left_comm a b c = sym (*ℤ-assoc a b c) ∙ ap (λ (x : ℤ). x *ℤ c) (*ℤ_comm a b) ∙ *ℤ-assoc b a c

pub eq_z→eq : (a b : ℤ) → T (eq_z a b) → a ≡ b
eq_z→eq (pos a) (pos b) t = ap pos (eqb→eq a b t)
eq_z→eq (pos a) (negsuc b) t = absurd t
eq_z→eq (negsuc a) (pos b) t = absurd t
eq_z→eq (negsuc a) (negsuc b) t = ap negsuc (eqb→eq a b t)

pub eq→eqZ : {a b : ℤ} → a ≡ b → T (eq_z a b)
eq→eqZ {a} {b} e = subst (λ (z : ℤ). T (eq_z a z)) e (same a)
  where
    same : (a : ℤ) → T (eq_z a a)
    same (pos a) = eqb_refl a
    same (negsuc a) = eqb_refl a

pub nle_z→lt : (a b : ℤ) → T (not (le_z a b)) → b <ℤ a
nle_z→lt (pos a) (pos b) t = record { lt = lt→ltb b a (nleb→lt a b t) }
nle_z→lt (pos a) (negsuc b) t = record { lt = tt }
nle_z→lt (negsuc a) (pos b) t = absurd t
nle_z→lt (negsuc a) (negsuc b) t = record { lt = lt→ltb a b (nleb→lt b a t) }

pub negation : (a : ℤ) → (up (neg_ℤ a) ≡ down a) × (down (neg_ℤ a) ≡ up a)
negation (pos zero) = (refl, refl)
negation (pos (suc n)) = (refl, refl)
negation (negsuc n) = (refl, refl)

pub times : (k : ℕ) (a : ℤ) → (up (pos k *ℤ a) ≡ k * up a) × (down (pos k *ℤ a) ≡ k * down a)
times k (pos n) = (refl, omega arith)
times k (negsuc n) = neg (k * suc n) (omega arith)
  where
    neg : (m : ℕ) → m ≡ k * suc n → (up (neg_ℤ (pos m)) ≡ k * zero) × (down (neg_ℤ (pos m)) ≡ k * suc n)
    neg m e = ((negation (pos m)).0 ∙ omega arith, (negation (pos m)).1 ∙ e)

pub ≤→halves : {a b : ℤ} → a ≤ℤ b → up a + down b ≤ up b + down a
≤→halves {a = pos a} {b = pos b} h = omega (arith, leb→le a b h.le)
≤→halves {a = pos a} {b = negsuc b} h = absurd h.le
≤→halves {a = negsuc a} {b = pos b} h = omega arith
≤→halves {a = negsuc a} {b = negsuc b} h = omega (arith, leb→le b a h.le)

pub halves→≤ : {a b : ℤ} → up a + down b ≤ up b + down a → a ≤ℤ b
halves→≤ {a = pos a} {b = pos b} h = le_z_yes (le→leb a b (omega arith))
halves→≤ {a = pos a} {b = negsuc b} h = absurd (omega arith)
halves→≤ {a = negsuc a} {b = pos b} h = le_z_yes tt
halves→≤ {a = negsuc a} {b = negsuc b} h = le_z_yes (le→leb b a (omega arith))

≡-halves : (a b : ℤ) → up a + down b ≡ up b + down a → a ≡ b
≡-halves (pos a) (pos b) h = ap pos (omega arith)
≡-halves (pos a) (negsuc b) h = absurd (omega arith)
≡-halves (negsuc a) (pos b) h = absurd (omega arith)
≡-halves (negsuc a) (negsuc b) h = ap negsuc (omega arith)

pub halves→≡ : {a b : ℤ} → up a + down b ≡ up b + down a → a ≡ b
halves→≡ {a} {b} h = ≡-halves a b h

pub ≡→halves : {a b : ℤ} → a ≡ b → up a + down b ≡ up b + down a
≡→halves {a} {b} e = ap₂ (λ (x y : ℕ). x + y) (ap up e) (ap down (sym e))

pub <→halves : {a b : ℤ} → a <ℤ b → up a + down b < up b + down a
<→halves {a = pos a} {b = pos b} h = omega (arith, ltb→lt a b h.lt)
<→halves {a = pos a} {b = negsuc b} h = absurd h.lt
<→halves {a = negsuc a} {b = pos b} h = omega arith
<→halves {a = negsuc a} {b = negsuc b} h = omega (arith, ltb→lt b a h.lt)

pub halves→< : {a b : ℤ} → up a + down b < up b + down a → a <ℤ b
halves→< {a = pos a} {b = pos b} h = record { lt = lt→ltb a b (omega arith) }
halves→< {a = pos a} {b = negsuc b} h = absurd (omega arith)
halves→< {a = negsuc a} {b = pos b} h = record { lt = tt }
halves→< {a = negsuc a} {b = negsuc b} h = record { lt = lt→ltb b a (omega arith) }

-- `omega (arith, ints, sum a b, ..)`: a linear goal over ℤ, with `sum`, `negation` or `times` once for each operation that occurs
pub ruleset ints = (≤→halves, halves→≤, ≡→halves, halves→≡, <→halves, halves→<)

pub ruleset ring = (+ℤ_assoc, +ℤ_comm, +ℤ_left_comm, +ℤ_idl, +ℤ_idr, *ℤ-assoc, *ℤ_comm, *ℤ_left_comm, *ℤ_dist_l, *ℤ_dist_r, zero-*ℤ, *ℤ-zero)
