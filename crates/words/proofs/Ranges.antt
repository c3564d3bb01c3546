-- Tests of words against inequalities over ℤ: each test passes if and only if its inequalities hold, and then a capped number is the word.
use Rattle.std.specs.Prelude.{◌≡◌, refl, ◌↔◌, Bool, true, false, cond, ◌&&◌, List, ℤ, pos, negsuc, ◌≤ℤ◌, ◌<ℤ◌}
use Rattle.std.proofs.Common.{sym, ap, subst, arith, leb-true, le-leb}
use Prim.Native.Nat.{ℕ, suc, ◌+◌, ◌≤◌, ◌<◌}
use Rattle.std.proofs.Math.Dec.{T, leb, leb→le, le→leb}
use Rattle.std.specs.Int.Signed.{le_z, le_z_yes}
use Rattle.basics.proofs.Booleans.{and, and_l, and_r, each, holds}
use Rattle.basics.specs.Integers.{eq_z}
use Rattle.basics.proofs.Integers.{ints, negation, eq_z→eq, eq→eqZ}
use Rattle.words.specs.Words.{word, within, below, small, all_small, number}
use Rattle.words.specs.Ranges.{Between, Small}

pub within_between : (low high : ℕ) (z : ℤ) → T (within low high z) ↔ Between (pos low) (pos high) z
within_between low high z = (there z, back z)
  where
    there : (z : ℤ) → T (within low high z) → Between (pos low) (pos high) z
    there (pos m) t = unfold within in
        (let t' : T (leb low m && leb m high) = t in record { least = le_z_yes (and_l (leb low m) (leb m high) t'); most = le_z_yes (and_r (leb low m) (leb m high) t') })
    there (negsuc m) t = absurd (unfold within in t)

    back : (z : ℤ) → Between (pos low) (pos high) z → T (within low high z)
    back (pos m) b = unfold within in and (leb low m) (leb m high) b.least.le b.most.le
    back (negsuc m) b = absurd b.least.le

-- and as an equation of two tests
pub within_bounds : (high : ℕ) (z : ℤ) → (le_z (pos 0) z && le_z z (pos high)) ≡ within 0 high z
unfolding within
within_bounds high (pos m) = refl
within_bounds high (negsuc m) = refl

pub within_exactly : (m : ℕ) (z : ℤ) → T (within m m z) ↔ (z ≡ pos m)
within_exactly m z =
    (λ t. let b = (within_between m m z).0 t in omega (arith, ints, b.least, b.most), λ e. (within_between m m z).1 (record { least = omega (arith, ints); most = omega (arith, ints) }))

-- and that as an equation of two tests
pub exact_word : (m : ℕ) (z : ℤ) → within m m z ≡ eq_z z (pos m)
exact_word m z = go (within m m z) (eq_z z (pos m)) refl refl
  where
    go : (a b : Bool) → within m m z ≡ a → eq_z z (pos m) ≡ b → a ≡ b
    go true true d e = refl
    go true false d e = absurd (subst T e (eq→eqZ ((within_exactly m z).0 (holds d))))
    go false true d e = absurd (subst T d ((within_exactly m z).1 (eq_z→eq z (pos m) (holds e))))
    go false false d e = refl

pub below_between : (high : ℕ) (z : ℤ) → T (below high z) ↔ ((pos 0 ≤ℤ z) × (z <ℤ pos high))
below_between high z = (there z, back z)
  where
    there : (z : ℤ) → T (below high z) → (pos 0 ≤ℤ z) × (z <ℤ pos high)
    there (pos m) t = (omega (arith, ints), record { lt = unfold below in t })
    there (negsuc m) t = absurd (unfold below in t)

    back : (z : ℤ) → (pos 0 ≤ℤ z) × (z <ℤ pos high) → T (below high z)
    back (pos m) b = unfold below in b.1.lt
    back (negsuc m) b = absurd b.0.le

pub small_between : (limit : ℕ) (z : ℤ) → T (small limit z) ↔ Small limit z
small_between limit z = (there z, back z)
  where
    there : (z : ℤ) → T (small limit z) → Small limit z
    there (pos m) t = let h : m ≤ limit = leb→le m limit (unfold small in t) in record { least = omega (arith, ints, negation (pos limit)); most = omega (arith, ints) }
    there (negsuc m) t = let h : suc m ≤ limit = leb→le (suc m) limit (unfold small in t) in record { least = omega (arith, ints, negation (pos limit)); most = omega (arith, ints) }

    back : (z : ℤ) → Small limit z → T (small limit z)
    back (pos m) b = unfold small in le→leb m limit (omega (arith, ints, b.most))
    back (negsuc m) b = unfold small in le→leb (suc m) limit (omega (arith, ints, b.least, negation (pos limit)))

pub all_small_lem : (words : List ℤ) (limit at m : ℕ) → T (all_small words limit at m) ↔ ((i : ℕ) → i < m → Small limit (word words (at + i)))
unfolding all_small
all_small_lem words limit at =
    each (all_small words limit at) (λ i. small limit (word words (at + i))) (λ i. Small limit (word words (at + i))) refl (λ i. refl) (λ i. small_between limit (word words (at + i)))

-- ---- a capped number

pub number_most : (most : ℕ) (z : ℤ) → number most z ≤ most
unfolding number
number_most most (pos m) = go (leb m most) refl
  where
    go : (b : Bool) → leb m most ≡ b → cond b m 0 ≤ most
    go true e = leb-true m most e
    go false e = omega arith
number_most most (negsuc m) = omega arith

pub number_of : (most m : ℕ) → m ≤ most → number most (pos m) ≡ m
unfolding number
number_of most m h = rw (le-leb m most h)

-- it is the word, where the word is in range
pub number_is : (high most : ℕ) (z : ℤ) → high ≤ most → pos 0 ≤ℤ z → z ≤ℤ pos high → z ≡ pos (number most z)
number_is high most (pos m) h l k = ap pos (sym (number_of most m (omega (arith, ints))))
number_is high most (negsuc m) h l k = absurd l.le

pub number_between : (low high most : ℕ) (z : ℤ) → high ≤ most → Between (pos low) (pos high) z → z ≡ pos (number most z)
number_between low high most z h b = number_is high most z h (omega (arith, ints)) b.most

-- and it is in that range
pub number_range : (low high most : ℕ) (z : ℤ) → high ≤ most → Between (pos low) (pos high) z → (low ≤ number most z) × (number most z ≤ high)
number_range low high most z h b = omega (arith, ints, number_between low high most z h b)

-- it is the word too where it isn't 0
pub number_positive : (most : ℕ) (z : ℤ) → 1 ≤ number most z → z ≡ pos (number most z)
unfolding number
number_positive most (pos m) h = go (leb m most) h
  where
    go : (b : Bool) → 1 ≤ cond b m 0 → pos m ≡ pos (cond b m 0)
    go true h = refl
    go false h = absurd (omega arith)
number_positive most (negsuc m) h = absurd (omega arith)

-- and where the word is out of range it is 0
pub number_none : (most : ℕ) (z : ℤ) → ¬ Between (pos 0) (pos most) z → number most z ≡ 0
unfolding number
number_none most (pos m) h = go (leb m most) refl
  where
    go : (b : Bool) → leb m most ≡ b → cond b m 0 ≡ 0
    go true e = absurd (h (record { least = omega (arith, ints); most = omega (arith, ints, leb-true m most e) }))
    go false e = refl
number_none most (negsuc m) h = refl
