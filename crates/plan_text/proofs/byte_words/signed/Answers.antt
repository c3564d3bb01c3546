-- Below 2^31 the bits are the number; else it is -1 - (2^32 - 1 - bits), which fits.
use Rattle.std.proofs.Common.{◌≡◌, ℕ, ◌-◌, ◌<◌, ◌^◌, Bool, cond, ℤ, pos, negsuc, ◌-ℤ◌, w32, to_z, SFits, sym, subst, ap, ◌∙◌, arith, lt-ltb, le-ltb, to_z-of_z}
use Rattle.std.proofs.lemmas.Int.{to_z_pos}
use Rattle.plan_text.specs.ByteWords.{word_of}
use Rattle.plan_text.proofs.SignedLaws.{under}
use Rattle.plan_text.proofs.byte_words.signed.Goals as goal

-- the difference is the negative number, and fits
is-under : (t : ℕ) → 4294967295 - t < 2 ^ 31 → negsuc 0 -ℤ to_z w32 (4294967295 - t) ≡ negsuc (4294967295 - t)
is-under t h = ap (λ (z : ℤ). negsuc 0 -ℤ z) (to_z_pos w32 (4294967295 - t) h) ∙ under (4294967295 - t)

fits_under : (t : ℕ) → 4294967295 - t < 2 ^ 31 → SFits w32 (negsuc 0 -ℤ to_z w32 (4294967295 - t))
fits_under t h = subst (SFits w32) (sym (is-under t h)) (record { sfits = h })

pub returns-then-bits-lt2147483648 : goal.returns-then-bits-lt2147483648
unfolding word_of
returns-then-bits-lt2147483648 c =
    to_z_pos w32 c.args.bits (omega arith) ∙ ap (λ (b : Bool). cond b (pos c.args.bits) (negsuc (4294967295 - c.args.bits))) (sym (lt-ltb _ _ c.if-bits-lt2147483648.true))

pub returns-else-bits-lt2147483648 : goal.returns-else-bits-lt2147483648
unfolding word_of
returns-else-bits-lt2147483648 c =
    let t = c.args.bits in
    let h : 4294967295 - t < 2 ^ 31 = omega arith in
    to_z-of_z (fits_under t h) ∙ is-under t h ∙ ap (λ (b : Bool). cond b (pos t) (negsuc (4294967295 - t))) (sym (le-ltb _ _ c.if-bits-lt2147483648.false))
