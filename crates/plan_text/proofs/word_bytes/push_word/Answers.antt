-- The four bytes are the definition's, one division further each.
use Rattle.std.proofs.Common.{◌≡◌, List, [], ◌∷◌, ℕ, ◌/◌, ◌%◌, refl, ap, subst, ◌∙◌, to_z-of_z}
use Rattle.plan_text.specs.ByteWords.{bits_in, bytes_in, word_bytes}
use Rattle.plan_text.specs.PushLaws.{Pushed}
use Rattle.plan_text.proofs.word_bytes.push_word.Goals as goal

spelt : {n b x y z w : ℕ} → b ≡ n → x ≡ b % 256 → y ≡ b / 256 % 256 → z ≡ b / 256 / 256 % 256 → w ≡ b / 256 / 256 / 256 % 256 → x ∷ y ∷ z ∷ w ∷ [] ≡ bytes_in 4 n
unfolding bytes_in
spelt e p q r s = rw (p, q, r, s, e) refl

pub returns : goal.returns
unfolding word_bytes
returns c =
    let w = to_z-of_z c.ranges.word in
    let e = spelt (c.bits_in-bits.ensures ∙ ap bits_in w) c.low_byte.ensures c.low_byte-2.ensures c.low_byte-3.ensures c.low_byte-4.ensures in
    subst (λ (l : List ℕ). Pushed c.args.bytes.now c.args.at l c.push.result c.push.new.line) e c.push.ensures
