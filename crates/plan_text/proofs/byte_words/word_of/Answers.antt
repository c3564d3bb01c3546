-- Each byte keeps its value as it is widened, so the sum is the definition's.
use Rattle.std.proofs.Common.{◌≡◌, ℕ, ◌+◌, ◌*◌, w32, ap, ◌∙◌, arith, to_z-of_z}
use Rattle.plan_text.specs.ByteWords.{word_of, bits_of}
use Rattle.plan_text.proofs.byte_words.word_of.Goals as goal

sums : {a b c d a' b' c' d' : ℕ} → a ≡ a' → b ≡ b' → c ≡ c' → d ≡ d' → a + b * 256 + c * 65536 + d * 16777216 ≡ bits_of a' b' c' d'
unfolding bits_of
sums p q r s = omega (arith, p, q, r, s)

pub returns : goal.returns
returns c = to_z-of_z {w = w32} (record { sfits = c.signed.type_inv }) ∙ (c.signed.ensures ∙ ap word_of (sums c.wide.ensures c.wide-2.ensures c.wide-3.ensures c.wide-4.ensures))
