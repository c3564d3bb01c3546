-- The words that bytes spell, word by word: there is one for each four bytes, and word i begins at byte 4 * i. So a loop that counts up
-- puts them into a buffer one after the other.
use Rattle.std.specs.Prelude.{◌≡◌, List, [], ◌∷◌, ◌++◌, ℕ, zero, suc, ◌+◌, ◌*◌, ◌/◌, ◌%◌, ◌≤◌, ◌<◌, leb, ℤ, pos, length, get_or, take, drop, set}
use Rattle.std.proofs.Math.Path.{refl}
use Rattle.std.proofs.Common.{sym, ap, ◌∙◌, zero-add, add-one, arith}
use Rattle.std.proofs.Math.Bool.{and-false}
use borrow.Author.Tests.{le-leb, lt-leb, eq-eqb, ne_eqb}
use Rattle.std.proofs.Math.Seq.{paste, paste-suc}
use Rattle.plan_text.specs.ByteWords.{words_of, word_at, file_words}
use Rattle.plan_text.specs.ByteWordLaws.{fronted}

pub length_words : (bytes : List ℕ) → length (words_of bytes) ≡ length bytes / 4
unfolding words_of
length_words (a ∷ b ∷ c ∷ d ∷ bytes) = let e = length_words bytes in omega (arith, e)
length_words (a ∷ b ∷ c ∷ []) = refl
length_words (a ∷ b ∷ []) = refl
length_words (a ∷ []) = refl
length_words [] = refl

-- a byte of a later word
later : (a b c d : ℕ) (bytes : List ℕ) (i m : ℕ) → get_or (a ∷ b ∷ c ∷ d ∷ bytes) (suc i * 4 + m) 0 ≡ get_or bytes (i * 4 + m) 0
later a b c d bytes i m = let e : suc i * 4 + m ≡ suc (suc (suc (suc (i * 4 + m)))) = omega arith in rw e refl

later_word : (a b c d : ℕ) (bytes : List ℕ) (i : ℕ) → word_at bytes i ≡ word_at (a ∷ b ∷ c ∷ d ∷ bytes) (suc i)
unfolding word_at
later_word a b c d bytes i =
    let e : suc i * 4 ≡ suc (suc (suc (suc (i * 4)))) = omega arith in
    let first : get_or (a ∷ b ∷ c ∷ d ∷ bytes) (suc i * 4) 0 ≡ get_or bytes (i * 4) 0 = rw e refl in
    sym (rw (first, later a b c d bytes i 1, later a b c d bytes i 2, later a b c d bytes i 3) refl)

pub word_is : (bytes : List ℕ) (i : ℕ) → i * 4 + 4 ≤ length bytes → get_or (words_of bytes) i (pos 0) ≡ word_at bytes i
unfolding words_of word_at
word_is (a ∷ b ∷ c ∷ d ∷ bytes) zero h = refl
word_is (a ∷ b ∷ c ∷ d ∷ bytes) (suc i) h = word_is bytes i (omega arith) ∙ later_word a b c d bytes i
word_is (a ∷ b ∷ c ∷ []) i h = absurd (omega arith)
word_is (a ∷ b ∷ []) i h = absurd (omega arith)
word_is (a ∷ []) i h = absurd (omega arith)
word_is [] i h = absurd (omega arith)

pasted : (words buffer : List ℤ) (n : ℕ) → paste buffer 0 words n ≡ fronted words buffer n
pasted words buffer n = ap (λ (k : ℕ). take n words ++ drop k buffer) (zero-add n)

-- one word more
pub one_more : (bytes : List ℕ) (buffer : List ℤ) (i : ℕ) → i * 4 + 4 ≤ length bytes → i < length buffer
    → set (fronted (words_of bytes) buffer i) i (word_at bytes i) ≡ fronted (words_of bytes) buffer (i + 1)
one_more bytes buffer i h l =
    let w = words_of bytes in
    let z = get_or w i (pos 0) in
    rw (add-one i, ← word_is bytes i h)
    (ap (λ (x : List ℤ). set x i z) (sym (pasted w buffer i))
    ∙ (ap (λ (k : ℕ). set (paste buffer 0 w i) k z) (sym (zero-add i))
    ∙ (paste-suc buffer 0 w i (pos 0) (omega arith) (omega (arith, length_words bytes))
    ∙ pasted w buffer (suc i))))

-- ---- a file's words

module _ (bytes : List ℕ) where
  pub too_long : 65536 < length bytes → file_words bytes ≡ []
  unfolding file_words
  too_long h = rw (lt-leb (length bytes) 65536 h) refl

  pub torn : (length bytes % 4 ≡ 0 → ⊥) → file_words bytes ≡ []
  unfolding file_words
  torn h = rw (ne_eqb (length bytes % 4) 0 h, and-false (leb (length bytes) 65536)) refl

  pub whole : length bytes ≤ 65536 → length bytes % 4 ≡ 0 → file_words bytes ≡ words_of bytes
  unfolding file_words
  whole l h = rw (le-leb (length bytes) 65536 l, eq-eqb (length bytes % 4) 0 h) refl
