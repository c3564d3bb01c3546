-- What the bytes of words spell is these words again, where each is one of 32 bits. So a file that is written word by word reads as what was written.
use Rattle.std.specs.Prelude.{◌≡◌, refl, List, [], ◌∷◌, ◌++◌, ℕ, suc, ◌+◌, ◌-◌, ◌*◌, ◌/◌, ◌%◌, ◌≤◌, ◌<◌, ◌^◌, ℤ, pos, negsuc, length, get_or, take}
use Rattle.std.proofs.Common.{sym, ap, ap₂, ◌∙◌, append_assoc, append-nil, add-one, arith, lt-ltb, le-ltb, take-suc, SFits}
use Rattle.std.specs.Int.{w32}
use Rattle.plan_text.specs.ByteWords.{word_of, bits_of, words_of, file_words, bits_in, bytes_in, word_bytes, bytes_of}
use Rattle.plan_text.proofs.ByteWordLaws.{whole}

-- ---- one word

bits_small : (w : ℤ) → SFits w32 w → bits_in w < 2 ^ 32
unfolding bits_in
bits_small (pos n) f = omega (arith, f.sfits)
bits_small (negsuc n) f = omega arith

bits_back : (n : ℕ) → n < 2 ^ 32 → bits_of (n % 256) (n / 256 % 256) (n / 256 / 256 % 256) (n / 256 / 256 / 256 % 256) ≡ n
unfolding bits_of
bits_back n h = omega arith

word_back : (w : ℤ) → SFits w32 w → word_of (bits_in w) ≡ w
unfolding word_of bits_in
word_back (pos n) f = rw (lt-ltb n 2147483648 f.sfits) refl
word_back (negsuc n) f =
    let l : n < 2147483648 = f.sfits in
    rw (le-ltb (4294967295 - n) 2147483648 (omega (arith, l))) (ap negsuc (omega (arith, l)))

-- ---- all of them

pub length_word : (w : ℤ) → length (word_bytes w) ≡ 4
unfolding word_bytes bytes_in
length_word w = refl

pub length_bytes : (words : List ℤ) → length (bytes_of words) ≡ length words * 4
unfolding bytes_of word_bytes bytes_in
length_bytes [] = refl
length_bytes (w ∷ words) = let e = length_bytes words in omega (arith, e)

pub words_back : (words : List ℤ) → ((i : ℕ) → i < length words → SFits w32 (get_or words i (pos 0))) → words_of (bytes_of words) ≡ words
unfolding bytes_of word_bytes bytes_in words_of
words_back [] fit = refl
words_back (w ∷ words) fit =
    let f = fit 0 (omega arith) in
    let first = ap word_of (bits_back (bits_in w) (bits_small w f)) ∙ word_back w f in
    ap₂ (λ (x : ℤ) (xs : List ℤ). x ∷ xs) first (words_back words (λ i h. fit (suc i) (omega (arith, h))))

-- in a file, where they aren't more than it may have
pub file_back : (words : List ℤ) → words_of (bytes_of words) ≡ words → length words ≤ 16384 → file_words (bytes_of words) ≡ words
file_back words back h =
    let n = length_bytes words in
    whole (bytes_of words) (omega (arith, n)) (omega (arith, n)) ∙ back

-- ---- one more

bytes_append : (xs ys : List ℤ) → bytes_of (xs ++ ys) ≡ bytes_of xs ++ bytes_of ys
unfolding bytes_of
bytes_append [] ys = refl
bytes_append (x ∷ xs) ys = ap (λ (l : List ℕ). word_bytes x ++ l) (bytes_append xs ys) ∙ sym (append_assoc (word_bytes x) (bytes_of xs) (bytes_of ys))

pub bytes_next : (words : List ℤ) (i : ℕ) → i < length words → bytes_of (take (i + 1) words) ≡ bytes_of (take i words) ++ word_bytes (get_or words i (pos 0))
unfolding bytes_of
bytes_next words i h =
    let w = get_or words i (pos 0) in
    rw (add-one i)
    (ap bytes_of (take-suc words i (pos 0) h) ∙ (bytes_append (take i words) (w ∷ []) ∙ ap (λ (l : List ℕ). bytes_of (take i words) ++ l) (append-nil (word_bytes w))))
