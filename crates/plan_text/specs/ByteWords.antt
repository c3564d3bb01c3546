-- The words that bytes spell: "little-endian words", 32 bits each, signed. One to three bytes at the end spell no word. And the bytes that spell words.
use Rattle.std.specs.Prelude.{ℕ, zero, suc, ◌+◌, ◌-◌, ◌*◌, ◌/◌, ◌%◌, cond, ◌&&◌, List, [], ◌∷◌, ◌++◌, leb, ltb, eqb, ℤ, pos, negsuc, length, get_or}

-- 32 bits, as a signed number
unfoldable pub word_of : ℕ → ℤ
word_of bits = cond (ltb bits 2147483648) (pos bits) (negsuc (4294967295 - bits))

-- four bytes, the least significant first
unfoldable pub bits_of : ℕ → ℕ → ℕ → ℕ → ℕ
bits_of a b c d = a + b * 256 + c * 65536 + d * 16777216

unfoldable pub words_of : List ℕ → List ℤ
words_of (a ∷ b ∷ c ∷ d ∷ bytes) = word_of (bits_of a b c d) ∷ words_of bytes
words_of (a ∷ b ∷ c ∷ []) = []
words_of (a ∷ b ∷ []) = []
words_of (a ∷ []) = []
words_of [] = []

-- the word that begins at byte 4 * i
unfoldable pub word_at : List ℕ → ℕ → ℤ
word_at bytes i = word_of (bits_of (get_or bytes (i * 4) 0) (get_or bytes (i * 4 + 1) 0) (get_or bytes (i * 4 + 2) 0) (get_or bytes (i * 4 + 3) 0))

-- the words of a file: "at most 65,536 bytes", and "in whole words"; another file counts as one without words
unfoldable pub file_words : List ℕ → List ℤ
file_words bytes = cond (leb (length bytes) 65536 && eqb (length bytes % 4) 0) (words_of bytes) []

-- ---- and back

-- the 32 bits of a signed number
unfoldable pub bits_in : ℤ → ℕ
bits_in (pos n) = n
bits_in (negsuc n) = 4294967295 - n

-- so many bytes of a number, the least significant first
unfoldable pub bytes_in : ℕ → ℕ → List ℕ
bytes_in zero n = []
bytes_in (suc k) n = n % 256 ∷ bytes_in k (n / 256)

unfoldable pub word_bytes : ℤ → List ℕ
word_bytes word = bytes_in 4 (bits_in word)

unfoldable pub bytes_of : List ℤ → List ℕ
bytes_of [] = []
bytes_of (word ∷ words) = word_bytes word ++ bytes_of words
