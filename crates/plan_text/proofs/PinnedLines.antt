-- Lines that pin the definitions, by computation over one list, and bytes of words.
use Rattle.std.specs.Prelude.{◌≡◌, refl, [], ◌∷◌, pos, negsuc, Ok, Err}
use Rattle.plan_text.specs.ByteWords.{bits_in, bytes_in, word_bytes, bytes_of}
use Rattle.plan_text.specs.Lines.{digit, digits_within, digits, number, line_of, writing_line}
use Rattle.plan_text.specs.PinnedLines.{AllPinned, line_for, pinned_lines}

pub pinned_lines_lem : AllPinned pinned_lines
unfolding line_for AllPinned
pinned_lines_lem = (refl, (refl, (refl, (refl, (refl, (refl, (refl, (refl, (refl, (refl, tt))))))))))

-- ---- a writer's line: `written 28`, `written 0`, `refused 26 0 0`

pub written_28 : writing_line (Ok 28) ≡ 119 ∷ 114 ∷ 105 ∷ 116 ∷ 116 ∷ 101 ∷ 110 ∷ 32 ∷ 50 ∷ 56 ∷ 10 ∷ []
unfolding digit digits_within digits number writing_line
written_28 = refl

pub written_0 : writing_line (Ok 0) ≡ 119 ∷ 114 ∷ 105 ∷ 116 ∷ 116 ∷ 101 ∷ 110 ∷ 32 ∷ 48 ∷ 10 ∷ []
unfolding digit digits_within digits number writing_line
written_0 = refl

pub refused_26 : writing_line (Err (record { number = 26; place = 0; line = 0 })) ≡ 114 ∷ 101 ∷ 102 ∷ 117 ∷ 115 ∷ 101 ∷ 100 ∷ 32 ∷ 50 ∷ 54 ∷ 32 ∷ 48 ∷ 32 ∷ 48 ∷ 10 ∷ []
unfolding digit digits_within digits number line_of writing_line
refused_26 = refl

-- ---- bytes of the words 4, -1, 999400 and -2,147,483,648

pub four_words : bytes_of (pos 4 ∷ negsuc 0 ∷ pos 999400 ∷ negsuc 2147483647 ∷ []) ≡ 4 ∷ 0 ∷ 0 ∷ 0 ∷ 255 ∷ 255 ∷ 255 ∷ 255 ∷ 232 ∷ 63 ∷ 15 ∷ 0 ∷ 0 ∷ 0 ∷ 0 ∷ 128 ∷ []
unfolding bits_in bytes_in word_bytes bytes_of
four_words = refl
