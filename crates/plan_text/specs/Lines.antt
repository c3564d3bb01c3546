-- The line that the program prints, as bytes (ASCII): "prints one line: `safe` and the count, or `trace`, N and the values, or `refused`,
-- number, place", and by document 02 the line of the plan's text "last in every refusal". A blank parts what is printed, numbers are in decimal without leading zeros, and the line ends with byte 10.
use Rattle.std.specs.Prelude.{ℕ, zero, suc, ◌+◌, ◌/◌, ◌%◌, List, [], ◌∷◌, ◌++◌, ℤ, pos, negsuc, Result, Ok, Err}
use Rattle.words.specs.Answer.{Answer, safe, trace, refused}
use Rattle.answers.specs.Answers.{refusal_of}
use Rattle.answers.specs.declared.Refusal.{Refusal}

-- ---- numbers

unfoldable pub digit : ℕ → ℕ
digit d = 48 + d

-- n's digits, none for 0, and not more than k
unfoldable pub digits_within : ℕ → ℕ → List ℕ
digits_within zero n = []
digits_within (suc k) zero = []
digits_within (suc k) (suc n) = digits_within k (suc n / 10) ++ (digit (suc n % 10) ∷ [])

-- the last digit stands there for 0 as well; before it there are no more than n
unfoldable pub digits : ℕ → List ℕ
digits n = digits_within n (n / 10) ++ (digit (n % 10) ∷ [])

-- a minus before what is negative
unfoldable pub signed : ℤ → List ℕ
signed (pos n) = digits n
signed (negsuc n) = 45 ∷ digits (suc n)

-- a blank and the number
unfoldable pub number : ℕ → List ℕ
number n = 32 ∷ digits n

unfoldable pub value : ℤ → List ℕ
value x = 32 ∷ signed x

unfoldable pub values_in : List ℤ → List ℕ
values_in [] = []
values_in (x ∷ xs) = value x ++ values_in xs

-- ---- the line

-- `safe`, `trace`, `refused`, `written`, and the line's end
abbrev pub safe_word : List ℕ
safe_word = 115 ∷ 97 ∷ 102 ∷ 101 ∷ []

abbrev pub trace_word : List ℕ
trace_word = 116 ∷ 114 ∷ 97 ∷ 99 ∷ 101 ∷ []

abbrev pub refused_word : List ℕ
refused_word = 114 ∷ 101 ∷ 102 ∷ 117 ∷ 115 ∷ 101 ∷ 100 ∷ []

abbrev pub written_word : List ℕ
written_word = 119 ∷ 114 ∷ 105 ∷ 116 ∷ 116 ∷ 101 ∷ 110 ∷ []

abbrev pub line_end : List ℕ
line_end = 10 ∷ []

-- the line of an answer; the values are those at the failed assertion, and only a trace has them
unfoldable pub line_of : Answer → List ℤ → List ℕ
line_of (safe count) values = safe_word ++ number count ++ line_end
line_of (trace steps) values = trace_word ++ number steps ++ values_in values ++ line_end
line_of (refused r) values = refused_word ++ number r.number ++ number r.place ++ number r.line ++ line_end

-- the line of a writer's answer: `written` and the number of words, or the refusal's as above
unfoldable pub writing_line : Result ℕ Refusal → List ℕ
writing_line (Ok count) = written_word ++ number count ++ line_end
writing_line (Err r) = line_of (refused (refusal_of r)) []
