-- What the answer to a certificate that has the form says of its witness words, for safe and for the refusals 6, 7 and 8: if and only if.
-- An answer is concluded from the outcome of the judgement, and the numbers 6, 7 and 8 tell the outcomes apart.
use Rattle.std.proofs.Math.Path.{◌≡◌}
use Rattle.std.specs.Prelude.{ℕ, ◌-◌, ℤ}
use mathlib.Core.List.{List, ◌∷◌}
use Rattle.std.proofs.Math.ListN.{length}
use Rattle.words.specs.Answer.{Answer, safe, trace, refused}
use Rattle.certificates.specs.Entailments.{Entailment}
use Rattle.certificates.specs.Judgement.{running, judge, judgement_answer}
use Rattle.certificates.specs.Judged.{Held}

-- a refusal's number, place and line; of other answers 0
abbrev pub number_of : Answer → ℕ
number_of (safe count) = 0
number_of (trace steps) = 0
number_of (refused r) = r.number

abbrev pub place_of : Answer → ℕ
place_of (safe count) = 0
place_of (trace steps) = 0
place_of (refused r) = r.place

abbrev pub line_of : Answer → ℕ
line_of (safe count) = 0
line_of (trace steps) = 0
line_of (refused r) = r.line

abbrev pub count_of : Answer → ℕ
count_of (safe count) = count
count_of (trace steps) = 0
count_of (refused r) = 0

module _ (es : List Entailment) (words : List ℤ) (total : ℕ) where
  abbrev pub conclusion : Answer
  conclusion = judgement_answer total (judge es (running words 0))

  -- all held, and words are left
  pub record Left (place : ℕ) : Type 0 where
    pub first : ℤ
    pub others : List ℤ
    pub count : ℕ
    pub held : Held es words (first ∷ others) 0 count
    pub stands : place ≡ total - length (first ∷ others)
