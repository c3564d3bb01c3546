-- The words of a share, as the code answers them: the divisor, the place of the first multiplier and the place after the last.
use Rattle.std.specs.Prelude.{List, ℕ, ℤ, drop, Option, Some, None}
use Rattle.words.specs.Limits.{most_divisor}
use Rattle.certificates.specs.Judgement.{read_multipliers}
use Rattle.entailment_judge.specs.WitnessReader.{word_in}
use Rattle.entailment_judge.specs.Answers.{after_of}
use Rattle.entailment_judge.specs.declared.reader.ReadNumber.{ReadNumber}
use Rattle.entailment_judge.specs.declared.ShareWords.{ShareWords}

-- by the place after the multipliers
abbrev pub multiplied : ReadNumber → Option ℕ → Option ShareWords
multiplied divisor (Some next) = Some (record { divisor = divisor.number; first = divisor.at; next = next })
multiplied divisor None = None

-- by the divisor
abbrev pub divided : List ℤ → ℕ → Option ReadNumber → Option ShareWords
divided w n (Some divisor) = multiplied divisor (after_of w (read_multipliers n (drop divisor.at w)))
divided w n None = None

unfoldable pub share_words : List ℤ → ℕ → ℕ → Option ShareWords
share_words w at n = divided w n (word_in w at 1 most_divisor)
