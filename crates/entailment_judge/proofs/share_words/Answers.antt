-- The words of a share, by each way through them.
use Rattle.std.proofs.Common.{◌≡◌, drop, sym, ◌∙◌}
use Rattle.words.specs.Limits.{most_divisor}
use Rattle.certificates.specs.Judgement.{read_multipliers}
use Rattle.entailment_judge.specs.Answers.{after_of}
use Rattle.entailment_judge.specs.SharedWords.{share_words}
use Rattle.entailment_judge.proofs.TestedMultipliers.{read_so}
use Rattle.entailment_judge.proofs.Words.{found}
use Rattle.entailment_judge.proofs.share_words.Goals.{After-read_multipliers}
use Rattle.entailment_judge.proofs.share_words.Goals as goal

pub returns-in_err-divisor : goal.returns-in_err-divisor
unfolding share_words
returns-in_err-divisor c = rw (c.from_residual.ensures, ← c.word_in.ensures, c.in_err-divisor.was)

-- the multipliers stand behind the divisor
multiplied : (c : After-read_multipliers) → let d = c.in_ok-divisor.divisor in c.read_multipliers.result ≡ after_of c.args.w.now (read_multipliers c.args.n (drop d.at c.args.w.now))
multiplied c =
    let a = c.args in
    c.read_multipliers.ensures ∙ read_so a.w.now c.in_ok-divisor.divisor.at a.n (found a.w.now a.at 1 most_divisor (sym c.word_in.ensures ∙ c.in_ok-divisor.was)).inside

pub returns-in_err-next : goal.returns-in_err-next
unfolding share_words
returns-in_err-next c =
    rw (c.from_residual-in_err-next.ensures, ← c.word_in.ensures, c.in_ok-divisor.was, ← multiplied (goal.at.returns-in_err-next c).After-read_multipliers, c.in_err-next.was)

pub returns : goal.returns
unfolding share_words
returns c = rw (← c.word_in.ensures, c.in_ok-divisor.was, ← multiplied (goal.at.returns c).After-read_multipliers, c.in_ok-next.was)
