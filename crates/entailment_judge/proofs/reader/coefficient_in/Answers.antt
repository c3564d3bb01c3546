-- The word that is read, or the end, tells whether there is one to test, and the test which case of `read_coefficient` holds.
use Rattle.std.proofs.Common.{◌≡◌, w32, SFits, sym, ◌∙◌, rules}
use Rattle.std.proofs.lemmas.Int.{to_z-of_z}
use Rattle.words.specs.Limits.{coefficient_limit}
use Rattle.words.specs.Words.{small}
use Rattle.entailment_judge.proofs.SplitWords.{word_read, nothing_read, coefficient_in, coefficient_out, coefficient_none}
use Rattle.entailment_judge.proofs.reader.coefficient_in.Goals.{After-is_small}
use Rattle.entailment_judge.proofs.reader.coefficient_in.Goals as goal

-- the test is of the word that was read
tested : (c : After-is_small) → c.is_small.result ≡ small coefficient_limit c.in_ok-x.x
tested c =
    let f : SFits w32 c.in_ok-x.x = search rules in
    simp to_z-of_z at c.is_small.ensures

pub returns-in_err-x : goal.returns-in_err-x
returns-in_err-x c =
    let a = c.args in
    rw c.from_residual.ensures (coefficient_none a.w.now a.at (nothing_read a.w.now a.at c.read_on-read.result c.read_on-read.ensures c.in_err-x.was))

pub returns-then-is_small : goal.returns-then-is_small
returns-then-is_small c =
    let a = c.args in
    let k = word_read a.w.now a.at c.read_on-read.result c.read_on-read.ensures c.in_ok-x.was in
    coefficient_in a.w.now a.at k.0 k.1 (sym (tested (goal.at.returns-then-is_small c).After-is_small) ∙ c.if-is_small.true)

pub returns : goal.returns
returns c =
    let a = c.args in
    let k = word_read a.w.now a.at c.read_on-read.result c.read_on-read.ensures c.in_ok-x.was in
    coefficient_out a.w.now a.at k.0 (sym (tested (goal.at.returns c).After-is_small) ∙ c.if-is_small.false)
