-- The word that is read, or the end, tells which case of `next_in` holds, and each test which case of `ranged`.
use Rattle.std.proofs.Common.{◌≡◌, List, ℤ, ℕ, w32, SFits, sym, ap, ◌∙◌, rules}
use borrow.Author.Tests.{le-ltb, lt-ltb}
use Rattle.std.proofs.lemmas.Int.{to_z-of_z}
use Rattle.entailment_judge.specs.WitnessReader.{ranged, next_in, read_at, word_in}
use Rattle.entailment_judge.specs.declared.reader.ReadWord.{ReadWord}
use Rattle.entailment_judge.proofs.reader.word_in.Goals.{After-nat_of}
use Rattle.entailment_judge.proofs.reader.word_in.Goals as goal

-- what was read is tested
heard : (words : List ℤ) (at low high : ℕ) (x : ReadWord) → x ≡ read_at words at → word_in words at low high ≡ next_in low high x.at x.next
unfolding word_in
heard words at low high x e = sym (ap (λ (y : ReadWord). next_in low high y.at y.next) e)

-- the range test of the word that was read
tested : (c : After-nat_of) → let a = c.args in word_in a.words.now a.at a.low a.high ≡ ranged a.low a.high c.read_on-read.result.at c.nat_of.result
tested c =
    let a = c.args in
    let after = c.read_on-read.result.at in
    let f : SFits w32 c.in_ok-x.x = search rules in
    heard a.words.now a.at a.low a.high c.read_on-read.result c.read_on-read.ensures
    ∙ ap (next_in a.low a.high after) c.in_ok-x.was
    ∙ ap (ranged a.low a.high after) (sym (simp to_z-of_z at c.nat_of.ensures))

pub returns-in_err-x : goal.returns-in_err-x
returns-in_err-x c =
    let a = c.args in
    let r = c.read_on-read in
    rw c.from_residual.ensures (sym (heard a.words.now a.at a.low a.high r.result r.ensures ∙ ap (next_in a.low a.high r.result.at) c.in_err-x.was))

pub returns-in_err-number : goal.returns-in_err-number
returns-in_err-number c = rw c.from_residual-in_err-number.ensures (simp (tested (goal.at.returns-in_err-number c).After-nat_of, c.in_err-number.was))

pub returns-then-number-low : goal.returns-then-number-low
returns-then-number-low c = simp (tested (goal.at.returns-then-number-low c).After-nat_of, c.in_ok-number.was, lt-ltb _ _ c.if-number-low.true)

pub returns-then-high-number : goal.returns-then-high-number
returns-then-high-number c =
    simp (tested (goal.at.returns-then-high-number c).After-nat_of, c.in_ok-number.was, le-ltb _ _ c.if-number-low.false, lt-ltb _ _ c.if-high-number.true)

pub returns : goal.returns
returns c =
    simp (tested (goal.at.returns c).After-nat_of, c.in_ok-number.was, le-ltb _ _ c.if-number-low.false, le-ltb _ _ c.if-high-number.false)
