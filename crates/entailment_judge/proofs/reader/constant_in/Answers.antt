-- The words that are read, or the end, tell whether both are there to test, and the test which case of `read_constant` holds.
use Rattle.std.proofs.Common.{◌≡◌, w32, SFits, sym, ◌∙◌, rules}
use Rattle.std.proofs.lemmas.Int.{to_z-of_z}
use Rattle.words.specs.RowWords.{is_constant}
use Rattle.entailment_judge.proofs.SplitWords.{word_read, nothing_read, constant_in, constant_out, constant_cut, constant_none}
use Rattle.entailment_judge.proofs.reader.constant_in.Goals.{After-is_constant}
use Rattle.entailment_judge.proofs.reader.constant_in.Goals as goal

-- the test is of the words that were read
tested : (c : After-is_constant) → c.is_constant.result ≡ is_constant c.in_ok-x.x c.in_ok-y.y
tested c =
    let f : SFits w32 c.in_ok-x.x = search rules in
    let g : SFits w32 c.in_ok-y.y = search rules in
    simp to_z-of_z at c.is_constant.ensures

pub returns-in_err-x : goal.returns-in_err-x
returns-in_err-x c =
    let a = c.args in
    let r = c.read_on-first in
    rw c.from_residual.ensures (constant_none a.w.now a.at (nothing_read a.w.now a.at r.result r.ensures c.in_err-x.was))

pub returns-in_err-y : goal.returns-in_err-y
returns-in_err-y c =
    let w = c.args.w.now in
    let r = c.read_on-first in
    let s = c.read_on-second in
    let h = word_read w c.args.at r.result r.ensures c.in_ok-x.was in
    rw c.from_residual-in_err-y.ensures (constant_cut w c.args.at r.result.at h.0 (nothing_read w r.result.at s.result s.ensures c.in_err-y.was))

pub returns-then-is_constant : goal.returns-then-is_constant
returns-then-is_constant c =
    let w = c.args.w.now in
    let r = c.read_on-first in
    let s = c.read_on-second in
    let h = word_read w c.args.at r.result r.ensures c.in_ok-x.was in
    let k = word_read w r.result.at s.result s.ensures c.in_ok-y.was in
    constant_in w c.args.at r.result.at h.0 k.0 k.1 (sym (tested (goal.at.returns-then-is_constant c).After-is_constant) ∙ c.if-is_constant.true)

pub returns : goal.returns
returns c =
    let w = c.args.w.now in
    let r = c.read_on-first in
    let s = c.read_on-second in
    let h = word_read w c.args.at r.result r.ensures c.in_ok-x.was in
    let k = word_read w r.result.at s.result s.ensures c.in_ok-y.was in
    constant_out w c.args.at r.result.at h.0 k.0 (sym (tested (goal.at.returns c).After-is_constant) ∙ c.if-is_constant.false)
