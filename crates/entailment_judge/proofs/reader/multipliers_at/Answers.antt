-- After i turns the first i multipliers are tested, and all of them are read if and only if they are there and none fails.
use Rattle.std.proofs.Common.{◌≡◌, ◌+◌, true, false, slice_index_or, pos, w32, SFits, refl, sym, ap, ◌∙◌, add-one, arith, rules}
use Rattle.std.proofs.lemmas.Int.{to_z-of_z}
use Rattle.entailment_judge.specs.WitnessReader.{all_multipliers}
use Rattle.entailment_judge.proofs.TestedMultipliers.{beyond, as_tested, many}
use Rattle.entailment_judge.proofs.reader.multipliers_at.Goals as goal

pub returns-then-words-at : goal.returns-then-words-at
returns-then-words-at c = let a = c.args in many a.words.now a.at a.n false (beyond a.words.now a.at a.n (omega arith))

pub returns-then-words-at-2 : goal.returns-then-words-at-2
returns-then-words-at-2 c = let a = c.args in many a.words.now a.at a.n false (beyond a.words.now a.at a.n (omega arith))

pub loop-i-init : goal.loop-i-init
unfolding all_multipliers
loop-i-init c = refl

pub loop-i-preserved : goal.loop-i-preserved
unfolding all_multipliers
loop-i-preserved c =
    let x = slice_index_or c.args.words.now (c.args.at + c.loop-i.i) (pos 0) in
    let f : SFits w32 x = search rules in
    let e = simp to_z-of_z at c.is_multiplier-one.ensures in
    rw (add-one, ← c.loop-i.invariant, ← e) refl

pub returns-then-all : goal.returns-then-all
returns-then-all c =
    let a = c.args in
    let e : a.n ≡ c.loop-i.i = omega arith in
    many a.words.now a.at a.n true (as_tested a.words.now a.at a.n (omega arith) (ap (all_multipliers a.words.now a.at) e ∙ sym c.loop-i.invariant ∙ c.if-all.true))

pub returns : goal.returns
returns c =
    let a = c.args in
    let e : a.n ≡ c.loop-i.i = omega arith in
    many a.words.now a.at a.n false (as_tested a.words.now a.at a.n (omega arith) (ap (all_multipliers a.words.now a.at) e ∙ sym c.loop-i.invariant ∙ c.if-all.false))
