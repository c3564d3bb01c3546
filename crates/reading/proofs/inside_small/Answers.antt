-- `inside_small` meets its contract: `all_small` grows at its end, and word j of the slice is the one j places on from `at`.
use Rattle.std.proofs.Common.{◌≡◌, refl, ap, ◌∙◌, ◌+◌, ◌-◌, pos, get_or, take, drop, add-one, arith, rules, w32, SFits, to_z-of_z, length-take, get_or-take, get_or-drop}
use Rattle.words.specs.Words.{word, small, all_small}
use Rattle.reading.proofs.inside_small.Goals as goal

pub loop-x-init : goal.loop-x-init
unfolding all_small
loop-x-init c = refl

pub loop-x-preserved : goal.loop-x-preserved
unfolding all_small
loop-x-preserved c =
    let a = c.args in
    let j = c.loop-x.x-index in
    let n = a.at + a.count - a.at in
    let f : SFits w32 (get_or (take n (drop a.at a.words.now)) j (pos 0)) = search rules in
    let e : get_or (take n (drop a.at a.words.now)) j (pos 0) ≡ word a.words.now (a.at + j) =
    get_or-take n (drop a.at a.words.now) j (pos 0) (omega (arith, length-take n (drop a.at a.words.now))) ∙ get_or-drop a.at a.words.now j (pos 0) in
    let k : c.is_small-all.result ≡ small a.limit (word a.words.now (a.at + j)) = c.is_small-all.ensures ∙ ap (small a.limit) (to_z-of_z f ∙ e) in
    rw (add-one, ← c.loop-x.invariant, ← k) refl
