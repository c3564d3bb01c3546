-- `copy_words` meets its contract: after i turns the first i words are there.
use Rattle.std.proofs.Common.{◌+◌, pos, get_or, arith, rules, w32, SFits, to_z-of_z}
use Rattle.layout_writers.specs.Runs.{copied_next}
use Rattle.layout_writers.proofs.copy_words.Goals as goal

pub loop-i-preserved : goal.loop-i-preserved
loop-i-preserved c =
    let a = c.args in
    let x : SFits w32 (get_or a.words.now (a.at + c.loop-i.i) (pos 0)) = search rules in
    rw (to_z-of_z x) (copied_next a.words.now a.buffer.now a.at a.to c.loop-i.i (omega arith) c.loop-i.invariant)
