-- The word that is read, or the end, tells which case of `splits_at` holds.
use Rattle.std.proofs.Common.{w32, w64, SFits, ◌∙◌, rules}
use mir.Facts.{to_z-of_z, sfits_widen}
use Rattle.entailment_judge.proofs.SplitWords.{splits_by, splits_not}
use Rattle.entailment_judge.proofs.reader.splits.Goals as goal

pub returns-in-Some : goal.returns-in-Some
returns-in-Some c =
    let a = c.args in
    let f : SFits w32 c.in-Some.x = search rules in
    (rw (to_z-of_z f, to_z-of_z (sfits_widen {w' = w64} tt f)) at c.same64.ensures) ∙ splits_by a.w.now a.at c.read_on-read.result c.read_on-read.ensures c.in-Some.is

pub returns-in-None : goal.returns-in-None
returns-in-None c = let a = c.args in splits_not a.w.now a.at c.read_on-read.result c.read_on-read.ensures c.in-None.is
