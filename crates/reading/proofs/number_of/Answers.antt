-- `number_of` meets its contract: by the sign of the word, and whether it is past its limit.
use Rattle.std.proofs.Common.{◌≡◌, sym, ◌∙◌, cond, to_z-of_z, le-leb}
use Rattle.std.proofs.lemmas.Bool.{lt-leb}
use Rattle.std.proofs.Math.Dec.{leb}
use Rattle.std.proofs.Math.IntN.{nat_abs}
use Rattle.words.specs.Words.{number}
use Rattle.reading.proofs.Laws.{number_in, number_out}
use Rattle.reading.proofs.Signs.{neg_out, pos_in}
use Rattle.reading.proofs.number_of.Goals as goal
use Rattle.reading.proofs.number_of.Goals.{Else-x-lt0}

-- the number that a word which isn't negative is
by_size : (c : Else-x-lt0) → number c.args.most c.args.x ≡ cond (leb (nat_abs c.args.x) c.args.most) (nat_abs c.args.x) 0
by_size c = number_in c.args.most c.args.x (nat_abs c.args.x) (sym (pos_in c.args.x (rw (to_z-of_z c.ranges.x) at c.if-x-lt0.false)))

pub returns-then-x-lt0-clause-value : goal.returns-then-x-lt0-clause-value
returns-then-x-lt0-clause-value c =
    sym (number_out c.args.most c.args.x (sym (neg_out c.args.x (rw (to_z-of_z c.ranges.x) at c.if-x-lt0.true))))

pub returns-then-most-m-clause-value : goal.returns-then-most-m-clause-value
returns-then-most-m-clause-value c =
    let h = rw (to_z-of_z c.ranges.x) at c.if-most-m.true in
    sym (by_size (goal.at.returns-then-most-m-clause-value c).Else-x-lt0 ∙ simp (lt-leb (nat_abs c.args.x) c.args.most h))

pub returns-clause-value : goal.returns-clause-value
returns-clause-value c =
    let h = rw (to_z-of_z c.ranges.x) at c.if-most-m.false in
    rw (to_z-of_z c.ranges.x) (sym (by_size (goal.at.returns-clause-value c).Else-x-lt0 ∙ simp (le-leb (nat_abs c.args.x) c.args.most h)))
