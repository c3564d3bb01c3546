-- `conclude` meets its contract: one law for each way that the search can end.
use Rattle.std.proofs.Common.{sym}
use Rattle.answers.specs.Answers.{number_of}
use Rattle.judge.specs.Conclusion.{concluded_ended, concluded_left, concluded_safe}
use Rattle.judge.proofs.conclude.Goals as goal

pub returns-then-at-w : goal.returns-then-at-w
returns-then-at-w c =
    let a = c.args in
    rw (c.at.ensures, c.in-Ok.is) (sym (concluded_left a.w.now a.start c.in-Ok.through.at c.in-Ok.through.held c.if-at-w.true))

pub returns-in-Err : goal.returns-in-Err
returns-in-Err c =
    let a = c.args in
    rw (c.at-in-Err.ensures, c.in-Err.is) (sym (concluded_ended a.w.now a.start (number_of c.in-Err.ended.reason) c.in-Err.ended.at (rw c.in-Err.is at c.requires.inside_words)))

pub returns-else-at-w : goal.returns-else-at-w
returns-else-at-w c =
    let a = c.args in
    rw c.in-Ok.is (sym (concluded_safe a.w.now a.start c.in-Ok.through.at c.in-Ok.through.held c.if-at-w.false))
