-- One byte more is one step of `paste`, and a paste of all bytes is what `Pushed` says.
use Rattle.std.proofs.Common.{◌≡◌, length, refl, ◌∙◌, add-one, arith}
use Rattle.std.proofs.Math.Seq.{paste-suc}
use Rattle.plan_text.proofs.PushLaws.{put_all}
use Rattle.plan_text.proofs.answer_lines.push.Goals as goal

pub loop-i-preserved : goal.loop-i-preserved
loop-i-preserved c =
    let l = c.loop-i in
    rw (l.invariant, add-one l.i) (paste-suc c.args.line.now c.args.at c.args.bytes.now l.i 0 (omega arith) (omega arith))

pub returns : goal.returns
returns c =
    let l = c.loop-i in
    let e : l.i ≡ length c.args.bytes.now = omega arith in
    record { ends = refl; holds = (rw e at l.invariant) ∙ put_all c.args.line.now c.args.at c.args.bytes.now }
