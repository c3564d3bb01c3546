-- One value more is put behind those before it, in at most 21 bytes.
use Rattle.std.proofs.Common.{rules, SFits, List, ℕ, ℤ, pos, get_or, take, w64, sym, subst, arith, to_z-of_z}
use Rattle.plan_text.specs.Lines.{value, values_in}
use Rattle.plan_text.specs.PushLaws.{Pushed}
use Rattle.plan_text.proofs.PushLaws.{put_none, behind, values_next}
use Rattle.plan_text.proofs.answer_lines.push_values.Goals as goal

pub loop-i-init : goal.loop-i-init
unfolding values_in
loop-i-init c = record { short = omega arith; told = put_none c.args.line.now c.args.at }

pub loop-i-preserved : goal.loop-i-preserved
loop-i-preserved c =
    let p = c.push_value-end in
    let l = c.loop-i in
    let x = get_or c.args.values.now l.i (pos 0) in
    let f : SFits w64 x = search rules in
    let one = subst (λ (z : ℤ). Pushed l.line l.end (value z) p.result p.new.line) (to_z-of_z f) p.ensures.pushed in
    let told = behind c.args.line.now c.args.at (values_in (take l.i c.args.values.now)) (omega arith) l.invariant.told one in
    record {
      short = omega (arith, p.ensures.upper_bound, l.invariant.short);
      told = subst (λ (b : List ℕ). Pushed c.args.line.now c.args.at b p.result p.new.line) (sym (values_next c.args.values.now l.i (omega arith))) told;
    }
