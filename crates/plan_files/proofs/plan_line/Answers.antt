-- The words of each file stand at the front of their buffer, and those are checked.
use Rattle.std.proofs.Common.{List, ℕ, ℤ, ◌++◌, length, take, drop, ap, ◌∙◌}
use Rattle.plan_text.specs.ByteWords.{file_words}
use Rattle.plan_files.specs.PlanLines.{check_line, plan_line, at_front}
use Rattle.plan_files.proofs.plan_line.Goals as goal

pub returns : goal.returns
unfolding plan_line
returns c =
    let r = c.check_line in
    let n = c.file_words-n in
    let m = c.file_words-m in
    let words = ap (λ (l : List ℤ). check_line l (take m.result m.new.words)) (at_front (file_words c.args.program.now) _ n.ensures.value n.ensures.words_after) in
    let e = words ∙ ap (check_line (file_words c.args.program.now)) (at_front (file_words c.args.witness.now) _ m.ensures.value m.ensures.words_after) in
    record { value = r.ensures.value ∙ ap length e; line_after = r.ensures.line_after ∙ ap (λ (l : List ℕ). l ++ drop r.result c.args.line.now) e }
