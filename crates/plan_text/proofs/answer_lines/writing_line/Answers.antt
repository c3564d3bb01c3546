-- The line of each case is the definition's for it.
use Rattle.std.proofs.Common.{◌≡◌, List, ◌++◌, ℕ, length, drop, subst, sym, Result}
use Rattle.answers.specs.declared.Refusal.{Refusal}
use Rattle.plan_text.specs.Lines.{writing_line}
use Rattle.plan_text.specs.PushLaws.{Pushed}
use Rattle.plan_text.proofs.PushLaws.{put_first}
use Rattle.plan_text.proofs.answer_lines.writing_line.Goals as goal

whole : (line : List ℕ) {a b : Result ℕ Refusal} {end : ℕ} {after : List ℕ} → a ≡ b → Pushed line 0 (writing_line b) end after
    → (end ≡ length (writing_line a)) × (after ≡ writing_line a ++ drop end line)
whole line {a} {b} {end} {after} e p = put_first line (writing_line a) (subst (λ (x : Result ℕ Refusal). Pushed line 0 (writing_line x) end after) (sym e) p)

pub returns-in-Ok : goal.returns-in-Ok
returns-in-Ok c =
    let w = whole c.args.line.now c.in-Ok.is c.written_line.ensures in
    record { value = w.0; line_after = w.1 }

pub returns-in-Err : goal.returns-in-Err
unfolding writing_line
returns-in-Err c =
    let w = whole c.args.line.now c.in-Err.is c.refused_line.ensures in
    record { value = w.0; line_after = w.1 }
