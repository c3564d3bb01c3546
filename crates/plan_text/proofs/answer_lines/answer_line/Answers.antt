-- The line of each case is the definition's for it.
use Rattle.std.proofs.Common.{◌≡◌, List, ◌++◌, ℕ, ℤ, length, drop, subst, sym}
use Rattle.answers.specs.Answers.{answer_of}
use Rattle.answers.specs.declared.Answer.{Answer}
use Rattle.plan_text.specs.Lines.{line_of}
use Rattle.plan_text.specs.PushLaws.{Pushed}
use Rattle.plan_text.proofs.PushLaws.{put_first}
use Rattle.plan_text.proofs.answer_lines.answer_line.Goals as goal

whole : (line : List ℕ) (values : List ℤ) {a b : Answer} {end : ℕ} {after : List ℕ} → a ≡ b → Pushed line 0 (line_of (answer_of b) values) end after
    → (end ≡ length (line_of (answer_of a) values)) × (after ≡ line_of (answer_of a) values ++ drop end line)
whole line values {a} {b} {end} {after} e p = put_first line (line_of (answer_of a) values) (subst (λ (x : Answer). Pushed line 0 (line_of (answer_of x) values) end after) (sym e) p)

pub returns-in-Safe : goal.returns-in-Safe
unfolding line_of
returns-in-Safe c =
    let w = whole c.args.line.now c.args.values.now c.in-Safe.is c.safe_line.ensures in
    record { value = w.0; line_after = w.1 }

pub returns-in-Trace : goal.returns-in-Trace
unfolding line_of
returns-in-Trace c =
    let w = whole c.args.line.now c.args.values.now c.in-Trace.is c.trace_line.ensures in
    record { value = w.0; line_after = w.1 }

pub returns-in-Refused : goal.returns-in-Refused
unfolding line_of
returns-in-Refused c =
    let w = whole c.args.line.now c.args.values.now c.in-Refused.is c.refused_line.ensures in
    record { value = w.0; line_after = w.1 }
