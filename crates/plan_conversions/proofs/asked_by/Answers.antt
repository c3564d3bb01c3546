-- The three comparisons are those of the definition.
use Rattle.std.proofs.Common.{◌≡◌, false, refl, sym, ◌∙◌}
use Rattle.plan_conversions.specs.Asked.{same_bytes, sparse_word, dense_word, trimmed_word, asked_by}
use Rattle.plan_conversions.proofs.AskedLaws.{same_test}
use Rattle.plan_conversions.proofs.asked_by.Goals as goal
use Rattle.plan_conversions.proofs.asked_by.Goals.{After-same, After-same-2, After-same-3}

-- what each comparison found
first : (c : After-same) → c.same.result ≡ same_bytes c.args.argument.now sparse_word
first c = same_test c.args.argument.now sparse_word c.same.result c.same.ensures

second : (c : After-same-2) → c.same-2.result ≡ same_bytes c.args.argument.now dense_word
second c = same_test c.args.argument.now dense_word c.same-2.result c.same-2.ensures

third : (c : After-same-3) → c.same-3.result ≡ same_bytes c.args.argument.now trimmed_word
third c = same_test c.args.argument.now trimmed_word c.same-3.result c.same-3.ensures

-- that neither of the first two words is there
neither : (c : After-same-3) → (same_bytes c.args.argument.now sparse_word ≡ false) × (same_bytes c.args.argument.now dense_word ≡ false)
neither c =
    let argument = c.args.argument.now in
    (sym (same_test argument sparse_word c.same.result c.same.ensures) ∙ c.if-same.false, sym (same_test argument dense_word c.same-2.result c.same-2.ensures) ∙ c.if-same-2.false)

pub returns-then-same : goal.returns-then-same
unfolding asked_by
returns-then-same c = rw (← first (goal.at.returns-then-same c).After-same, c.if-same.true) refl

pub returns-then-same-2 : goal.returns-then-same-2
unfolding asked_by
returns-then-same-2 c =
    rw (← first (goal.at.returns-then-same-2 c).After-same, c.if-same.false, ← second (goal.at.returns-then-same-2 c).After-same-2, c.if-same-2.true) refl

pub returns-then-same-3 : goal.returns-then-same-3
unfolding asked_by
returns-then-same-3 c = let a = (goal.at.returns-then-same-3 c).After-same-3 in rw ((neither a).0, (neither a).1, ← third a, c.if-same-3.true) refl

pub returns : goal.returns
unfolding asked_by
returns c = let a = (goal.at.returns c).After-same-3 in rw ((neither a).0, (neither a).1, ← third a, c.if-same-3.false) refl
