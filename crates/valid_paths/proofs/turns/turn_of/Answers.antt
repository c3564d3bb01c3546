-- `turn_of` meets its contract: what is no statement returns, a call calls, and a statement of any other kind stays.
use Rattle.std.proofs.Common.{◌≡◌, ◌≤◌, refl, sym, ap, ◌∙◌, arith}
use Rattle.programs.specs.ProgramWords.{n, kind}
use Rattle.program_readers.specs.Kinds.{kind_number, kind_value}
use Rattle.program_readers.specs.declared.kinds.Kind.{Kind}
use Rattle.program_readers.specs.declared.kinds.Kind.TheVariants.{Call}
use Rattle.run_state.specs.Statements.{kind_there}
use Rattle.valid_paths.specs.TurnLaws.{other_returns, call_turns, other_stays, no_statement_there, statement_there, told_stays, told_calls, told_returns}
use Rattle.valid_paths.proofs.turns.turn_of.Goals as goal
use Rattle.valid_paths.proofs.turns.turn_of.Goals.{After-unwrap, Else-not-is_statement}

pub returns-then-not-is_statement : goal.returns-then-not-is_statement
returns-then-not-is_statement c =
    let p = c.args.program.now in
    told_returns p c.args.v (other_returns p c.args.v (no_statement_there p c.args.sizes c.requires.header.statements c.args.v (sym c.is_statement.ensures ∙ c.if-not-is_statement.true)))

-- a statement
there : (c : Else-not-is_statement) → (1 ≤ c.args.v) × (c.args.v ≤ n c.args.program.now)
there c = statement_there c.args.program.now c.args.sizes c.requires.header.statements c.args.v (sym c.is_statement.ensures ∙ c.if-not-is_statement.false)

pub unwrap-requires : goal.unwrap-requires
unwrap-requires c =
    let p = c.args.program.now in
    let (l, h) = there (goal.at.unwrap-requires c).Else-not-is_statement in
    kind_there p c.args.v c.requires.form l (omega (arith, h)) c.kind_inside.result c.kind_inside.ensures

-- the kind that is read, by its number
number_read : (c : After-unwrap) → kind_number c.unwrap.result ≡ kind c.args.program.now c.args.v
number_read c = ap kind_value (sym c.unwrap.ensures) ∙ c.kind_inside.ensures

pub returns-in-Call : goal.returns-in-Call
returns-in-Call c =
    let p = c.args.program.now in
    let o = goal.at.returns-in-Call c in
    let (l, h) = there o.Else-not-is_statement in
    told_calls p c.args.v (call_turns p c.args.v l h (sym (number_read o.After-unwrap) ∙ ap kind_number c.in-Call.is))

-- 5 is the number of calls alone
only_calls : (its : Kind) → kind_number its ≡ 5 → its ≡ Call
only_calls Call e = refl
only_calls its e = absurd (omega (arith, e))

pub returns-in_default : goal.returns-in_default
returns-in_default c =
    let p = c.args.program.now in
    let o = goal.at.returns-in_default c in
    let (l, h) = there o.Else-not-is_statement in
    told_stays p c.args.v (other_stays p c.args.v l h (λ e. c.in_default.not-Call (only_calls c.unwrap.result (number_read o.After-unwrap ∙ e))))
