-- `compares` meets its contract, comparison by comparison; `comparison` takes a choice for the last.
use Rattle.std.proofs.Common.{◌≡◌, inl, inr, pos, rules, w64, of_z, to_z-of_z}
use Rattle.std.specs.Prelude.{nat_eq}
use Rattle.basics.specs.Integers.{eq_z}
use Rattle.programs.specs.Program.{compares}
use Rattle.programs.specs.Decode.{comparison}
use Rattle.run_state.proofs.expressions.compares.Goals as goal

pub returns-in-Less : goal.returns-in-Less
unfolding compares comparison
returns-in-Less c = simp (to_z-of_z c.ranges.x, c.in-Less.is)

pub returns-in-Greater : goal.returns-in-Greater
unfolding compares comparison
returns-in-Greater c = simp (to_z-of_z c.ranges.x, c.in-Greater.is)

pub returns-in-AtMost : goal.returns-in-AtMost
unfolding compares comparison
returns-in-AtMost c = simp (to_z-of_z c.ranges.x, c.in-AtMost.is)

pub returns-in-AtLeast : goal.returns-in-AtLeast
unfolding compares comparison
returns-in-AtLeast c = simp (to_z-of_z c.ranges.x, c.in-AtLeast.is)

pub returns-in-Equal : goal.returns-in-Equal
unfolding compares comparison
returns-in-Equal c =
    let e : nat_eq (of_z w64 c.args.x) 0 ≡ eq_z c.args.x (pos 0) = search rules in
    simp (e, c.in-Equal.is)

pub returns-in-Different : goal.returns-in-Different
unfolding compares comparison
returns-in-Different c =
    let e : nat_eq (of_z w64 c.args.x) 0 ≡ eq_z c.args.x (pos 0) = search rules in
    elim c.in-Different.is [ inl o ↦ simp (e, o) | inr o ↦ simp (e, o) ]
