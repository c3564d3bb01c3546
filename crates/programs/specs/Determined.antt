-- A step is determined by the state that it leaves, the vertex that it goes to and the values that it enters a procedure with: the
-- configuration is (`step_moves`), and what a state has beside it, the entry states and the globals set aside, follows from the depth of the
-- calls.
use Rattle.std.specs.Prelude.{cond, List, [], ◌∷◌, ◌++◌, eqb, ltb, ℤ, length, drop, get_or}
use Rattle.programs.specs.Runs.{Call, Waiting, State}
use Rattle.programs.specs.Moves.{Frame, Configuration}

abbrev no_waiting : Waiting
no_waiting = record { caller = record { procedure = 0; vertex = 0; locals = []; entry = [] }; aside = [] }

-- a frame with an entry state
abbrev with_entry : Frame → List ℤ → Call
with_entry f entry = record { procedure = f.procedure; vertex = f.vertex; locals = f.locals; entry = entry }

-- the state after a step from s, by the configuration after it: of the same call, of a call that s made, or of the call that waited in s
unfoldable pub rebuilt : State → Configuration → State
rebuilt s m =
    cond (eqb (length m.below) (length s.below))
    (record { globals = m.globals; top = with_entry m.top s.top.entry; below = s.below })
    (cond (ltb (length s.below) (length m.below))
    (record { globals = m.globals; top = with_entry m.top (m.globals ++ m.top.locals); below = record { caller = s.top; aside = s.globals } ∷ s.below })
    (record { globals = m.globals; top = with_entry m.top (get_or s.below 0 no_waiting).caller.entry; below = drop 1 s.below }))
