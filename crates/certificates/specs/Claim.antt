-- Demand 3: what is claimed of a run of a program with a certificate.
use Rattle.std.specs.Prelude.{◌≡◌, ◌≢◌, ℕ, ◌+◌, take, ℤ}
use mathlib.Core.List.{List, ◌∷◌, ◌++◌, map, Memᴰ}
use Rattle.programs.specs.Program.{Program, parameters_of}
use Rattle.programs.specs.Runs.{Call, Waiting, State, AtExit, Run, visited}
use Rattle.certificates.specs.Certificate.{Certificate, Meets, path_edges, summary_edges}

-- "The error vertex is 0."
abbrev pub error_vertex : ℕ
error_vertex = 0

-- an open call with the globals that it is judged with
pub record OpenCall : Type 0 where
  pub call : Call
  pub globals : List ℤ

-- a state's open calls: the top one with "the globals now", each other with "those set aside" while it waits
unfoldable pub open_calls : State → List OpenCall
open_calls s = record { call = s.top; globals = s.globals } ∷ map (λ (w : Waiting). record { call = w.caller; globals = w.aside }) s.below

-- "An open call's place is its vertex, the call statement while it waits."
abbrev pub place : OpenCall → ℕ
place o = o.call.vertex

-- "An open call meets a path edge if each row's sum is at most 0, with the call's entry state in the columns at entry and, in the columns
-- now, the globals now (while it waits, those set aside) and then its locals."
unfoldable pub MeetsPathEdge : Certificate → OpenCall → Type 0
MeetsPathEdge c o = Meets (path_edges c (place o)) (o.call.entry ++ (o.globals ++ o.call.locals))

-- "A call standing at its exit meets a summary edge if each row's sum is at most 0 with the globals and parameters of its entry state and
-- the globals then."
unfoldable pub MeetsSummaryEdge : Program → Certificate → State → Type 0
MeetsSummaryEdge p c s = Meets (summary_edges c s.top.procedure) (take (p.globals + parameters_of p s.top.procedure) s.top.entry ++ s.globals)

-- "After that list the run doesn't stand at the error vertex; each open call, taken where it stands or where it made its pending call, meets
-- with its entry state one of its place's path edges; and each call that got to its exit met there one of its summary edges."
pub record Within (p : Program) (c : Certificate) {s : State} (run : Run p s) : Type 0 where
  pub no_error : s.top.vertex ≢ error_vertex
  pub open_calls_meet : (o : OpenCall) → Memᴰ o (open_calls s) → MeetsPathEdge c o
  pub exits_met : (t : State) → Memᴰ t (visited run) → AtExit p t.top → MeetsSummaryEdge p c t
