-- Demand 3 over decoded programs and certificates: where each entailment has a witness that works, every run, whatever its start, its
-- length, its depth and its mixture of steps, stays within the certificate. By induction over the list of steps.
use Rattle.std.proofs.Common.{sym}
use Rattle.std.proofs.Math.Path.{subst}
use Rattle.std.specs.Prelude.{ℕ, T, ℤ}
use mathlib.Core.List.Memᴰ
use mathlib.Core.List.{List, ◌++◌, map, Memᴰ}
use Rattle.programs.specs.Program.{Program, formed}
use Rattle.programs.specs.Runs.{Waiting, State, AtExit, Run, start, ◌then◌, visited}
use Rattle.certificates.specs.Certificate.{Certificate, Meets, path_edges}
use Rattle.certificates.specs.Entailments.{entailments}
use Rattle.certificates.specs.Witnesses.{Witness, all_work}
use Rattle.certificates.specs.Claim.{OpenCall, open_calls, MeetsPathEdge, MeetsSummaryEdge, Within}
use Rattle.certificates.specs.Invariant.{BelowMet, bottom, waits, StateMet}
use Rattle.certificates.proofs.StepsMeet.{run_met, initial_met, exit_met, never_zero}
use Rattle.certificates.specs.Soundness.{waiting}

module _ (p : Program) (c : Certificate) where
  below_meet : {q : ℕ} {entry : List ℤ} {below : List Waiting} → BelowMet p c q entry below → (o : OpenCall) → Memᴰ o (map (waiting p c) below) → MeetsPathEdge c o
  unfolding MeetsPathEdge
  below_meet bottom o m = absurd (Memᴰ.not-nil m)
  below_meet (waits others g e k b) o (Memᴰ.head q) = subst (MeetsPathEdge c) (sym q) k.meets
  below_meet (waits others g e k b) o (Memᴰ.tail m) = below_meet b o m

  open_calls_meet_lem : {s : State} → StateMet p c s → (o : OpenCall) → Memᴰ o (open_calls s) → MeetsPathEdge c o
  unfolding open_calls MeetsPathEdge
  open_calls_meet_lem i o (Memᴰ.head q) = subst (MeetsPathEdge c) (sym q) i.top_met.meets
  open_calls_meet_lem i o (Memᴰ.tail m) = below_meet i.below_met o m

module _ (p : Program) (c : Certificate) (ws : List Witness) (f : T (formed p)) (a : T (all_work (entailments p c) ws)) where
  exit_meets : {s : State} → StateMet p c s → AtExit p s.top → MeetsSummaryEdge p c s
  unfolding MeetsSummaryEdge
  exit_meets {s} i e = exit_met p c ws f a s.globals s.top i.top_met e

  exits_met_lem : {s : State} (run : Run p s) (t : State) → Memᴰ t (visited run) → AtExit p t.top → MeetsSummaryEdge p c t
  unfolding visited
  exits_met_lem (start gs arguments others hg ha ho) t (Memᴰ.head q) e = exit_meets (subst (StateMet p c) (sym q) (initial_met p c ws f a gs arguments others hg ha ho)) e
  exits_met_lem (start gs arguments others hg ha ho) t (Memᴰ.tail m) e = absurd (Memᴰ.not-nil m)
  exits_met_lem (◌then◌ run step) t (Memᴰ.head q) e = exit_meets (subst (StateMet p c) (sym q) (run_met p c ws f a (◌then◌ run step))) e
  exits_met_lem (◌then◌ run step) t (Memᴰ.tail m) e = exits_met_lem run t m e

  pub sound : {s : State} (run : Run p s) → Within p c run
  sound {s} run =
      let i : StateMet p c s = run_met p c ws f a run in
      record {
        no_error = λ e. never_zero p c ws f a _ (subst (λ v. Meets (path_edges c v) (s.top.entry ++ (s.globals ++ s.top.locals))) e i.top_met.meets);
        open_calls_meet = open_calls_meet_lem p c i;
        exits_met = exits_met_lem run;
      }
