-- Each step keeps the invariant, where each entailment of the list has a witness that works: the entailments of the disjunct that the call
-- meets at its vertex, at the values that it is judged with, give a disjunct of the vertex that the step goes to.
use Rattle.std.specs.Prelude.{◌+◌, T}
use mathlib.Core.List.Memᴰ
use mathlib.Core.List.{List, ◌++◌}
use Rattle.std.proofs.Math.IntN.{ℤ}
use Rattle.programs.specs.Program.{Program, formed}
use Rattle.programs.specs.Runs.{Call}
use Rattle.certificates.specs.Certificate.{Certificate}
use Rattle.certificates.specs.Entailments.{entailments}
use Rattle.certificates.specs.Witnesses.{Witness, all_work}
use Rattle.certificates.specs.Invariant.{CallMet}

-- the values that an open call is judged with
abbrev judged_at : List ℤ → Call → List ℤ
judged_at gs o = o.entry ++ (gs ++ o.locals)

module _ (p : Program) (c : Certificate) (ws : List Witness) (f : T (formed p)) (a : T (all_work (entailments p c) ws)) where
  -- ---- statements, at an open call that meets a path edge

  module _ (gs : List ℤ) (o : Call) (k : CallMet p c gs o) where
    abbrev pub here : List ℤ
    here = judged_at gs o
