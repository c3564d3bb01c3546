-- The entailments of a trimmed certificate are those of the certificate whose sources are kept, in their order, with new numbers and toward what is left
-- of their targets: premises and image stay, since the kept disjuncts do.
use Rattle.std.specs.Prelude.{Bool}
use Rattle.std.proofs.Math.Bool.{cond}
use mathlib.Core.List.{List, [], ◌∷◌}
use Prim.Native.Nat.{ℕ}
use Rattle.programs.specs.Program.{Program}
use Rattle.certificates.specs.Certificate.{Disjunct, Certificate}
use Rattle.certificates.specs.Entailments.{Entailment}
use Rattle.certificates.specs.Sources.{of_vertex, of_summary, edges_of, Source, from_start, from_path, from_return, Sourced}
use Rattle.trimming.specs.Kept.{Flags, keeps}
use Rattle.trimming.specs.KeptMembers.{new_number}
use Rattle.trimming.specs.Trimmed.{trimmed}

-- with other targets
unfoldable pub toward : List Disjunct → Entailment → Entailment
toward ds e = record { columns = e.columns; premises = e.premises; image = e.image; targets = ds }

-- a kept source, by its new numbers
unfoldable pub renumbered_source : Flags → Source → Source
renumbered_source F from_start = from_start
renumbered_source F (from_path v i) = from_path v (new_number (F (of_vertex v)) i)
renumbered_source F (from_return v i q l) = from_return v (new_number (F (of_vertex v)) i) q (new_number (F (of_summary q)) l)

module _ (F : Flags) (c : Certificate) where
  -- a kept entailment, with new numbers and what is left of its targets
  unfoldable pub trimmed_one : Sourced → Sourced
  trimmed_one x = record { source = renumbered_source F x.source; leads_to = x.leads_to; entailment = toward (edges_of (trimmed F c) x.leads_to) x.entailment }

  -- those whose sources are kept
  unfoldable pub trimmed_all : List Sourced → List Sourced
  trimmed_all [] = []
  trimmed_all (x ∷ xs) = cond (keeps F x.source) (trimmed_one x ∷ trimmed_all xs) (trimmed_all xs)

  abbrev pub c' : Certificate
  c' = trimmed F c

  module _ (p : Program) (v : ℕ) where
    abbrev pub f : ℕ → Bool
    f = F (of_vertex v)
