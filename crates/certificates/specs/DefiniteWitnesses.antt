-- A choice made definite, document 02, CR 13: with a condition <, >, ≤ or ≥ for `?` in a branch, each of that branch's entailments has one premise more,
-- its guard row, right after the disjunct's rows, and no other entailment changes. So the witnesses with zeros put in for it work.
use Rattle.std.proofs.Math.Path.{◌≡◌}
use Prim.Native.Nat.{ℕ, ◌+◌, ◌≤◌}
use Rattle.std.specs.Prelude.{Bool, cond, eqb}
use Rattle.std.proofs.Math.Bool.{true, false}
use mathlib.Core.List.{List, [], ◌∷◌}
use Rattle.std.proofs.Math.ListN.{length}
use Rattle.rows.specs.Rows.{Row}
use Rattle.programs.specs.Program.{Comparison, less, greater, at_most, at_least, equal, different}
use Rattle.certificates.specs.Entailments.{Entailment}
use Rattle.certificates.specs.Sources.{Sourced, vertex_of}
use Rattle.certificates.specs.Witnesses.{Witness}
use Rattle.certificates.specs.ZerosPutIn.{with_premise, with_zeros, lists_in}

-- ---- the witnesses

-- one of "that branch's entailments"
abbrev pub leaves : ℕ → Sourced → Bool
leaves v x = eqb (vertex_of x.source) v

-- "one multiplier 0 put in for the guard row right after the disjunct's": a `?` has no guard row, so the premises so far are the disjunct's rows
unfoldable pub definite_witness : ℕ → Sourced → Witness → Witness
definite_witness v x w = cond (leaves v x) (with_zeros (length x.entailment.premises) w) w

unfoldable pub definite_witnesses : ℕ → List Sourced → List Witness → List Witness
definite_witnesses v [] ws = ws
definite_witnesses v (x ∷ xs) [] = []
definite_witnesses v (x ∷ xs) (w ∷ ws) = definite_witness v x w ∷ definite_witnesses v xs ws

-- how many zeros are put in
unfoldable pub zeros_in : ℕ → List Sourced → List Witness → ℕ
zeros_in v [] ws = 0
zeros_in v (x ∷ xs) [] = 0
zeros_in v (x ∷ xs) (w ∷ ws) = cond (leaves v x) (lists_in w) 0 + zeros_in v xs ws

-- ---- entailments with one premise more, behind those that they had, where they leave v, and else the same

pub data Guarded (v : ℕ) : List Sourced → List Entailment → Type 0 where
  no_more : Guarded v [] []
  same : {x : Sourced} {xs : List Sourced} {es : List Entailment} → ¬ (vertex_of x.source ≡ v) → Guarded v xs es → Guarded v (x ∷ xs) (x.entailment ∷ es)
  more : {x : Sourced} {e : Entailment} {xs : List Sourced} {es : List Entailment} → vertex_of x.source ≡ v → (g : Row) → e ≡ with_premise (length x.entailment.premises) g x.entailment
      → Guarded v xs es → Guarded v (x ∷ xs) (e ∷ es)

-- ---- the two programs

-- "a condition with <, >, ≤ or ≥": these have one case a side
unfoldable pub is_inequality : Comparison → Bool
is_inequality less = true
is_inequality greater = true
is_inequality at_most = true
is_inequality at_least = true
is_inequality equal = false
is_inequality different = false
