-- 000's valid paths (section 2.3): the labels of steps, and the grammar of their strings, with its nonterminals M and V. Document 01: "Runs are
-- 000's valid paths, generated from V (000's text once says M)".
use Rattle.std.specs.Prelude.{ℕ, List, [], ◌∷◌, ◌++◌, ℤ}
use Rattle.programs.specs.Program.{Program}
use Rattle.programs.specs.Runs.{State, Step, on_skip, on_assign, on_true, on_false, on_pass, on_fail, on_call, on_exit, Run, start, ◌then◌}

-- ---- labels

-- Σ(P): σ, and ⟨call, i, δ⟩ and ⟨ret, i, δ⟩, where i is the return point of a call and δ gives the locals of its caller their values
pub data Label : Type 0 where
  σ : Label
  call ret : (i : ℕ) (δ : List ℤ) → Label

-- Table 3, column α
unfoldable pub label : {p : Program} {s t : State} → Step p s t → Label
label (on_skip _) = σ
label (on_assign _) = σ
label (on_true _ _) = σ
label (on_false _ _) = σ
label (on_pass _ _) = σ
label (on_fail _ _) = σ
label (on_call {s} {return} _ _ _) = call return s.top.locals
label (on_exit {w = w} {return = return} _ _) = ret return w.caller.locals

-- α₁ .. αₙ of a run, first step first
unfoldable pub labels : {p : Program} {s : State} → Run p s → List Label
labels (start _ _ _ _ _ _) = []
labels (◌then◌ run step) = labels run ++ (label step ∷ [])

-- ---- the grammar

-- M, of "a same-level valid path": M → ε | σ | M M, and M → ⟨call, i, δ⟩ M ⟨ret, i, δ⟩. With any i and δ, where the report has those of Σ(P): the
-- labels of steps are in Σ(P).
pub data Level : List Label → Type 0 where
  nothing : Level []
  one : Level (σ ∷ [])
  join : {u v : List Label} → Level u → Level v → Level (u ++ v)
  matched : {u : List Label} {i : ℕ} {δ : List ℤ} → Level u → Level (call i δ ∷ (u ++ (ret i δ ∷ [])))

-- V, of "a valid path": V → ε | M V, and V → ⟨call, i, δ⟩ V
pub data Valid : List Label → Type 0 where
  none : Valid []
  level : {u v : List Label} → Level u → Valid v → Valid (u ++ v)
  unmatched : {v : List Label} {i : ℕ} {δ : List ℤ} → Valid v → Valid (call i δ ∷ v)
