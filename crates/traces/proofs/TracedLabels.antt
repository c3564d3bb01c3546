-- The labels that are read in a replay, step by step, are those of its run.
use Rattle.std.specs.Prelude.{◌≡◌, ℤ}
use Rattle.std.proofs.Math.Path.{refl, sym, ap, ap₂}
use Rattle.std.proofs.Common.{◌∙◌, add-one}
use Prim.Native.Nat.{ℕ, zero, suc, ◌+◌, ◌-◌, ◌≤◌}
use native.Mathlib.Omega.{arith}
use mathlib.Core.List.{List, [], ◌∷◌, ◌++◌, Memᴰ, append_assoc}
use Rattle.programs.specs.Runs.{State, Run, start, ◌then◌, visited, origin, entered_with, entry_values}
use Rattle.programs.proofs.RunWidths.{run_wide}
use Rattle.programs.specs.Moves.{configuration}
use Rattle.programs.specs.ValidPaths.{Label, labels}
use Rattle.programs.proofs.MoveLabels.{label_from_lem}
use Rattle.programs.specs.ProgramForm.{ProgramForm}
use Rattle.programs.proofs.Formed.{program_formed}
use Rattle.programs.specs.Decode as decode
use Rattle.traces.specs.TraceWords.{N, listed_entry_values}
use Rattle.traces.specs.TraceForm.{TraceForm}
use Rattle.traces.specs.TracedRuns.{Limited, listed_start, listed_vertices, Traced}
use Rattle.traces.specs.ReplayRuns.{places_of}
use Rattle.traces.proofs.ReplayRuns.{visited_not, listed_not, heads, traced_replays}
use Rattle.traces.specs.Stretches.{label_at, labels_over, labels_to}
use Rattle.traces.proofs.StretchLaws.{labels_append, label_at_lem}
use Rattle.traces.specs.TracedLabels.{plan}

module _ (program witness : List ℤ) (f : ProgramForm program) (g : TraceForm program witness) where
  labels_last : (i : ℕ) → labels_over program witness 0 (suc i) ≡ labels_over program witness 0 i ++ (label_at program witness i ∷ [])
  unfolding labels_over
  labels_last i =
      let e : 0 + i ≡ i = omega arith in
      ap (labels_over program witness 0) (sym (add-one i)) ∙ (labels_append program witness 0 i 1 ∙ ap (λ m. labels_over program witness 0 i ++ (label_at program witness m ∷ [])) e)

  run_labels : (i : ℕ) {s : State} (run : Run (plan program witness f g) s) (left : List ℤ) → i ≤ N program witness → origin run ≡ listed_start program witness
      → places_of program witness f g (visited run) ≡ listed_vertices program witness i → ((t : State) → Memᴰ t (visited run) → Limited t) → listed_entry_values program witness ≡ entry_values run ++ left
      → labels run ≡ labels_over program witness 0 i
  unfolding visited origin entry_values listed_vertices labels
  run_labels zero (start _ _ _ _ _ _) left h o q l u = unfold labels_over in refl
  run_labels (suc i) (start _ _ _ _ _ _) left h o q l u = absurd (listed_not program witness f g i (heads program witness f g q).1)
  run_labels zero (◌then◌ run step) left h o q l u = absurd (visited_not program witness f g run (heads program witness f g q).1)
  run_labels (suc i) (◌then◌ {s} run step) left h o q l u =
      let before : Traced program witness i =
      record { state = s; run = run; begins = o; listed = (heads program witness f g q).1; limited = λ t m. l t (Memᴰ.tail m); left = entered_with step ++ left; enters = u ∙ append_assoc (entry_values run) (entered_with step) left } in
      ap₂ (λ (x : List Label) (y : Label). x ++ (y ∷ []))
      (run_labels i run (entered_with step ++ left) (omega arith) o (heads program witness f g q).1 (λ t m. l t (Memᴰ.tail m)) (u ∙ append_assoc (entry_values run) (entered_with step) left))
      (label_from_lem (plan program witness f g) (run_wide (plan program witness f g) (program_formed program f) run).top.low step
      ∙ sym (label_at_lem program witness i (configuration s) (entered_with step ++ left) (traced_replays program witness f g i before (omega arith) (λ e. absurd (omega arith)))))
      ∙ sym (labels_last i)

  pub traced_labels : (i : ℕ) (x : Traced program witness i) → i ≤ N program witness → labels x.run ≡ labels_to program witness 0 i
  traced_labels i x h =
      let e : i ≡ i - 0 = omega arith in
      run_labels i x.run x.left h x.begins x.listed x.limited x.enters ∙ ap (labels_over program witness 0) e
