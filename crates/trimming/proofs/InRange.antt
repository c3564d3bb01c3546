-- The sources of entailments are disjuncts that the certificate has, since they are listed from its disjuncts; and so are the targets that a witness
-- which works names, since it is shaped for their rows.
use Rattle.std.specs.Prelude.{Bool, true, false, ◌⊎◌, ℕ, zero, suc, ◌+◌, ◌<◌, T, ℤ}
use Rattle.std.proofs.Math.Option.{Option, none, some}
use mathlib.Core.List.Memᴰ
use mathlib.Core.List.{List, ◌++◌, map, Memᴰ}
use Rattle.std.proofs.Common.{inl, inr, arith}
use Rattle.std.proofs.Math.ListN.{length}
use Rattle.basics.proofs.Booleans.{parts}
use Rattle.basics.specs.Lists.{Each}
use Rattle.basics.proofs.Lists.{each_append, each_gathered, each_map, each_numbered, each_flat_numbered}
use Rattle.words.specs.Limits.{most_splits}
use Rattle.programs.specs.Program.{Statement, skip, assign, branch, assert, call, Program, statement_at}
use Rattle.certificates.specs.Certificate.{Disjunct, Certificate, path_edges, summary_edges}
use Rattle.certificates.specs.Guards.{cases, opposite, condition_cases}
use Rattle.certificates.specs.Entailments.{Entailment}
use Rattle.certificates.specs.Sources.{guard_from, return_from, sourced_statement, sourced_disjunct, sourced_vertex, sourced}
use Rattle.certificates.specs.Witnesses.{Witness, contradiction, target, split, under, other_side, shaped_tree, shaped, works_by}
use Rattle.certificates.proofs.WitnessCode.{present}
use Rattle.trimming.specs.Kept.{leaf_targets}
use Rattle.trimming.specs.InRange.{Exists, InRange}

module _ (p : Program) (c : Certificate) where
  exist_guards : (v yea nay i : ℕ) (d : Disjunct) (xs ys : List Disjunct) → i < length (path_edges c v) → Each (Exists c) (map (guard_from p c v yea i d) xs ++ map (guard_from p c v nay i d) ys)
  unfolding InRange
  exist_guards v yea nay i d xs ys h =
      each_append (Exists c) (map (guard_from p c v yea i d) xs) (map (guard_from p c v nay i d) ys) (each_map (Exists c) (guard_from p c v yea i d) xs (λ g. h)) (each_map (Exists c) (guard_from p c v nay i d) ys (λ g. h))

  exist_disjunct : (v : ℕ) (st : Option Statement) (i : ℕ) (d : Disjunct) → i < length (path_edges c v) → Each (Exists c) (sourced_disjunct p c v st i d)
  unfolding sourced_disjunct sourced_statement Each InRange
  exist_disjunct v (some (skip next)) i d h = (h, tt)
  exist_disjunct v (some (assign next x e)) i d h = (h, tt)
  exist_disjunct v (some (branch yea nay g)) i d h = exist_guards v yea nay i d (condition_cases g true) (condition_cases g false) h
  exist_disjunct v (some (assert next op e)) i d h = exist_guards v next 0 i d (cases op e) (cases (opposite op) e) h
  exist_disjunct v (some (call return callee actuals)) i d h =
      (h, each_numbered (Exists c) (return_from p c v return callee actuals i d) 0 (summary_edges c callee) (length (summary_edges c callee)) (omega arith) (λ l s b. (h, b)))
  exist_disjunct v none i d h = (h, tt)

  exist_vertex : (v : ℕ) → Each (Exists c) (sourced_vertex p c v)
  unfolding sourced_vertex
  exist_vertex v = each_flat_numbered (Exists c) (sourced_disjunct p c v (statement_at p v)) 0 (path_edges c v) (length (path_edges c v)) (omega arith) (λ i d h. exist_disjunct v (statement_at p v) i d h)

  pub sources_exist : Each (Exists c) (sourced p c)
  unfolding sourced
  sources_exist = unfold Each in (unfold InRange in tt, each_gathered (Exists c) (sourced_vertex p c) (length p.statements + length p.procedures) exist_vertex)

-- ---- targets

targets_inside : (d : ℕ) (e : Entailment) (w : Witness) → T (shaped_tree d e w) → (j : ℕ) → Memᴰ j (leaf_targets w) → j < length e.targets
unfolding shaped_tree leaf_targets under
targets_inside d e (contradiction ms) t j m = absurd (Memᴰ.not-nil m)
targets_inside d e (target i xs) t j (Memᴰ.head q) = omega (arith, present (length e.premises) e.targets i xs t)
targets_inside d e (target i xs) t j (Memᴰ.tail m) = absurd (Memᴰ.not-nil m)
targets_inside zero e (split r w v) t j m = absurd t
targets_inside (suc d) e (split r w v) t j m = go (Memᴰ.append_cases (leaf_targets w) m) (targets_inside d (under r e) w (search parts) j) (targets_inside d (under (other_side r) e) v (search parts) j)
  where
    go : Memᴰ j (leaf_targets w) ⊎ Memᴰ j (leaf_targets v) → (Memᴰ j (leaf_targets w) → j < length e.targets) → (Memᴰ j (leaf_targets v) → j < length e.targets) → j < length e.targets
    go (inl m) f g = f m
    go (inr m) f g = g m

pub targets_exist : (rule : ℕ → ℤ → ℤ → Bool) (e : Entailment) (w : Witness) → T (works_by rule e w) → (j : ℕ) → Memᴰ j (leaf_targets w) → j < length e.targets
unfolding works_by shaped
targets_exist rule e w t j m = targets_inside most_splits e w (search parts) j m
