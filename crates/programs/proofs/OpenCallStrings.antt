-- The strings of V are those that are read with a list of open calls: a call is put in front, and a return takes off the first, which has its
-- return point and its locals. The labels of a run are read so, since the open calls are then those that wait in its state: they are in V.
use Rattle.std.specs.Prelude.{◌≡◌, refl, ◌↔◌, ℕ, List, [], ◌∷◌, ◌++◌, ℤ}
use Rattle.std.proofs.Common.{sym, ◌∙◌, subst, arith, append_assoc}
use Rattle.std.proofs.Math.Option.{some, some-injective}
use Rattle.rows.specs.Rows.{Row}
use Rattle.programs.specs.Program as statements
use Rattle.programs.specs.Program.{Program, statement_at}
use Rattle.programs.specs.Runs.{Waiting, State, store, push, Step, on_skip, on_assign, on_true, on_false, on_pass, on_fail, on_call, on_exit, Run, start, ◌then◌, initial}
use Rattle.programs.specs.ValidPaths.{Label, σ, call, ret, label, labels, Level, nothing, one, join, matched, Valid, none, level, unmatched}
use Rattle.programs.specs.OpenCallStrings.{LeftOpen, Parsed, ReadTo, Reads, UnmatchedCall, above, alone, back, calls, done, returns, stays, valid}

reads_append : {a b c : List UnmatchedCall} {u v : List Label} → Reads a u b → Reads b v c → Reads a (u ++ v) c
reads_append done s = s
reads_append (stays r) s = stays (reads_append r s)
reads_append (calls r) s = calls (reads_append r s)
reads_append (returns r) s = returns (reads_append r s)

pub reads_split : (u : List Label) {v : List Label} {a c : List UnmatchedCall} → Reads a (u ++ v) c → (b : List UnmatchedCall) × Reads a u b × Reads b v c
reads_split [] {a = a} r = (a, done, r)
reads_split (σ ∷ u) (stays r) = let x = reads_split u r in (x.0, stays x.1, x.2)
reads_split (call i δ ∷ u) (calls r) = let x = reads_split u r in (x.0, calls x.1, x.2)
reads_split (ret i δ ∷ u) (returns r) = let x = reads_split u r in (x.0, returns x.1, x.2)

-- a return has a call that is open
pub none_open : {os rest : List UnmatchedCall} {i : ℕ} {δ : List ℤ} {u : List Label} → os ≡ [] → Reads os (ret i δ ∷ u) rest → ⊥
none_open e (returns r) = let z : ◌≡◌ {A = ℕ} 0 1 = cc in omega arith

-- ---- the grammar's strings are read

level_reads : {u : List Label} → Level u → (os : List UnmatchedCall) → Reads os u os
level_reads nothing os = done
level_reads one os = stays done
level_reads (join m k) os = reads_append (level_reads m os) (level_reads k os)
level_reads (matched {i = i} {δ} m) os = calls (reads_append (level_reads m (record { point = i; locals = δ } ∷ os)) (returns done))

valid_reads : {u : List Label} → Valid u → (os : List UnmatchedCall) → (rest : List UnmatchedCall) × Reads os u rest
valid_reads none os = (os, done)
valid_reads (level m t) os = let x = valid_reads t os in (x.0, reads_append (level_reads m os) x.1)
valid_reads (unmatched {i = i} {δ} t) os = let x = valid_reads t (record { point = i; locals = δ } ∷ os) in (x.0, calls x.1)

after_level : {os : List UnmatchedCall} {u v : List Label} → Level u → Parsed os v → Parsed os (u ++ v)
after_level m (valid t) = valid (level m t)
after_level {u = x} m (back {os = os} {u} {v} {i} {δ} k r) = subst (Parsed (record { point = i; locals = δ } ∷ os)) (append_assoc x u (ret i δ ∷ v)) (back (join m k) r)

after_call : {os : List UnmatchedCall} {u : List Label} {i : ℕ} {δ : List ℤ} → Parsed (record { point = i; locals = δ } ∷ os) u → Parsed os (call i δ ∷ u)
after_call (valid t) = valid (unmatched t)
after_call {os} {i = i} {δ} (back {u = u} {v = v} m r) = subst (λ (w : List Label). Parsed os (call i δ ∷ w)) (append_assoc u (ret i δ ∷ []) v) (after_level (matched m) r)

reads_parsed : {os rest : List UnmatchedCall} {u : List Label} → Reads os u rest → Parsed os u
reads_parsed done = valid none
reads_parsed (stays r) = after_level one (reads_parsed r)
reads_parsed (calls r) = after_call (reads_parsed r)
reads_parsed (returns r) = back nothing (reads_parsed r)

parsed_valid : {os : List UnmatchedCall} {u : List Label} → os ≡ [] → Parsed os u → Valid u
parsed_valid e (valid t) = t
parsed_valid e (back m r) = absurd (let z : ◌≡◌ {A = ℕ} 0 1 = cc in omega arith)

-- V: read from no open call on
pub valid_iff : (u : List Label) → Valid u ↔ ((rest : List UnmatchedCall) × Reads [] u rest)
valid_iff u = (λ t. valid_reads t [], λ x. parsed_valid refl (reads_parsed x.1))

-- ---- the labels of a run

pub same_return : {return back q r : ℕ} {actuals others : List Row} → some (statements.call return q actuals) ≡ some (statements.call back r others) → return ≡ back
same_return {return} {back} {q} {r} {actuals} {others} e = let d : statements.call return q actuals ≡ statements.call back r others = some-injective _ _ e in cc

module _ (p : Program) where
  return_read : {w : Waiting} {ws : List Waiting} {os : List UnmatchedCall} {return q : ℕ} {actuals : List Row} → statement_at p w.caller.vertex ≡ some (statements.call return q actuals) → LeftOpen p (w ∷ ws) os
      → (ReadTo p) os (ret return w.caller.locals ∷ []) ws
  return_read {w} {ws} {return = return} g (above {os = os} {return = point} d a) =
      let e : point ≡ return = same_return (sym d ∙ g) in
      record { rest = os; reads = subst (λ i. Reads (record { point = point; locals = w.caller.locals } ∷ os) (ret i w.caller.locals ∷ []) os) e (returns done); waiting = a }

  step_read : {s t : State} {os : List UnmatchedCall} (x : Step p s t) → LeftOpen p s.below os → (ReadTo p) os (label x ∷ []) t.below
  unfolding label store push
  step_read (on_skip g) a = record { rest = _; reads = stays done; waiting = a }
  step_read (on_assign g) a = record { rest = _; reads = stays done; waiting = a }
  step_read (on_true g t) a = record { rest = _; reads = stays done; waiting = a }
  step_read (on_false g t) a = record { rest = _; reads = stays done; waiting = a }
  step_read (on_pass g t) a = record { rest = _; reads = stays done; waiting = a }
  step_read (on_fail g t) a = record { rest = _; reads = stays done; waiting = a }
  step_read (on_call others o g) a = record { rest = _; reads = calls done; waiting = above g a }
  step_read (on_exit ex g) a = return_read g a

  run_read : {s : State} (run : Run p s) → (ReadTo p) [] (labels run) s.below
  unfolding labels initial
  run_read (start _ _ _ _ _ _) = record { rest = []; reads = done; waiting = alone }
  run_read (◌then◌ run step) = let x = run_read run in let y = step_read step x.waiting in record { rest = y.rest; reads = reads_append x.reads y.reads; waiting = y.waiting }

  -- "Runs are 000's valid paths, generated from V"
  pub run_valid : {s : State} (run : Run p s) → Valid (labels run)
  run_valid run = let x = run_read run in (valid_iff (labels run)).1 (x.rest, x.reads)

-- ---- which labels are unmatched, and from which nonterminal

unread : {os rest : List UnmatchedCall} → Reads os [] rest → os ≡ rest
unread done = refl

call_left : {rest : List UnmatchedCall} {i : ℕ} {δ : List ℤ} → rest ≡ [] → Reads [] (call i δ ∷ []) rest → ⊥
call_left e (calls r) = let d = unread r in let z : ◌≡◌ {A = ℕ} 0 1 = cc in omega arith

-- a call may stay unmatched in a string of V, and in none of M
pub call_unmatched : (i : ℕ) (δ : List ℤ) → Valid (call i δ ∷ []) × (Level (call i δ ∷ []) → ⊥)
call_unmatched i δ = (unmatched none, λ m. call_left refl (level_reads m []))

-- a return may not
pub return_matched : (i : ℕ) (δ : List ℤ) → Valid (ret i δ ∷ []) → ⊥
return_matched i δ t = none_open refl (valid_reads t []).1
