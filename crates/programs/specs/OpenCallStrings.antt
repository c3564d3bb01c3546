-- The strings of V are those that are read with a list of open calls: a call is put in front, and a return takes off the first, which has its
-- return point and its locals. The labels of a run are read so, since the open calls are then those that wait in its state: they are in V.
use Rattle.std.specs.Prelude.{◌≡◌, ℕ, List, [], ◌∷◌, ◌++◌, ℤ}
use Rattle.std.proofs.Math.Option.{some}
use Rattle.rows.specs.Rows.{Row}
use Rattle.programs.specs.Program as statements
use Rattle.programs.specs.Program.{Program, statement_at}
use Rattle.programs.specs.Runs.{Waiting}
use Rattle.programs.specs.ValidPaths.{Label, σ, call, ret, Level, Valid}

-- ⟨call, i, δ⟩, unmatched so far
pub record UnmatchedCall : Type 0 where
  pub point : ℕ
  pub locals : List ℤ

-- the open calls before a string, the string, and the open calls after it
pub data Reads : List UnmatchedCall → List Label → List UnmatchedCall → Type 0 where
  done : {os : List UnmatchedCall} → Reads os [] os
  stays : {os rest : List UnmatchedCall} {u : List Label} → Reads os u rest → Reads os (σ ∷ u) rest
  calls : {os rest : List UnmatchedCall} {u : List Label} {i : ℕ} {δ : List ℤ} → Reads (record { point = i; locals = δ } ∷ os) u rest → Reads os (call i δ ∷ u) rest
  returns : {os rest : List UnmatchedCall} {u : List Label} {i : ℕ} {δ : List ℤ} → Reads os u rest → Reads (record { point = i; locals = δ } ∷ os) (ret i δ ∷ u) rest

-- ---- what is read is the grammar's

-- with these calls open before it: a string of V, none of them returned from; or one of M, the return from the first, and so on with the others
pub data Parsed : List UnmatchedCall → List Label → Type 0 where
  valid : {os : List UnmatchedCall} {u : List Label} → Valid u → Parsed os u
  back : {os : List UnmatchedCall} {u v : List Label} {i : ℕ} {δ : List ℤ} → Level u → Parsed os v → Parsed (record { point = i; locals = δ } ∷ os) (u ++ (ret i δ ∷ v))

-- the calls that wait in a state are those that the labels have left open
pub data LeftOpen (p : Program) : List Waiting → List UnmatchedCall → Type 0 where
  alone : LeftOpen p [] []
  above : {w : Waiting} {rest : List Waiting} {os : List UnmatchedCall} {return q : ℕ} {actuals : List Row} → statement_at p w.caller.vertex ≡ some (statements.call return q actuals) → LeftOpen p rest os
      → LeftOpen p (w ∷ rest) (record { point = return; locals = w.caller.locals } ∷ os)

module _ (p : Program) where
  -- a string after which these calls wait
  pub record ReadTo (os : List UnmatchedCall) (u : List Label) (ws : List Waiting) : Type 0 where
    pub rest : List UnmatchedCall
    pub reads : Reads os u rest
    pub waiting : LeftOpen p ws rest
