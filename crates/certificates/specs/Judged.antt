-- What a judgement's outcome says. It comes through if and only if the words begin with a witness that works for each entailment; and it
-- ends if and only if such words lead to an entailment where no shaped witness's words follow (6), or those of one that doesn't fit (7).
-- The outcome is decided so because the words are a prefix code: at each entailment they begin with one shaped witness at most.
use Rattle.std.specs.Prelude.{◌≡◌, ◌⊎◌, not, List, ◌∷◌, ◌++◌, ℕ, ◌+◌, T, ℤ, length}
use Rattle.certificates.specs.Entailments.{Entailment}
use Rattle.certificates.specs.Witnesses.{Witness, encode, encode_all, shaped, fits, all_work}
use Rattle.certificates.specs.Judgement.{Progress, running, ended}
use Rattle.certificates.specs.WitnessCode.{Unreadable}

-- ---- what the outcomes mean

-- the words begin with a witness that works for each entailment, and the count grows by the entailments
pub record Held (es : List Entailment) (words rest : List ℤ) (n m : ℕ) : Type 0 where
  pub witnesses : List Witness
  pub work : T (all_work es witnesses)
  pub spelled : words ≡ encode_all witnesses ++ rest
  pub counted : m ≡ n + length es

-- the judgement comes to an entailment, with the words `left` from its first on, after entailments that all held
pub record Stopped (es : List Entailment) (words left : List ℤ) : Type 0 where
  pub earlier : List Entailment
  pub at : Entailment
  pub later : List Entailment
  pub listed : es ≡ earlier ++ (at ∷ later)
  pub witnesses : List Witness
  pub work : T (all_work earlier witnesses)
  pub spelled : words ≡ encode_all witnesses ++ left

-- there no shaped witness's words begin the words left
pub record Unread (es : List Entailment) (words left : List ℤ) : Type 0 where
  pub stopped : Stopped es words left
  pub unread : Unreadable stopped.at left

-- there a shaped witness's words begin the words left, and it doesn't fit
pub record Misfit (es : List Entailment) (words left : List ℤ) : Type 0 where
  pub stopped : Stopped es words left
  pub witness : Witness
  pub rest : List ℤ
  pub shape : T (shaped stopped.at witness)
  pub reads : left ≡ encode witness ++ rest
  pub misfits : T (not (fits stopped.at witness))

abbrev pub Outcome : List Entailment → List ℤ → ℕ → Progress → Type 0
Outcome es words n (running rest m) = Held es words rest n m
Outcome es words n (ended number left) = ((number ≡ 6) × Unread es words left) ⊎ ((number ≡ 7) × Misfit es words left)
