-- The target disjunct that the number of a witness's first word names: 0 names none, and the others count from 1.
use Rattle.std.proofs.Math.Path.{◌≡◌, refl}
use Rattle.std.proofs.Common.{sym, eqb-true}
use Rattle.std.specs.Prelude.{Bool, true, false, List, eqb, ℤ, Option, Some, None}
use Prim.Native.Nat.{ℕ, zero, suc, ◌+◌, ◌-◌, ◌≤◌}
use native.Mathlib.Omega.{arith}
use Rattle.certificates.specs.CertificateWords.{row_count, disjuncts_end}
use Rattle.certificate_readers.specs.Disjuncts.{DisjunctHere, disjunct_here_lem}
use Rattle.entailments.specs.Forms.{EntailmentForm}
use Rattle.entailments.specs.declared.Entailment.{Entailment}

-- a disjunct without rows
unfoldable pub is_true : List ℤ → Option ℕ → Bool
is_true rows (Some p) = eqb (row_count rows p) 0
is_true rows None = false

module _ (rows : List ℤ) (e : Entailment) where
  abbrev place_of : ℕ → ℕ
  place_of i = disjuncts_end e.form rows e.width i e.place

  unfoldable pub target_place : ℕ → Option ℕ
  target_place zero = None
  target_place (suc i) = Some (place_of i)

  -- the rows of the disjunct stand there
  abbrev pub TargetHere : Option ℕ → Type 0
  TargetHere target = (p : ℕ) → target ≡ Some p → DisjunctHere e.form e.width rows (p + 1) (row_count rows p)

  pub place_none : (j : ℕ) → j ≡ 0 → None ≡ target_place j
  unfolding target_place
  place_none j z = rw z

  pub place_some : (j : ℕ) → 1 ≤ j → Some (place_of (j - 1)) ≡ target_place j
  unfolding target_place
  place_some zero h = absurd (omega arith)
  place_some (suc i) h = let e : suc i - 1 ≡ i = omega arith in rw e

  pub names_none : (j : ℕ) → None ≡ target_place j → j ≡ 0
  unfolding target_place
  names_none zero q = refl
  names_none (suc i) q = absurd (let z : ◌≡◌ {A = ℕ} 0 1 = cc in omega arith)

  pub names_some : (j p : ℕ) → Some p ≡ target_place j → (1 ≤ j) × (p ≡ place_of (j - 1))
  unfolding target_place
  names_some zero p q = absurd (let z : ◌≡◌ {A = ℕ} 0 1 = cc in omega arith)
  names_some (suc i) p q = let e : suc i - 1 ≡ i = omega arith in (omega arith, rw e (let same : p ≡ place_of i = cc in same))

  pub names_true : (j : ℕ) → is_true rows (target_place j) ≡ true → (1 ≤ j) × (row_count rows (place_of (j - 1)) ≡ 0)
  unfolding target_place is_true
  names_true zero q = absurd (let z : ◌≡◌ {A = ℕ} 0 1 = cc in omega arith)
  names_true (suc i) q = let e : suc i - 1 ≡ i = omega arith in (omega arith, rw e (eqb-true (row_count rows (place_of i)) 0 q))

  pub target_here : {words : List ℤ} → EntailmentForm words rows e → (j : ℕ) → j ≤ e.count → TargetHere (target_place j)
  target_here f j h p q =
      let (o, is) = names_some j p (sym q) in
      disjunct_here_lem e.form rows e.width (j - 1) p (row_count rows p) f.targets_form f.targets_strict (omega arith) is refl
