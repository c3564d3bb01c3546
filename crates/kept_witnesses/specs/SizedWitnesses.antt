-- A witness whose counts are right for an entailment, which begins the words at a place, and its words with new numbers, which are as many: a
-- contradiction keeps its words, a target's first word changes, and of a split only the words of its two witnesses do.
use Rattle.std.specs.Prelude.{◌≡◌, refl, Bool, List, [], ◌∷◌, ◌++◌, ℕ, zero, suc, ◌+◌, ◌*◌, ◌-◌, ◌≤◌, ◌<◌, T, ℤ, length, drop}
use Rattle.std.proofs.Common.{ap, ap₂, arith, length-append}
use Rattle.std.proofs.Math.Option.{Option, none, some}
use Rattle.std.proofs.Math.ListN.{get_elem?}
use Rattle.std.proofs.lemmas.List.Edits.{sets}
use Rattle.basics.proofs.Booleans.{parts}
use Rattle.rows.specs.Rows.{Row}
use Rattle.words.specs.RowWords.{row_size}
use Rattle.words.specs.RowCode.{row_code}
use Rattle.certificates.specs.Certificate.{Disjunct}
use Rattle.certificates.specs.Entailments.{Entailment}
use Rattle.certificates.specs.Witnesses.{Share, Witness, contradiction, target, split, under, other_side, encode_shares, encode, shaped_at, shaped_tree}
use Rattle.certificates.proofs.WitnessLengths.{multipliers_count, shares_length, row_length}
use Rattle.trimming.specs.KeptMembers.{new_number}
use Rattle.trimming.specs.Trimmed.{renumbered}

-- ---- counts

unfoldable pub SizedAt : ℕ → Option Disjunct → List Share → Type 0
SizedAt n none xs = ⊥
SizedAt n (some d) xs = length (encode_shares xs) ≡ length d * (1 + n)

-- for so many columns and premises and these targets, with so many splits left
unfoldable pub Sized : ℕ → ℕ → ℕ → List Disjunct → Witness → Type 0
Sized d columns n ts (contradiction ms) = length ms ≡ n
Sized d columns n ts (target j xs) = SizedAt n (get_elem? ts j) xs
Sized zero columns n ts (split r w v) = ⊥
Sized (suc d) columns n ts (split r w v) = (length (row_code r) ≡ row_size columns) × (Sized d columns (n + 1) ts w × Sized d columns (n + 1) ts v)

pub sized_target : (n : ℕ) (ts : List Disjunct) (i : ℕ) (xs : List Share) → SizedAt n (get_elem? ts i) xs → i < length ts
unfolding SizedAt
sized_target n [] i xs s = absurd s
sized_target n (t ∷ ts) zero xs s = omega arith
sized_target n (t ∷ ts) (suc i) xs s = omega (arith, sized_target n ts i xs s)

pub sized_split : (d columns n : ℕ) (ts : List Disjunct) (r : Row) (w v : Witness) → Sized d columns n ts (split r w v)
    → (1 ≤ d) × ((length (row_code r) ≡ row_size columns) × (Sized (d - 1) columns (n + 1) ts w × Sized (d - 1) columns (n + 1) ts v))
unfolding Sized
sized_split zero columns n ts r w v s = absurd s
sized_split (suc d) columns n ts r w v s = let e : suc d - 1 ≡ d = omega arith in (omega arith, rw e s)

pub length_renumbered : (f : ℕ → Bool) (x : Witness) → length (encode (renumbered f x)) ≡ length (encode x)
unfolding renumbered encode
length_renumbered f (contradiction ms) = refl
length_renumbered f (target j xs) = refl
length_renumbered f (split r w v) =
    let front = row_code r in
    omega (
      arith,
      length-append front (encode (renumbered f w) ++ encode (renumbered f v)),
      length-append (encode (renumbered f w)) (encode (renumbered f v)),
      length-append front (encode w ++ encode v),
      length-append (encode w) (encode v),
      length_renumbered f w,
      length_renumbered f v,
    )

-- ---- renumbering looks at the flags of the targets alone

number_alike : (f g : ℕ → Bool) (j : ℕ) → ((i : ℕ) → i < j → f i ≡ g i) → new_number f j ≡ new_number g j
unfolding new_number
number_alike f g zero h = refl
number_alike f g (suc j) h = rw (h j (omega arith), number_alike f g j (λ i l. h i (omega arith)))

pub renumbered_alike : (f g : ℕ → Bool) (d columns n : ℕ) (ts : List Disjunct) (x : Witness) → Sized d columns n ts x → ((i : ℕ) → i < length ts → f i ≡ g i) → renumbered f x ≡ renumbered g x
unfolding renumbered Sized
renumbered_alike f g d columns n ts (contradiction ms) s h = refl
renumbered_alike f g d columns n ts (target j xs) s h =
    let there = sized_target n ts j xs s in
    ap (λ (i : ℕ). target i xs) (number_alike f g j (λ i l. h i (omega arith)))
renumbered_alike f g zero columns n ts (split r w v) s h = absurd s
renumbered_alike f g (suc d) columns n ts (split r w v) s h =
    ap₂ (λ (a b : Witness). split r a b) (renumbered_alike f g d columns (n + 1) ts w s.1.0 h) (renumbered_alike f g d columns (n + 1) ts v s.1.1 h)

-- ---- a witness that is shaped for an entailment is sized for it

under_count : (e : Entailment) (r : Row) → length (under r e).premises ≡ length e.premises + 1
unfolding under
under_count e r = length-append e.premises (r ∷ [])

shaped_target : (n : ℕ) (o : Option Disjunct) (xs : List Share) → T (shaped_at n o xs) → SizedAt n o xs
unfolding shaped_at SizedAt
shaped_target n none xs t = absurd t
shaped_target n (some d) xs t = shares_length n d xs t

pub shaped_sized : (d : ℕ) (e : Entailment) (x : Witness) → T (shaped_tree d e x) → Sized d e.columns (length e.premises) e.targets x
unfolding shaped_tree Sized under
shaped_sized d e (contradiction ms) t = multipliers_count (length e.premises) ms t
shaped_sized d e (target j xs) t = shaped_target (length e.premises) (get_elem? e.targets j) xs t
shaped_sized zero e (split r w v) t = absurd t
shaped_sized (suc d) e (split r w v) t =
    (row_length e.columns r (search parts), (rw (under_count e r) at (shaped_sized d (under r e) w (search parts)), rw (under_count e (other_side r)) at (shaped_sized d (under (other_side r) e) v (search parts))))

-- ---- a witness at a place

pub record BeginsAt (d columns n : ℕ) (ts : List Disjunct) (words : List ℤ) (at : ℕ) (x : Witness) (rest : List ℤ) : Type 0 where
  pub sized : Sized d columns n ts x
  pub spelled : drop at words ≡ encode x ++ rest

-- some witness
pub record Stands (d columns n : ℕ) (ts : List Disjunct) (words : List ℤ) (at : ℕ) : Type 0 where
  pub witness : Witness
  pub rest : List ℤ
  pub begins : BeginsAt d columns n ts words at witness rest

-- whichever it is, r is the place after it, and its words have new numbers afterwards
pub record RenumberedAt (f : ℕ → Bool) (d columns n : ℕ) (ts : List Disjunct) (words : List ℤ) (at r : ℕ) (after : List ℤ) : Type 0 where
  pub next : (x : Witness) (rest : List ℤ) → BeginsAt d columns n ts words at x rest → r ≡ at + length (encode x)
  pub stored : (x : Witness) (rest : List ℤ) → BeginsAt d columns n ts words at x rest → after ≡ sets words at (encode (renumbered f x))
