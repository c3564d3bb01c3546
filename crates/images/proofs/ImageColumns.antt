-- The rows of images, column by column: an image is blocks of rows, one behind the other, so a column becomes the row of the block that it falls into.
use mathlib.Core.Path.{◌≡◌, refl, ap, ◌∙◌}
use mathlib.Core.Logic.{◌≢◌}
use mathlib.Core.Bool.{Bool, true, false}
use mathlib.Core.List.{List, [], ◌∷◌, ◌++◌}
use Prim.Native.Nat.{ℕ, zero, suc, ◌+◌, ◌*◌, ◌-◌, ◌≤◌, ◌<◌}
use native.Mathlib.Nat.{add-zero, zero-add}
use native.Mathlib.Omega.{arith}
use borrow.Author.Tests.{ltb-true, ltb-false}
use lib.Dec.{ltb}
use lib.IntN.{ℤ, pos}
use lib.ListN.{length, get_or, set, drop, get_or-append}
use lib.Seq.{drop-drop, get_or-append-add, get_or-set_same, get_or-set_other}
use Rattle.rows.specs.Rows.{Row, constant_row, substitute, substitute_all}
use Rattle.rows.specs.Columns.{column, columns as block}
use Rattle.words.specs.RowWords.{row_size, row_of, rows_of}
use Rattle.words.proofs.RowLaws.{row_at, length_rows}
use Rattle.words.specs.RowForm.{Expression}
use Rattle.entailments.specs.Meaning.{actuals_at}
use Rattle.entailments.proofs.ImageSizes.{length_block, length_actuals}
use Rattle.entailments.specs.declared.Shape.{Shape}
use Rattle.images.specs.Becoming.{becomes_row, BecomesForm, Becoming}
use Rattle.images.specs.declared.used_columns.Becomes.TheVariants as becomes

-- where there is no row
abbrev z : Row
z = constant_row (pos 0)

-- ---- blocks, one behind the other

module _ (a b : List Row) {n : ℕ} (e : length a ≡ n) (c : ℕ) where
  pub in_front : c < n → get_or (a ++ b) c z ≡ get_or a c z
  in_front h = get_or-append a b z c (omega arith)

  pub behind : n ≤ c → get_or (a ++ b) c z ≡ get_or b (c - n) z
  behind h = let q : length a + (c - n) ≡ c = omega arith in rw q at (get_or-append-add a b (c - n) z)

pub column_at : (s n c : ℕ) → c < n → get_or (block s n) c z ≡ column (s + c)
unfolding block
column_at s zero c h = absurd (omega arith)
column_at s (suc n) zero h = rw add-zero
column_at s (suc n) (suc c) h = let e : suc s + c ≡ s + suc c = omega arith in column_at (suc s) n c (omega arith) ∙ ap column e

substituted_at : (image rs : List Row) (i : ℕ) → i < length rs → get_or (substitute_all image rs) i z ≡ substitute image (get_or rs i z)
unfolding substitute_all
substituted_at image [] i h = absurd (omega arith)
substituted_at image (r ∷ rs) zero h = refl
substituted_at image (r ∷ rs) (suc i) h = substituted_at image rs i (omega arith)

-- ---- what a column becomes

module _ {words : List ℤ} {k columns : ℕ} {image : List Row} {c : ℕ} where
  pub column_there : (d : ℕ) → get_or image c z ≡ column d → d < columns → Becoming words k columns image c (becomes.Column d)
  unfolding becomes_row BecomesForm
  column_there d e h = record { is = e; form = h }

  pub expression_there : (at : ℕ) → get_or image c z ≡ substitute (block k k) (row_of k (drop at words)) → Expression words at k → Becoming words k columns image c (becomes.Expression at)
  unfolding becomes_row BecomesForm
  expression_there at e h = record { is = e; form = h }

-- a column of the first block, and of the block behind it
module _ (a b : List Row) {n : ℕ} (e : length a ≡ n) (c : ℕ) where
  pub front_column : (s : ℕ) → a ≡ block s n → c < n → get_or (a ++ b) c z ≡ column (s + c)
  front_column s q h = in_front a b e c h ∙ (ap (λ (l : List Row). get_or l c z) q ∙ column_at s n c h)

  pub behind_column : (s m d : ℕ) → b ≡ block s m → n ≤ c → c - n < m → s + (c - n) ≡ d → get_or (a ++ b) c z ≡ column d
  behind_column s m d q h l f = behind a b e c h ∙ (ap (λ (l : List Row). get_or l (c - n) z) q ∙ (column_at s m (c - n) l ∙ ap column f))

-- ---- an assignment

module _ (k i c : ℕ) (r : Row) where
  pub assigned_here : i < k → c ≡ k + i → get_or (block 0 k ++ set (block k k) i r) c z ≡ r
  assigned_here h e =
      let q : c - k ≡ i = omega arith in
      behind (block 0 k) (set (block k k) i r) (length_block 0 k) c (omega arith) ∙ rw q (get_or-set_same (block k k) i r z (omega (arith, length_block k k)))

  pub assigned_other : c < k + k → c ≢ k + i → get_or (block 0 k ++ set (block k k) i r) c z ≡ column c
  assigned_other h d = go (ltb c k) refl
    where
      go : (b : Bool) → ltb c k ≡ b → get_or (block 0 k ++ set (block k k) i r) c z ≡ column c
      go true q = front_column (block 0 k) (set (block k k) i r) (length_block 0 k) c 0 refl (ltb-true c k q) ∙ ap column (zero-add c)
      go false q =
          let l = ltb-false c k q in
          let f : k + (c - k) ≡ c = omega arith in
          behind (block 0 k) (set (block k k) i r) (length_block 0 k) c l
          ∙ (get_or-set_other (block k k) i (c - k) r z (λ x. d (omega arith)) ∙ (column_at k k (c - k) (omega arith) ∙ ap column f))

-- ---- a procedure that is entered

module _ (words : List ℤ) (s : Shape) (place fresh c : ℕ) where
  abbrev actuals : List Row
  actuals = actuals_at words s place

  abbrev last : List Row
  last = block (s.k + s.k) fresh

  abbrev entered : List Row
  entered = block s.k s.globals ++ (actuals ++ last)

  pub entered_global : c < s.globals → get_or entered c z ≡ column (s.k + c)
  entered_global h = front_column (block s.k s.globals) (actuals ++ last) (length_block s.k s.globals) c s.k refl h

  module _ (h : s.globals ≤ c) where
    past : get_or entered c z ≡ get_or (actuals ++ last) (c - s.globals) z
    past = behind (block s.k s.globals) (actuals ++ last) (length_block s.k s.globals) c h

    pub entered_actual : c - s.globals < s.parameters → get_or entered c z ≡ substitute (block s.k s.k) (row_of s.k (drop (place + (c - s.globals) * row_size s.k) words))
    entered_actual l =
        past
        ∙ (in_front actuals last (length_actuals words s place) (c - s.globals) l
        ∙ (substituted_at (block s.k s.k) (rows_of s.k s.parameters (drop place words)) (c - s.globals) (omega (arith, length_rows s.k s.parameters (drop place words)))
        ∙ ap (substitute (block s.k s.k)) (row_at s.k s.parameters (c - s.globals) (drop place words) z l ∙ ap (row_of s.k) (drop-drop ((c - s.globals) * row_size s.k) place words))))

    pub entered_fresh : s.parameters ≤ c - s.globals → c < s.globals + (s.parameters + fresh) → get_or entered c z ≡ column (s.k + s.k + (c - s.globals - s.parameters))
    entered_fresh l b = past ∙ behind_column actuals last (length_actuals words s place) (c - s.globals) (s.k + s.k) fresh _ refl l (omega arith) refl
