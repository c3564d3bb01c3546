-- Rows added block by block: two blocks, one behind the other, are one, and a row that began as a constant is in the end the row of words with
-- the image put in.
use mathlib.Core.Path.{◌≡◌, refl, sym, ap, ap₂, ◌∙◌}
use mathlib.Core.Bool.{Bool, true, false}
use mathlib.Core.List.{List, [], ◌∷◌, ◌++◌}
use Prim.Native.Nat.{ℕ, zero, suc, ◌+◌, ◌*◌, ◌≤◌, ◌<◌, zero-le}
use native.Mathlib.Omega.{arith}
use borrow.Author.Tests.{ltb-true, ltb-false}
use lib.Dec.{ltb}
use lib.IntN.{ℤ, pos, nat_abs, ◌+ℤ◌, ◌*ℤ◌, +ℤ_assoc, +ℤ_idr}
use lib.ListN.{length, get_or, take, drop, length-append, length-drop}
use lib.Seq.{drop-cons, drop-drop, take-nil, get_or-take, get_or-drop}
use Rattle.rows.specs.Rows.{Row, constant_row, add, scale, combine, substitute, substitute_all}
use Rattle.rows.specs.Columns.{column, columns as block}
use Rattle.rows.proofs.Blocks.{columns_append, substituted_append}
use Rattle.words.specs.Words.{word}
use Rattle.words.specs.RowWords.{constant_words, constant_at, row_size, row_of, rows_of}
use Rattle.words.proofs.RowLaws.{rows_more}
use Rattle.words.specs.RowForm.{RowForm, Expression}
use Rattle.numbers.specs.Small.{Small}
use Rattle.numbers.specs.SmallLaws.{small_at}
use Rattle.numbers.specs.Magnitudes.{size_sum}
use Rattle.row_buffers.specs.AllRows.{none, one}
use Rattle.row_buffers.specs.HeldRows.{stride, held_row}
use Rattle.row_buffers.specs.Entries.{entry}
use Rattle.row_buffers.proofs.Entries.{entry_add, entry_scale, entry_combine, entry_combine_none, entry_combine_append}
use Rattle.row_buffers.specs.EntryLimits.{weight_limit, SmallRow}
use Rattle.row_buffers.proofs.EntryLimits.{small_weaken, few_sums, sums_weaken, sums_append, limited_small}
use Rattle.row_buffers.specs.Spread.{written}
use Rattle.row_buffers.proofs.Spread.{length_spread, spread_same, spread_self, spread_at, behind_spread, entry_held, narrow_held, narrow_entry}
use Rattle.row_buffers.proofs.RowsOfWords.{coefficients_at, small_each, form_constant, form_limited}
use Rattle.row_buffers.proofs.ColumnRows.{small_column}
use Rattle.row_buffers.proofs.MovedColumns.{small_moved}
use Rattle.row_buffers.proofs.Starting.{substituted}
use Rattle.entailments.specs.ImageSizes.{expression_limit}
use Rattle.entailments.proofs.ImageSizes.{columns_most, length_both}
use Rattle.entailments.specs.Forms.{ImageHere}
use Rattle.entailments.specs.declared.Image.{Image}
use Rattle.entailments.specs.declared.Shape.{Shape}
use Rattle.images.specs.Sums.{grain, Weights, Ready, Summed, RowHere, Begun, replaced}

-- ---- weights

module _ {words : List ℤ} {at m : ℕ} (w : Weights words at m) where
  pub fewer : (n : ℕ) → n ≤ m → Weights words at n
  fewer n h = record { inside = omega (arith, w.inside); light = λ i k. w.light i (omega arith) }

  pub later : (j n : ℕ) → j + n ≤ m → Weights words (at + j) n
  later j n h =
      record {
        inside = omega (arith, w.inside);
        light = λ i k. let e : at + (j + i) ≡ at + j + i = omega arith in rw e at (w.light (j + i) (omega arith));
      }

-- the coefficients of a row of words
pub weights_of : (words : List ℤ) (place m : ℕ) → place + row_size m ≤ length words → RowForm words place m → Weights words (place + constant_words) m
weights_of words place m h f =
    record {
      inside = omega arith;
      light = λ i k. rw (coefficients_at m place words, get_or-take m (drop (place + constant_words) words) i (pos 0) k, get_or-drop (place + constant_words) words i (pos 0)) at (small_at weight_limit _ (form_limited f).coefficients i);
    }

-- the row of an image's m columns
pub row_here : {words program : List ℤ} {s : Shape} {image : Image} {columns m place : ℕ} {t : List ℤ} (n : ℕ) → ImageHere program s image columns m
    → (place + row_size m ≤ length words) × RowForm words place m → columns < length t → m ≡ n → RowHere words place n columns t
row_here {words} {m = m} {place} n here w long e =
    record {
      constant = form_constant w.1;
      weights = rw e at (weights_of words place m w.0 w.1);
      narrow = omega (arith, columns_most here);
      long = long;
    }

pub weights_at : {words : List ℤ} {place m columns at : ℕ} {s t u : List ℤ} → RowHere words place m columns s → Begun words place columns at t u → Weights words at m
weights_at h b = rw b.behind h.weights

-- ---- sums

-- words behind those that a row stands for
sum_take : (m : ℕ) (ws : List ℤ) (rs : List Row) → length rs ≤ m → combine (take m ws) rs ≡ combine ws rs
unfolding combine
sum_take m [] rs h = rw take-nil refl
sum_take zero (w ∷ ws) [] h = refl
sum_take (suc m) (w ∷ ws) [] h = refl
sum_take zero (w ∷ ws) (r ∷ rs) h = absurd (omega arith)
sum_take (suc m) (w ∷ ws) (r ∷ rs) h = ap (add (scale w r)) (sum_take m ws rs (omega arith))

-- ---- blocks

pub none_summed : (words : List ℤ) (columns at : ℕ) (t : List ℤ) → Summed words columns at 0 [] t t
none_summed words columns at t =
    record {
      count = refl;
      same = refl;
      entries = λ i h. sym (ap (λ (x : ℤ). get_or t i (pos 0) +ℤ x) (entry_combine_none i (drop at words)) ∙ +ℤ_idr (get_or t i (pos 0)));
      rest = refl;
      small = few_sums {b = expression_limit} 0 (omega arith) none;
    }

pub joined : {words : List ℤ} {columns at m n : ℕ} {rs ss : List Row} {t u v : List ℤ} → Summed words columns at m rs t u → Summed words columns (at + m) n ss u v → Summed words columns at (m + n) (rs ++ ss) t v
joined {words} {columns} {at} {m} {n} {rs} {ss} {t} {u} {v} a b =
    record {
      count = length_both rs ss a.count b.count;
      same = b.same ∙ a.same;
      entries =
          λ i h.
          let behind = entry i (combine (drop (at + m) words) ss) in
          b.entries i h ∙ ap (λ (x : ℤ). x +ℤ behind) (a.entries i h)
          ∙ +ℤ_assoc (get_or t i (pos 0)) (entry i (combine (drop at words) rs)) behind
          ∙ ap (λ (x : ℤ). get_or t i (pos 0) +ℤ x) (sym (rw (a.count, drop-drop m at words) at (entry_combine_append i (drop at words) rs ss)));
      rest = b.rest ∙ a.rest;
      small = sums_weaken (omega arith) (sums_append rs ss a.small b.small);
    }

pub held_small : (columns b : ℕ) (t : List ℤ) → ((i : ℕ) → i ≤ columns → nat_abs (get_or t i (pos 0)) ≤ b) → SmallRow b (held_row columns t)
held_small columns b t h = record { bound = λ i. go i (ltb columns i) refl }
  where
    go : (i : ℕ) (q : Bool) → ltb columns i ≡ q → nat_abs (entry i (held_row columns t)) ≤ b
    go i true q = rw (narrow_entry columns i (held_row columns t) (narrow_held columns t) (ltb-true columns i q)) zero-le
    go i false q = let k : i ≤ columns = ltb-false columns i q in rw (entry_held columns i t k) (h i k)

module _ (words : List ℤ) (columns at : ℕ) (r : Row) (t u : List ℤ) (h : at < length words) (small : SmallRow expression_limit r) (long : columns < length t)
    (e : u ≡ written columns (add (held_row columns t) (scale (word words at) r)) t) where
  stored : (i : ℕ) → i ≤ columns → get_or u i (pos 0) ≡ get_or t i (pos 0) +ℤ word words at *ℤ entry i r
  stored i k =
      ap (λ (l : List ℤ). get_or l i (pos 0)) e ∙ spread_at (stride columns) i (add (held_row columns t) (scale (word words at) r)) (drop (stride columns) t) (omega arith)
      ∙ entry_add i (held_row columns t) (scale (word words at) r) ∙ ap₂ (λ (x y : ℤ). x +ℤ y) (entry_held columns i t k) (entry_scale i (word words at) r)

  alone : (i : ℕ) → entry i (combine (drop at words) (r ∷ [])) ≡ word words at *ℤ entry i r
  alone i =
      rw (drop-cons words at (pos 0) h)
      (entry_combine i (word words at) (drop (suc at) words) r []
      ∙ ap (λ (x : ℤ). word words at *ℤ entry i r +ℤ x) (entry_combine_none i (drop (suc at) words)) ∙ +ℤ_idr (word words at *ℤ entry i r))

  pub one_summed : Summed words columns at 1 (r ∷ []) t u
  one_summed =
      record {
        count = refl;
        same = rw (e, length-append, length_spread, length-drop) (omega arith);
        entries = λ i k. stored i k ∙ ap (λ (x : ℤ). get_or t i (pos 0) +ℤ x) (sym (alone i));
        rest = ap (drop (stride columns)) e ∙ behind_spread (stride columns) (add (held_row columns t) (scale (word words at) r)) (drop (stride columns) t);
        small = few_sums 1 (omega arith) (one small none);
      }

pub ready_more : {columns b c : ℕ} {t : List ℤ} → Ready columns b t → b ≤ c → Ready columns c t
ready_more r h = record { narrow = r.narrow; long = r.long; small = small_weaken h r.small }

-- a buffer that was added to can be added to again
module _ {words : List ℤ} {columns at n b : ℕ} {rs : List Row} {t u : List ℤ} (c : ℕ) (weights : Weights words at n) (s : Summed words columns at n rs t u) (r : Ready columns b t) (h : b + n * grain ≤ c) where
  light : Small weight_limit (take n (drop at words))
  light = small_each weight_limit n (drop at words) (λ i k. rw (get_or-drop at words i (pos 0)) (weights.light i k))

  grown : (i : ℕ) → i ≤ columns → nat_abs (get_or u i (pos 0)) ≤ c
  grown i k =
      let before = rw (entry_held columns i t k) at (r.small.bound i) in
      let added = entry i (combine (drop at words) rs) in
      let sum : nat_abs added ≤ n * grain = rw (sum_take n (drop at words) rs (omega (arith, s.count))) at ((s.small.sums (take n (drop at words)) light).bound i) in
      rw (s.entries i k) (omega (arith, before, sum, size_sum (get_or t i (pos 0)) added))

  pub still : Ready columns c u
  still = record { narrow = r.narrow; long = omega (arith, s.same, r.long); small = held_small columns c u grown }

-- ---- one row more of a block, as a loop adds it

module _ {words : List ℤ} {columns at n : ℕ} (weights : Weights words at n) {t u : List ℤ} (long : columns < length u) (i : ℕ) (h : i < n) where
  one_more : {rs : List Row} {r : Row} {v : List ℤ} → Summed words columns at i rs t u → SmallRow expression_limit r → v ≡ written columns (add (held_row columns u) (scale (word words (at + i)) r)) u
      → Summed words columns at (i + 1) (rs ++ r ∷ []) t v
  one_more {rs} {r} {v} s small e = joined s (one_summed words columns (at + i) r u v (omega (arith, weights.inside)) small long e)

  pub column_more : (c : ℕ) {v : List ℤ} → Summed words columns at i (block c i) t u → v ≡ written columns (add (held_row columns u) (scale (word words (at + i)) (column (c + i)))) u
      → Summed words columns at (i + 1) (block c (i + 1)) t v
  unfolding block
  column_more c s e = rw (columns_append c i 1) (one_more s (small_weaken (omega arith) (small_column (c + i))) e)

  pub expression_more : (program : List ℤ) (place k : ℕ) {v : List ℤ} → Expression program (place + i * row_size k) k
      → Summed words columns at i (substitute_all (block k k) (rows_of k i (drop place program))) t u
      → v ≡ written columns (add (held_row columns u) (scale (word words (at + i)) (substitute (block k k) (row_of k (drop (place + i * row_size k) program))))) u
      → Summed words columns at (i + 1) (substitute_all (block k k) (rows_of k (i + 1) (drop place program))) t v
  unfolding substitute_all
  expression_more program place k x s e =
      rw (rows_more k i (drop place program), substituted_append (block k k) (rows_of k i (drop place program)) (row_of k (drop (i * row_size k) (drop place program)) ∷ []), drop-drop (i * row_size k) place program)
      (one_more s (small_moved k k (row_of k (drop (place + i * row_size k) program)) (limited_small (form_limited x.form))) e)

-- ---- a row, whole

pub put_in : {words : List ℤ} {columns place at n : ℕ} {image : List Row} {t u v : List ℤ} → Begun words place columns at t u → Summed words columns at n image u v → v ≡ replaced words place columns image t
put_in {words} {columns} {place} {at} {n} {image} {t} {u} {v} b s =
    spread_self columns v (omega (arith, s.same, b.ready.long))
    ∙ ap₂ (λ (x y : List ℤ). x ++ y) (spread_same (stride columns) (held_row columns v) (add c sum) (λ i k. same i (omega arith)))
    (s.rest ∙ ap (drop (stride columns)) b.is ∙ behind_spread (stride columns) c (drop (stride columns) t))
  where
    c : Row
    c = constant_row (constant_at words place)

    sum : Row
    sum = combine (drop (place + constant_words) words) image

    same : (i : ℕ) → i ≤ columns → entry i (held_row columns v) ≡ entry i (add c sum)
    same i k =
        entry_held columns i v k ∙ rw b.behind at (s.entries i k)
        ∙ ap (λ (x : ℤ). x +ℤ entry i sum) (ap (λ (l : List ℤ). get_or l i (pos 0)) b.is ∙ spread_at (stride columns) i c (drop (stride columns) t) (omega arith))
        ∙ sym (entry_add i c sum)

pub replaced_all : (words : List ℤ) (place columns m : ℕ) (image : List Row) (t : List ℤ) → length image ≡ m → replaced words place columns image t ≡ written columns (substitute image (row_of m (drop place words))) t
replaced_all words place columns m image t e =
    ap (λ (r : Row). written columns r t)
    (ap (add (constant_row (constant_at words place))) (sym (sum_take m (drop (place + constant_words) words) image (omega arith))) ∙ substituted m place words image)
