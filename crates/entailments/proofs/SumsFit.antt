-- No sum of the judge leaves 64 bits, once for all kinds of entailments. Where an entailment is within its limits and a witness is shaped for it,
-- each number that is made on the way is below 2^63: an image put into a target's row column by column, the premises weighted and added one by
-- one, on each way through splits to a leaf, and a target's entries times a divisor.
use Rattle.std.specs.Prelude.{◌≡◌, refl, ℕ, zero, suc, ◌+◌, ◌≤◌, T, ℤ, pos, length, get_or, take, drop}
use Rattle.std.proofs.Math.Option.{Option, none, some}
use mathlib.Core.List.{List, [], ◌∷◌, map}
use Rattle.std.proofs.Common.{arith, leb→le}
use Rattle.std.proofs.Math.ListN.{get_elem?}
use Rattle.basics.proofs.Booleans.{parts}
use Rattle.basics.proofs.Lists.{member_at}
use Rattle.rows.specs.Rows.{Row, constant_row, add, combine, substitute}
use Rattle.words.specs.Limits.{most_multiplier, most_divisor}
use Rattle.words.specs.StoredRows.{rows_in}
use Rattle.numbers.specs.Small.{Small}
use Rattle.numbers.specs.SmallLaws.{small_at}
use Rattle.certificates.specs.Certificate.{Disjunct}
use Rattle.certificates.specs.Entailments as certificates
use Rattle.certificates.specs.Witnesses.{Share, Witness, contradiction, target, split, under, other_side, shaped_multipliers, shaped_shares, shaped_at, shaped_row, shaped_tree}
use Rattle.certificate_readers.specs.Disjuncts.{here_within}
use Rattle.row_buffers.specs.AllRows as rows
use Rattle.row_buffers.specs.AllRows.{AllRows}
use Rattle.row_buffers.proofs.AllRows.{all_weaken}
use Rattle.row_buffers.specs.Entries.{entry}
use Rattle.row_buffers.proofs.RowsOfWords.{all_limited}
use Rattle.row_buffers.specs.EntryLimits.{weight_limit, target_limit, SmallRow, LimitedRow}
use Rattle.row_buffers.proofs.EntryLimits.{small_weaken, small_row_at, few_sums, small_partial, small_substitute, partial_fits, next_fits, multiple_fits, rounded_fits}
use Rattle.entailments.specs.Meaning.{image_rows}
use Rattle.entailments.specs.Forms.{AddedForm, EntailmentForm}
use Rattle.entailments.specs.ImageSizes.{most_image, SmallImage}
use Rattle.entailments.proofs.ImageSizes.{image_small}
use Rattle.entailments.proofs.PremiseSizes.{called_here}
use Rattle.entailments.specs.declared.Added.TheVariants.{Summary}
use Rattle.entailments.specs.declared.Image.TheVariants.{Called}
use Rattle.entailments.specs.declared.Entailment.{Entailment}
use Rattle.entailments.specs.Bounds.{Bounded}
use Rattle.entailments.proofs.Bounds.{side_bounded, other_side_bounded}
use Rattle.entailments.specs.SumsFit.{ChosenFits, ImageFits, SharesFit, SumFits, TargetFits, WitnessFits}

-- ---- an image put into a row within its limits

module _ {image : List Row} (s : SmallImage image) {r : Row} (l : LimitedRow r) where
  pub small_on_the_way : (j : ℕ) → SmallRow target_limit (add (constant_row r.constant) (combine (take j r.coefficients) image))
  small_on_the_way j = small_weaken (omega arith) (small_partial l (few_sums most_image s.few s.small) j)

  pub small_target : SmallRow target_limit (substitute image r)
  small_target = small_weaken (omega arith) (small_substitute l (few_sums most_image s.few s.small))

  pub image_fits : ImageFits image r
  image_fits =
      record {
        fits =
            λ i j. next_fits (entry i (add (constant_row r.constant) (combine (take j r.coefficients) image))) (get_or r.coefficients j (pos 0)) (entry i (get_or image j (constant_row (pos 0))))
            (omega (arith, (small_on_the_way j).bound i)) (small_at weight_limit r.coefficients l.coefficients j) (omega (arith, (small_row_at s.small j).bound i));
      }

pub target_fits : {divisor : ℕ} {r : Row} → divisor ≤ most_divisor → SmallRow target_limit r → TargetFits divisor r
target_fits {divisor} {r} h s =
    record {
      multiples = λ i. omega (arith, multiple_fits (pos divisor) (entry i r) h (s.bound i));
      rounded = omega (arith, rounded_fits (pos divisor) (entry 0 r) h (s.bound 0));
    }

-- the rows of a summary, which become premises
pub summary_fits : {words rows : List ℤ} {e : Entailment} → EntailmentForm words rows e → {from n at : ℕ} → e.added ≡ Summary from n at
    → AllRows (ImageFits (image_rows words e.shape (Called at))) (rows_in e.form (e.shape.globals + e.shape.parameters + e.shape.globals) n (drop from rows))
unfolding AddedForm
summary_fits {rows = rows} {e} form {from} {n} q =
    let (over, (image, here)) = rw q at form.added_form in
    let s = image_small (called_here form.image_here.shape_form image) in
    all_weaken (λ r. image_fits s) (all_limited (here_within here))

-- ---- the theorem

shaped_multipliers_lem : (n : ℕ) (ms : List ℕ) → T (shaped_multipliers n ms) → Small weight_limit (map pos ms)
unfolding shaped_multipliers Small
shaped_multipliers_lem zero [] t = tt
shaped_multipliers_lem zero (m ∷ ms) t = absurd t
shaped_multipliers_lem (suc n) [] t = absurd t
shaped_multipliers_lem (suc n) (m ∷ ms) t = (leb→le m most_multiplier (search parts), shaped_multipliers_lem n ms (search parts))

module _ {d : ℕ} {e : certificates.Entailment} (b : Bounded d e) where
  pub sum_fits : (ms : List ℕ) → T (shaped_multipliers (length e.premises) ms) → SumFits (map pos ms) e.premises
  sum_fits ms t =
      record { fits = λ i j h. partial_fits (map pos ms) i j (omega (arith, b.few)) (shaped_multipliers_lem (length e.premises) ms t) b.premises }

  shares_fit : (t : Disjunct) (xs : List Share) → AllRows LimitedRow t → T (shaped_shares (length e.premises) t xs) → SharesFit e t xs
  unfolding SharesFit shaped_shares
  shares_fit [] xs l h = tt
  shares_fit (r ∷ t) [] l h = tt
  shares_fit (r ∷ t) (x ∷ xs) (rows.one k l) h =
      ((image_fits b.image k, sum_fits x.multipliers (search parts), target_fits (leb→le x.divisor most_divisor (search parts)) (small_target b.image k)), shares_fit t xs l (search parts))

  chosen_fits : (o : Option Disjunct) (xs : List Share) → ((t : Disjunct) → o ≡ some t → AllRows LimitedRow t) → T (shaped_at (length e.premises) o xs) → ChosenFits e o xs
  unfolding ChosenFits shaped_at
  chosen_fits none xs l h = tt
  chosen_fits (some t) xs l h = shares_fit t xs (l t refl) h

pub sums_fit : (d : ℕ) (e : certificates.Entailment) (w : Witness) → Bounded d e → T (shaped_tree d e w) → WitnessFits e w
unfolding WitnessFits shaped_tree
sums_fit d e (contradiction ms) b h = sum_fits b ms h
sums_fit d e (target j xs) b h = chosen_fits b (get_elem? e.targets j) xs (λ t q. b.targets (member_at e.targets j q)) h
sums_fit zero e (split r w v) b h = absurd h
sums_fit (suc d) e (split r w v) b h =
    let t : T (shaped_row e.columns r) = search parts in
    (sums_fit d (under r e) w (side_bounded b r t) (search parts), sums_fit d (under (other_side r) e) v (other_side_bounded b r t) (search parts))
