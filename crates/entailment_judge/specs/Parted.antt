-- The premises of an entailment in two parts: the rows of its disjunct where they stand, by a table of their places, and behind them those of a buffer. As
-- rows they are the premises, and sums of as many fit.
use Rattle.std.specs.Prelude.{◌≡◌, refl, List, [], ◌∷◌, ◌++◌, ℕ, ◌+◌, ◌≤◌, ℤ, length, drop}
use Rattle.std.proofs.Common.{append-nil, arith}
use Rattle.rows.specs.Rows.{Row}
use Rattle.words.specs.Limits.{most_rows}
use Rattle.words.specs.StoredRows.{rows_in}
use Rattle.words.proofs.StoredRows.{no_rows_in, length_in}
use Rattle.rows.proofs.Blocks.{length_substituted}
use Rattle.words.specs.RowWords.{row_of}
use Rattle.row_buffers.specs.HeldRows.{held_rows}
use Rattle.row_buffers.specs.Entries.{AllAlike, cons}
use Rattle.row_buffers.proofs.FlatRows.{buffered_alike, buffered_small, buffered_inside}
use Rattle.row_buffers.specs.PlacedRows.{PlacedHere, placed_rows}
use Rattle.entailments.specs.declared.Added.{Added}
use Rattle.entailments.specs.declared.Added.TheVariants.{Nothing, Guard, Summary}
use Rattle.entailments.specs.declared.Image.TheVariants.{Called}
use Rattle.entailments.specs.declared.Entailment.{Entailment}
use Rattle.entailments.specs.Meaning.{image_rows, premises_of, meaning_of}
use Rattle.entailments.specs.Forms.{AddedForm, EntailmentForm}
use Rattle.entailments.proofs.ImageSizes.{columns_most, path_inside}
use Rattle.entailments.proofs.PremiseSizes.{few_guards, small_premises}
use Rattle.premises.specs.FilledPremises.{FilledWith, first_here}
use Rattle.premises.specs.DisjunctPlaces.{DisjunctPlaced}
use Rattle.entailment_judge.specs.declared.in_place.Parts.{Parts}
use Rattle.entailment_judge.specs.Buffers.{Premises}

abbrev pub parted_rows : List ℤ → List ℕ → Parts → List ℤ → List Row
parted_rows rows places n buffer = placed_rows n.m rows n.own places ++ held_rows n.columns n.added buffer

pub record Parted (rows : List ℤ) (places : List ℕ) (n : Parts) (buffer : List ℤ) : Type 0 where
  pub placed : PlacedHere n.m rows n.own places
  pub wide : n.m ≤ n.columns
  pub held : Premises n.columns n.added buffer
  pub few : n.added ≤ most_rows

-- ---- what is added to a disjunct

-- it stands behind the disjunct's rows
behind : (words : List ℤ) (e : Entailment) (rows : List ℤ) (d : List Row) (a : Added) → d ++ premises_of words e.shape e.form rows [] a ≡ premises_of words e.shape e.form rows d a
unfolding premises_of
behind words e rows d Nothing = append-nil d
behind words e rows d (Guard op case at) = refl
behind words e rows d (Summary from n at) = refl

-- and is no more than a disjunct has
few_added_lem : (words rows : List ℤ) (e : Entailment) (a : Added) → AddedForm words e.shape e.form rows e.columns a → length (premises_of words e.shape e.form rows [] a) ≤ most_rows
unfolding premises_of AddedForm
few_added_lem words rows e Nothing f = omega arith
few_added_lem words rows e (Guard op case at) f = omega (arith, few_guards e.shape.k (row_of e.shape.k (drop at words)) _ case f.1.0)
few_added_lem words rows e (Summary from n at) f =
    let m = e.shape.globals + e.shape.parameters + e.shape.globals in
    let summary = rows_in e.form m n (drop from rows) in
    omega (arith, length_substituted (image_rows words e.shape (Called at)) summary, length_in e.form m n (drop from rows), f.1.1.stand.few)

-- ---- rows that give the premises

alike_behind : (ds : List Row) {ps qs : List Row} → AllAlike ps qs → AllAlike (ds ++ ps) (ds ++ qs)
alike_behind [] h = h
alike_behind (d ∷ ds) h = cons (record { same = λ i. refl }) (alike_behind ds h)

module _ {words rows : List ℤ} {e : Entailment} (form : EntailmentForm words rows e) {places : List ℕ} (p : DisjunctPlaced rows e places) {added : ℕ} {buffer : List ℤ} (f : FilledWith words rows e 0 added buffer) where
  abbrev k : ℕ
  k = e.shape.k

  abbrev parts : Parts
  parts = record { own = e.n; m = k + k; added = added; columns = e.columns }

  added_few : added ≤ most_rows
  added_few = omega (arith, rw (no_rows_in e.form (k + k) (drop e.from rows)) at f.count, few_added_lem words rows e e.added form.added_form)

  pub parted : Parted rows places parts buffer
  parted =
      record {
        placed = p.stand;
        wide = path_inside form.image_here;
        held =
            record {
              capacity = record { narrow = omega (arith, columns_most form.image_here); few = omega (arith, added_few); inside = buffered_inside f };
              small = buffered_small f (small_premises words e.form rows form.image_here.shape_form e.columns e.from 0 (first_here form 0 (omega arith)) e.added form.added_form);
            };
        few = added_few;
      }

  pub parted_alike : AllAlike (parted_rows rows places parts buffer) (meaning_of words rows e).premises
  unfolding meaning_of
  parted_alike =
      let d = rows_in e.form (k + k) e.n (drop e.from rows) in
      rw (p.same, ← behind words e rows d e.added) (alike_behind d (rw (no_rows_in e.form (k + k) (drop e.from rows)) at (buffered_alike f)))
