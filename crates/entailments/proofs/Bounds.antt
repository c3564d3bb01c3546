-- The limits of an entailment: its premises are few and small, its image is small, and the rows of its targets are within the limits of words.
-- Each entailment that has its form is within them, whatever its kind, and so it is with a split's row behind its premises.
use Rattle.std.specs.Prelude.{ℕ, zero, suc, ◌+◌, T, ℤ, nat_abs, drop}
use mathlib.Core.List.Memᴰ
use mathlib.Core.List.{List, [], ◌∷◌, Memᴰ}
use Rattle.std.proofs.Common.{arith, leb→le, length-append, drop-drop}
use Rattle.basics.proofs.Booleans.{and_l, and_r}
use Rattle.rows.specs.Rows.{Row}
use Rattle.words.specs.declared.StoredForm.{StoredForm}
use Rattle.words.specs.Limits.{constant_limit, coefficient_limit, most_rows, most_splits}
use Rattle.words.specs.Words.{word, small}
use Rattle.words.proofs.Ranges.{number_most}
use Rattle.numbers.specs.Small.{Small}
use Rattle.certificates.specs.Certificate.{Disjunct}
use Rattle.certificates.specs.CertificateWords.{row_count, disjunct_words, disjuncts_of}
use Rattle.certificates.specs.CertificateForm.{DisjunctsForm, DisjunctsStrict, more_strict, more}
use Rattle.certificates.proofs.Entries.{count_at, rest_at}
use Rattle.certificates.specs.Entailments as certificates
use Rattle.certificates.specs.Witnesses.{under, other_side, shaped_coefficients, shaped_row}
use Rattle.certificate_readers.specs.Disjuncts.{here_within}
use Rattle.row_buffers.specs.AllRows as rows
use Rattle.row_buffers.specs.AllRows.{AllRows}
use Rattle.row_buffers.proofs.AllRows.{all_append}
use Rattle.row_buffers.proofs.RowsOfWords.{all_limited}
use Rattle.row_buffers.specs.EntryLimits.{weight_limit, SmallRow, LimitedRow}
use Rattle.row_buffers.proofs.EntryLimits.{small_weaken, limited_small}
use Rattle.entailments.specs.GuardRows.{guard_limit}
use Rattle.entailments.proofs.GuardRows.{small_side, small_other_side}
use Rattle.entailments.specs.Meaning.{meaning_of}
use Rattle.entailments.specs.Forms.{EntailmentForm}
use Rattle.entailments.proofs.ImageSizes.{image_small}
use Rattle.entailments.proofs.PremiseSizes.{few_premises, small_premises}
use Rattle.entailments.specs.declared.Entailment.{Entailment}
use Rattle.entailments.specs.Bounds.{Bounded, Placed}

pub placed : (form : StoredForm) (rows : List ℤ) (m count at : ℕ) → DisjunctsForm form rows m count at → DisjunctsStrict form rows m count at → {t : Disjunct}
    → Memᴰ t (disjuncts_of form m count (drop at rows)) → Placed form rows m t
unfolding disjuncts_of
placed form rows m zero at f s k = absurd (Memᴰ.not-nil k)
placed form rows m (suc count) at (more starts low ends f g) (more_strict s later) (Memᴰ.head e) =
    record {
      from = at + 1;
      count = row_count rows at;
      is = rw (count_at form rows m at, drop-drop 1 at rows) at e;
      here = record { stand = record { few = number_most most_rows (word rows at); inside = omega arith; formed = f }; strict = s };
    }
placed form rows m (suc count) at (more starts low ends f g) (more_strict s later) (Memᴰ.tail k) = placed form rows m count (at + disjunct_words form m rows at) g later (rw (rest_at form rows m at) at k)

targets_limited : {words rows : List ℤ} {e : Entailment} → EntailmentForm words rows e → {t : Disjunct} → Memᴰ t (disjuncts_of e.form e.width e.count (drop e.place rows)) → AllRows LimitedRow t
targets_limited {words} {rows} {e} form k =
    let x = placed e.form rows e.width e.count e.place form.targets_form form.targets_strict k in
    rw x.is (all_limited (here_within x.here))

pub bounded : {words rows : List ℤ} {e : Entailment} → EntailmentForm words rows e → Bounded most_splits (meaning_of words rows e)
unfolding meaning_of
bounded {words} {rows} {e} form =
    let shape = form.image_here.shape_form in
    let here = form.disjunct_here in
    record {
      few = omega (arith, few_premises words e.form rows shape e.columns e.from e.n here e.added form.added_form);
      premises = small_premises words e.form rows shape e.columns e.from e.n here e.added form.added_form;
      image = image_small form.image_here;
      targets = targets_limited form;
    }

-- ---- with the row of a split behind its premises

shaped_coefficients_lem : (n : ℕ) (cs : List ℤ) → T (shaped_coefficients n cs) → Small weight_limit cs
unfolding shaped_coefficients Small small
shaped_coefficients_lem zero [] t = tt
shaped_coefficients_lem zero (c ∷ cs) t = absurd t
shaped_coefficients_lem (suc n) [] t = absurd t
shaped_coefficients_lem (suc n) (c ∷ cs) t =
    (leb→le (nat_abs c) coefficient_limit (and_l (small coefficient_limit c) (shaped_coefficients n cs) t), shaped_coefficients_lem n cs (and_r (small coefficient_limit c) (shaped_coefficients n cs) t))

pub shaped_limited : (columns : ℕ) (r : Row) → T (shaped_row columns r) → LimitedRow r
unfolding shaped_row small
shaped_limited columns r t =
    record {
      constant = leb→le (nat_abs r.constant) constant_limit (and_l (small constant_limit r.constant) (shaped_coefficients columns r.coefficients) t);
      coefficients = shaped_coefficients_lem columns r.coefficients (and_r (small constant_limit r.constant) (shaped_coefficients columns r.coefficients) t);
    }

one_more : {d : ℕ} {e : certificates.Entailment} {r : Row} → Bounded (suc d) e → SmallRow guard_limit r → Bounded d (under r e)
unfolding under
one_more {e = e} {r} b s =
    record {
      few = omega (arith, b.few, length-append e.premises (r ∷ []));
      premises = all_append b.premises (rows.one (small_weaken (omega arith) s) rows.none);
      image = b.image;
      targets = b.targets;
    }

module _ {d : ℕ} {e : certificates.Entailment} (b : Bounded (suc d) e) (r : Row) (t : T (shaped_row e.columns r)) where
  pub side_bounded : Bounded d (under r e)
  side_bounded = one_more b (small_side (limited_small (shaped_limited e.columns r t)))

  pub other_side_bounded : Bounded d (under (other_side r) e)
  other_side_bounded = one_more b (small_other_side (limited_small (shaped_limited e.columns r t)))
