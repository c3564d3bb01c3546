-- How many premises an entailment by value has: the disjunct's rows and those that are added, none, a case's or a summary disjunct's.
use Rattle.std.specs.Prelude.{◌≡◌, refl, Bool, true, false, cond, List, [], eqb, ℤ, drop, get_or}
use Rattle.std.proofs.Math.Path.{ap}
use Rattle.std.proofs.Common.{◌∙◌, eq-eqb, ne_eqb}
use Prim.Native.Nat.{ℕ, ◌+◌, ◌≤◌, ◌<◌}
use native.Mathlib.Omega.{arith}
use Rattle.std.proofs.Math.ListN.{length, length-append}
use Rattle.rows.specs.Rows.{Row, substitute_all}
use Rattle.rows.specs.Columns.{columns}
use Rattle.rows.proofs.Blocks.{length_substituted}
use Rattle.words.specs.Limits.{most_rows}
use Rattle.words.specs.RowWords.{row_of}
use Rattle.words.specs.declared.StoredForm.{StoredForm}
use Rattle.words.specs.StoredRows.{rows_in}
use Rattle.words.proofs.StoredRows.{length_in}
use Rattle.program_readers.specs.declared.kinds.Op.{Op}
use Rattle.program_readers.specs.declared.kinds.Op.TheVariants.{Choice, Less, Greater, AtMost, AtLeast, Equal, Different}
use Rattle.program_readers.specs.Kinds.{op_number, op_named, op_named_number}
use Rattle.entailments.specs.OpCases.{most_op, op_cases, guards_now, case_rows}
use Rattle.entailments.proofs.OpCases.{case_rows_lem}
use Rattle.entailments.specs.Meaning.{image_rows, premises_of, meaning_of}
use Rattle.entailments.specs.Forms.{AddedForm, EntailmentForm}
use Rattle.entailments.specs.declared.Added.{Added}
use Rattle.entailments.specs.declared.Added.TheVariants.{Nothing, Guard, Summary}
use Rattle.entailments.specs.declared.Image.TheVariants.{Called}
use Rattle.entailments.specs.declared.Shape.{Shape}
use Rattle.entailments.specs.declared.Entailment.{Entailment}

-- `?` has no row, `=` has two, each other op one in a case
unfoldable pub guard_rows : ℕ → ℕ
guard_rows op = cond (eqb op 0) 0 (cond (eqb op 5) 2 1)

unfoldable pub added_rows : Added → ℕ
added_rows Nothing = 0
added_rows (Guard op case at) = guard_rows op
added_rows (Summary from n at) = n

pub guard_most : (op : ℕ) → guard_rows op ≤ 2
unfolding guard_rows
guard_most op = go (eqb op 0) (eqb op 5)
  where
    go : (a b : Bool) → cond a 0 (cond b 2 1) ≤ 2
    go true b = omega arith
    go false true = omega arith
    go false false = omega arith

rows_counted : (op : Op) (case : ℕ) (e : Row) → length (case_rows e op case) ≡ guard_rows (op_number op)
unfolding guard_rows case_rows
rows_counted Choice case e = refl
rows_counted Less case e = refl
rows_counted Greater case e = refl
rows_counted AtMost case e = refl
rows_counted AtLeast case e = refl
rows_counted Equal case e = refl
rows_counted Different case e = refl

length_guards : (k op case : ℕ) (e : Row) → op ≤ most_op → case < length (op_cases (op_named op) e) → length (guards_now k (op_named op) case e) ≡ guard_rows op
length_guards k op case e h l =
    let o : Op = op_named op in
    length_substituted (columns k k) (get_or (op_cases o e) case []) ∙ (ap length (case_rows_lem e o case l) ∙ (rows_counted o case e ∙ ap guard_rows (op_named_number op h)))

-- what is added is few, and so many are the premises
unfoldable pub FewAdded : Added → Type 0
FewAdded Nothing = Unit
FewAdded (Guard op case at) = Unit
FewAdded (Summary from n at) = n ≤ most_rows

module _ (words rows : List ℤ) (s : Shape) (form : StoredForm) (columns : ℕ) (d : List Row) where
  length_premises : (added : Added) → AddedForm words s form rows columns added → length (premises_of words s form rows d added) ≡ length d + added_rows added
  unfolding AddedForm premises_of added_rows
  length_premises Nothing f = omega arith
  length_premises (Guard op case at) f = length-append d (guards_now s.k (op_named op) case (row_of s.k (drop at words))) ∙ ap (λ (m : ℕ). length d + m) (length_guards s.k op case (row_of s.k (drop at words)) f.0 f.1.0)
  length_premises (Summary from n at) f =
      let m : ℕ = s.globals + s.parameters + s.globals in
      length-append d (substitute_all (image_rows words s (Called at)) (rows_in form m n (drop from rows)))
      ∙ ap (λ (i : ℕ). length d + i) (length_substituted (image_rows words s (Called at)) (rows_in form m n (drop from rows)) ∙ length_in form m n (drop from rows))

  few_added_lem : (added : Added) → AddedForm words s form rows columns added → FewAdded added
  unfolding AddedForm FewAdded
  few_added_lem Nothing f = tt
  few_added_lem (Guard op case at) f = tt
  few_added_lem (Summary from n at) f = f.1.1.stand.few

module _ (words rows : List ℤ) (e : Entailment) (f : EntailmentForm words rows e) where
  pub premises_are : length (meaning_of words rows e).premises ≡ e.n + added_rows e.added
  unfolding meaning_of
  premises_are =
      length_premises words rows e.shape e.form e.columns (rows_in e.form (e.shape.k + e.shape.k) e.n (drop e.from rows)) e.added f.added_form
      ∙ ap (λ (m : ℕ). m + added_rows e.added) (length_in e.form (e.shape.k + e.shape.k) e.n (drop e.from rows))

  pub added_few : FewAdded e.added
  added_few = few_added_lem words rows e.shape e.form e.columns [] e.added f.added_form

-- ---- by the op, and by what is added

pub guard_none : (op : ℕ) → op ≡ 0 → 0 ≡ guard_rows op
unfolding guard_rows
guard_none op e = rw (eq-eqb op 0 e)

pub guard_two : (op : ℕ) → op ≡ 5 → 2 ≡ guard_rows op
unfolding guard_rows
guard_two op e = rw (ne_eqb op 0 (λ z. omega arith), eq-eqb op 5 e)

pub guard_one : (op : ℕ) → (op ≡ 0 → ⊥) → (op ≡ 5 → ⊥) → 1 ≡ guard_rows op
unfolding guard_rows
guard_one op e f = rw (ne_eqb op 0 e, ne_eqb op 5 f)

pub adds_nothing : {x : Added} → x ≡ Nothing → added_rows x ≡ 0
unfolding added_rows
adds_nothing e = rw e

pub adds_guard : {x : Added} {op case at : ℕ} → x ≡ Guard op case at → added_rows x ≡ guard_rows op
unfolding added_rows
adds_guard e = rw e

pub adds_summary : {x : Added} {from n at : ℕ} → x ≡ Summary from n at → FewAdded x → (added_rows x ≡ n) × (n ≤ most_rows)
unfolding added_rows FewAdded
adds_summary e f = (rw e, rw e at f)
