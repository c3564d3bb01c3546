-- What an entailment by value stands for: an entailment of `certificates/Entailments`. `words` are the program's, `rows` the certificate's row words.
use Rattle.std.specs.Prelude.{List, ◌++◌, ℕ, ◌+◌, ◌-◌, ℤ, set, drop}
use Rattle.rows.specs.Rows.{Row, substitute, substitute_all}
use Rattle.rows.specs.Columns.{columns}
use Rattle.words.specs.declared.StoredForm.{StoredForm}
use Rattle.words.specs.RowWords.{row_of, rows_of}
use Rattle.words.specs.StoredRows.{rows_in}
use Rattle.certificates.specs.CertificateWords.{disjuncts_of}
use Rattle.certificates.specs.Entailments as certificates
use Rattle.certificates.specs.Entailments.{entry_image}
use Rattle.program_readers.specs.Kinds.{op_named}
use Rattle.entailments.specs.OpCases.{guards_now}
use Rattle.entailments.specs.declared.Image.{Image}
use Rattle.entailments.specs.declared.Image.TheVariants.{Start, Path, Assign, Entry, Return, Exit, Called}
use Rattle.entailments.specs.declared.Added.{Added}
use Rattle.entailments.specs.declared.Added.TheVariants.{Nothing, Guard, Summary}
use Rattle.entailments.specs.declared.Shape.{Shape}
use Rattle.entailments.specs.declared.Entailment.{Entailment}

-- the columns that a procedure has, where it is entered
abbrev pub procedure_columns : Shape → ℕ
procedure_columns s = s.globals + (s.parameters + s.others)

module _ (words : List ℤ) (s : Shape) where
  -- the actuals at a place, over the columns now
  abbrev pub actuals_at : ℕ → List Row
  actuals_at at = substitute_all (columns s.k s.k) (rows_of s.k s.parameters (drop at words))

  unfoldable pub image_rows : Image → List Row
  image_rows Start = columns 0 (procedure_columns s) ++ columns 0 (procedure_columns s)
  image_rows Path = columns 0 s.k ++ columns s.k s.k
  image_rows (Assign i at) = columns 0 s.k ++ set (columns s.k s.k) i (substitute (columns s.k s.k) (row_of s.k (drop at words)))
  image_rows (Entry at) = entry_image (columns s.k s.globals) (actuals_at at) (columns (s.k + s.k) s.others)
  image_rows Return = columns 0 s.k ++ (columns (s.k + s.k) s.globals ++ columns (s.k + s.globals) (s.k - s.globals))
  image_rows Exit = columns 0 (s.globals + s.parameters) ++ columns s.k s.globals
  image_rows (Called at) = columns s.k s.globals ++ (actuals_at at ++ columns (s.k + s.k) s.globals)

  -- the premises that are the disjunct d and what is added to it; the row words are of either form
  unfoldable pub premises_of : StoredForm → List ℤ → List Row → Added → List Row
  premises_of form rows d Nothing = d
  premises_of form rows d (Guard op case at) = d ++ guards_now s.k (op_named op) case (row_of s.k (drop at words))
  premises_of form rows d (Summary from n at) = d ++ substitute_all (image_rows (Called at)) (rows_in form (s.globals + s.parameters + s.globals) n (drop from rows))

unfoldable pub meaning_of : List ℤ → List ℤ → Entailment → certificates.Entailment
meaning_of words rows e =
    record {
      columns = e.columns;
      premises = premises_of words e.shape e.form rows (rows_in e.form (e.shape.k + e.shape.k) e.n (drop e.from rows)) e.added;
      image = image_rows words e.shape e.image;
      targets = disjuncts_of e.form e.width e.count (drop e.place rows);
    }
