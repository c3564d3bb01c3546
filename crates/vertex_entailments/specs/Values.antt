-- The entailments by value: one for each kind, at the disjunct whose n rows stand at `from` of the row words, with t where the target's disjuncts
-- stand. What they stand for is in the laws of the kinds.
use Rattle.std.specs.Prelude.{List, ℕ, ◌+◌, ◌-◌, ◌≤◌, ℤ}
use Rattle.std.proofs.Common.{arith}
use Rattle.words.specs.Limits.{most_globals, most_locals}
use Rattle.programs.specs.ProgramWords.{p, locals, parameters, k}
use Rattle.programs.specs.ProgramForm.{ProgramForm}
use Rattle.programs.proofs.DecodedNumbers.{parameters_most, locals_most, k_most}
use Rattle.certificates.specs.CertificateWords.{row_count}
use Rattle.certificates.specs.CertificateWords.{disjuncts_end}
use Rattle.program_readers.specs.Sizes.{Header}
use Rattle.program_readers.specs.declared.places.Sizes.{Sizes}
use Rattle.entailments.specs.declared.Image.{Image}
use Rattle.entailments.specs.declared.Image.TheVariants.{Start, Entry, Return, Exit}
use Rattle.entailments.specs.declared.Added.{Added}
use Rattle.entailments.specs.declared.Added.TheVariants.{Nothing, Summary}
use Rattle.entailments.specs.declared.Shape.{Shape}
use Rattle.entailments.specs.declared.Entailment.{Entailment}
use Rattle.entailments.specs.Meaning.{procedure_columns}
use Rattle.entailments.specs.Forms.{ShapeForm}
use Rattle.vertex_entailments.specs.declared.targets.Target.{Target}

-- the columns of procedure q, beside the k of the path that is left
abbrev pub shape_of : List ℤ → Sizes → ℕ → ℕ → Shape
shape_of program sizes k q = record { k = k; globals = sizes.globals; parameters = parameters program q; others = locals program q - parameters program q }

pub shape_form_lem : {program : List ℤ} {sizes : Sizes} → Header program sizes → ProgramForm program → (columns q : ℕ) → columns ≤ most_globals + most_locals → 1 ≤ q → q ≤ p program
    → ShapeForm (shape_of program sizes columns q)
shape_form_lem {program} h f columns q few l m =
    record { few_columns = few; few_globals = h.few_globals; few_locals = omega (arith, parameters_most program f q l m, locals_most program q) }

-- a step inside a procedure asks for the columns alone
abbrev pub path_shape : ℕ → ℕ → Shape
path_shape k globals = record { k = k; globals = globals; parameters = 0; others = 0 }

pub path_shape_lem : {program : List ℤ} {sizes : Sizes} → Header program sizes → (v : ℕ) → ShapeForm (path_shape (k program v) sizes.globals)
path_shape_lem {program} h v = record { few_columns = k_most program v; few_globals = h.few_globals; few_locals = omega arith }

abbrev pub start_value : Shape → Target → Entailment
start_value s t =
    record {
      shape = s;
      columns = procedure_columns s;
      from = 0;
      n = 0;
      added = Nothing;
      image = Start;
      place = t.place;
      count = t.count;
      width = procedure_columns s + procedure_columns s;
      form = t.form;
    }

-- what a summary's disjunct at a place adds to the premises; the actuals stand at `at`
abbrev pub added_at : List ℤ → ℕ → ℕ → Added
added_at rows at place = Summary (place + 1) (row_count rows place) at

module _ (s : Shape) where
  -- the columns of a summary
  abbrev pub summary_columns : ℕ
  summary_columns = s.globals + s.parameters + s.globals

  -- what disjunct j of a summary does
  abbrev pub summary_added : List ℤ → ℕ → ℕ → Target → Added
  summary_added rows at j t = added_at rows at (disjuncts_end t.form rows summary_columns j t.place)

  module _ (from n : ℕ) where
    abbrev pub path_value : Added → Image → Target → Entailment
    path_value added image t =
        record {
          shape = s;
          columns = s.k + s.k;
          from = from;
          n = n;
          added = added;
          image = image;
          place = t.place;
          count = t.count;
          width = s.k + s.k;
          form = t.form;
        }

    abbrev pub exit_value : Target → Entailment
    exit_value t =
        record {
          shape = s;
          columns = s.k + s.k;
          from = from;
          n = n;
          added = Nothing;
          image = Exit;
          place = t.place;
          count = t.count;
          width = summary_columns;
          form = t.form;
        }

    abbrev pub entry_value : ℕ → Target → Entailment
    entry_value at t =
        record {
          shape = s;
          columns = s.k + s.k + s.others;
          from = from;
          n = n;
          added = Nothing;
          image = Entry at;
          place = t.place;
          count = t.count;
          width = procedure_columns s + procedure_columns s;
          form = t.form;
        }

    abbrev pub return_value : Added → Target → Entailment
    return_value added t =
        record {
          shape = s;
          columns = s.k + s.k + s.globals;
          from = from;
          n = n;
          added = added;
          image = Return;
          place = t.place;
          count = t.count;
          width = s.k + s.k;
          form = t.form;
        }
