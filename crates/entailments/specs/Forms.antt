-- Which values are good ones: every number is within its limit, and what a place is for stands there.
use Rattle.std.specs.Prelude.{◌≡◌, List, ℕ, ◌+◌, ◌≤◌, ◌<◌, ℤ, length, drop}
use Rattle.words.specs.Limits.{most_globals, most_locals, most_words, most_disjuncts}
use Rattle.words.specs.declared.StoredForm.{StoredForm}
use Rattle.words.specs.RowWords.{row_of}
use Rattle.words.specs.RowForm.{Expression, Expressions}
use Rattle.certificates.specs.CertificateForm.{DisjunctsForm, DisjunctsStrict}
use Rattle.certificate_readers.specs.Disjuncts.{DisjunctHere}
use Rattle.program_readers.specs.Kinds.{op_named}
use Rattle.entailments.specs.OpCases.{most_op, op_cases}
use Rattle.entailments.specs.Meaning.{procedure_columns}
use Rattle.entailments.specs.declared.Image.{Image}
use Rattle.entailments.specs.declared.Image.TheVariants.{Start, Path, Assign, Entry, Return, Exit, Called}
use Rattle.entailments.specs.declared.Added.{Added}
use Rattle.entailments.specs.declared.Added.TheVariants.{Nothing, Guard, Summary}
use Rattle.entailments.specs.declared.Shape.{Shape}
use Rattle.entailments.specs.declared.Entailment.{Entailment}

pub record ShapeForm (s : Shape) : Type 0 where
  pub few_columns : s.k ≤ most_globals + most_locals
  pub few_globals : s.globals ≤ most_globals
  pub few_locals : s.parameters + s.others ≤ most_locals

module _ (s : Shape) where
  -- the entailment's columns
  unfoldable pub columns_of : Image → ℕ
  columns_of Start = procedure_columns s
  columns_of Path = s.k + s.k
  columns_of (Assign i at) = s.k + s.k
  columns_of (Entry at) = s.k + s.k + s.others
  columns_of Return = s.k + s.k + s.globals
  columns_of Exit = s.k + s.k
  columns_of (Called at) = s.k + s.k + s.globals

  -- the target's
  unfoldable pub width_of : Image → ℕ
  width_of Start = procedure_columns s + procedure_columns s
  width_of Path = s.k + s.k
  width_of (Assign i at) = s.k + s.k
  width_of (Entry at) = procedure_columns s + procedure_columns s
  width_of Return = s.k + s.k
  width_of Exit = s.globals + s.parameters + s.globals
  width_of (Called at) = s.globals + s.parameters + s.globals

-- what else is asked of an image
module _ (words : List ℤ) (s : Shape) where
  unfoldable pub ImageForm : Image → Type 0
  ImageForm Start = s.k ≡ 0
  ImageForm Path = Unit {0}
  ImageForm (Assign i at) = (i < s.k) × Expression words at s.k
  ImageForm (Entry at) = (s.globals ≤ s.k) × Expressions words at s.k s.parameters
  ImageForm Return = s.globals ≤ s.k
  ImageForm Exit = s.globals + s.parameters ≤ s.k
  ImageForm (Called at) = (s.globals ≤ s.k) × Expressions words at s.k s.parameters

  -- and of what is added; `columns` are the entailment's
  unfoldable pub AddedForm : StoredForm → List ℤ → ℕ → Added → Type 0
  AddedForm form rows columns Nothing = Unit {0}
  AddedForm form rows columns (Guard op case at) = (op ≤ most_op) × ((case < length (op_cases (op_named op) (row_of s.k (drop at words)))) × Expression words at s.k)
  AddedForm form rows columns (Summary from n at) =
      (columns ≡ s.k + s.k + s.globals) × (ImageForm (Called at) × DisjunctHere form (s.globals + s.parameters + s.globals) rows from n)

-- an image of the target's m columns, over the entailment's
pub record ImageHere (words : List ℤ) (s : Shape) (image : Image) (columns m : ℕ) : Type 0 where
  pub shape_form : ShapeForm s
  pub image_form : ImageForm words s image
  pub over : columns ≡ columns_of s image
  pub wide : m ≡ width_of s image

pub record EntailmentForm (words rows : List ℤ) (e : Entailment) : Type 0 where
  pub image_here : ImageHere words e.shape e.image e.columns e.width
  pub disjunct_here : DisjunctHere e.form (e.shape.k + e.shape.k) rows e.from e.n
  pub added_form : AddedForm words e.shape e.form rows e.columns e.added
  pub targets_form : DisjunctsForm e.form rows e.width e.count e.place
  pub targets_strict : DisjunctsStrict e.form rows e.width e.count e.place
  pub few_targets : e.count ≤ most_disjuncts
  pub near_targets : e.place ≤ most_words
