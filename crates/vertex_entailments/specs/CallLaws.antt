-- The entailments of a call: first the one to the callee's first vertex, then one for each disjunct of its summary to the return point. Each is
-- what its value stands for, and the value has its form: the callee's first vertex is the callee's, the return point the caller's, and the
-- actuals and the disjuncts have their form.
use Rattle.std.specs.Prelude.{◌≡◌, List, ◌∷◌, ◌++◌, map, ℕ, suc, ◌+◌, ◌-◌, ◌≤◌, ◌<◌, ℤ, length, get_or, drop}
use Rattle.std.proofs.Math.Path.{refl}
use Rattle.std.proofs.Common.{subst, arith}
use Rattle.std.proofs.Math.Option.{some}
use Rattle.std.proofs.Math.ListN.{get_elem?}
use Rattle.rows.specs.Rows.{Row, substitute_all}
use Rattle.rows.specs.Columns.{columns}
use Rattle.words.specs.Limits.{most_procedures, most_vertices}
use Rattle.words.specs.RowWords.{rows_of}
use Rattle.words.specs.RowForm.{Expressions}
use Rattle.words.proofs.RowForm.{expressions_stand}
use Rattle.words.specs.StoredRows.{rows_in}
use Rattle.programs.specs.Program.{Program, locals_of, width_of}
use Rattle.programs.specs.ProgramWords.{G, k, first, parameters, procedure_of}
use Rattle.programs.proofs.DecodedNumbers.{procedure_range, first_of_lem, locals_of_lem, others_of_lem, k_most}
use Rattle.programs.specs.StatementRows.{IsCall, CallForm}
use Rattle.programs.proofs.StatementRows.{called}
use Rattle.programs.specs.Decode as decode
use Rattle.programs.specs.Decode.{meaning}
use Rattle.certificates.specs.Certificate.{Disjunct, Certificate, summary_edges}
use Rattle.certificates.specs.CertificateWords.{stored_form, row_count, certificate}
use Rattle.certificates.specs.CertificateWords.{disjuncts_end}
use Rattle.certificates.specs.Entailments.{from_statement, entry_entailment, return_entailment, summary_image}
use Rattle.certificate_readers.specs.Disjuncts.{DisjunctHere, chosen, disjunct_here_lem, here_within}
use Rattle.row_buffers.proofs.RowsOfWords.{all_narrow}
use Rattle.program_readers.specs.declared.places.Sizes.{Sizes}
use Rattle.row_buffers.proofs.MovedColumns.{path_rows}
use Rattle.entailments.specs.declared.Shape.{Shape}
use Rattle.entailments.specs.Meaning.{image_rows, premises_of, meaning_of}
use Rattle.entailments.specs.Forms.{ShapeForm, ImageForm, AddedForm, columns_of}
use Rattle.entailments.specs.Forms as forms
use Rattle.vertex_entailments.specs.declared.targets.Target.{Target}
use Rattle.vertex_entailments.specs.Given.{Given, cases_of, disjunct_at, no_entailment, StandsFor}
use Rattle.vertex_entailments.specs.StatementRows.{row_cases}
use Rattle.vertex_entailments.specs.Targets.{EdgesAt, path_target, summary_target, successor_at, first_at, summary_at_lem}
use Rattle.vertex_entailments.specs.Cases.{mapped}
use Rattle.vertex_entailments.specs.Values.{shape_of, shape_form_lem, summary_columns, summary_added, entry_value, return_value}
use Rattle.vertex_entailments.specs.CountLaws.{call_count}
use Rattle.vertex_entailments.specs.KindLaws.{successor_few, width}

module _ {program witness : List ℤ} {sizes : Sizes} {rows : List ℤ} (g : Given program witness sizes rows) {v back callee actuals : ℕ} (c : IsCall program v back callee actuals) where
  abbrev P : Program
  P = decode.program program

  abbrev C : Certificate
  C = certificate program witness

  call_form_lem : CallForm program v back callee actuals
  call_form_lem = called program v g.program_form c

  -- ---- the numbers

  pub callee_range : (1 ≤ callee) × (callee ≤ sizes.procedures)
  callee_range = (call_form_lem.callee_low, omega (arith, call_form_lem.callee_high, g.header.procedures))

  pub callee_few : callee ≤ most_procedures
  callee_few = omega (arith, callee_range.1, g.header.few_procedures)

  pub back_few : back ≤ most_vertices
  back_few = successor_few g v c.low back call_form_lem.goes

  abbrev shape : Shape
  shape = shape_of program sizes (k program v) callee

  pub callee_shape : ShapeForm shape
  callee_shape = shape_form_lem g.header g.program_form (k program v) callee (k_most program v) call_form_lem.callee_low call_form_lem.callee_high

  caller_width : width_of P (procedure_of program v) ≡ k program v
  caller_width = width g v c.low (omega (arith, c.high))

  caller_locals : locals_of P (procedure_of program v) ≡ k program v - G program
  unfolding k
  caller_locals =
      let r = procedure_range program g.program_form v c.low (omega (arith, c.high)) in
      omega (arith, locals_of_lem program (procedure_of program v) r.0 r.1)

  -- the globals are among the columns, and the actuals over them stand in the words
  actuals_here : (sizes.globals ≤ k program v) × Expressions program actuals (k program v) (parameters program callee)
  unfolding k
  actuals_here = (omega (arith, g.header.globals), expressions_stand program actuals (k program v) (parameters program callee) call_form_lem.inside call_form_lem.form)

  -- ---- the summary's disjuncts

  abbrev target : Target
  target = summary_target sizes witness callee

  pub summaries_at : EdgesAt rows (summary_columns shape) target (summary_edges C callee)
  summaries_at = rw g.header.globals (summary_at_lem g callee call_form_lem.callee_low call_form_lem.callee_high)

  module _ (j : ℕ) (h : j < target.count) where
    abbrev summary_at : ℕ
    summary_at = disjuncts_end (stored_form witness) rows (summary_columns shape) j target.place

    abbrev summary : Disjunct
    summary = rows_in (stored_form witness) (summary_columns shape) (row_count rows summary_at) (drop (summary_at + 1) rows)

    summary_is : get_elem? (summary_edges C callee) j ≡ some summary
    summary_is = rw summaries_at.is (chosen (stored_form witness) rows (summary_columns shape) target.count target.place j summaries_at.form h).is

    summary_here : DisjunctHere (stored_form witness) (summary_columns shape) rows (summary_at + 1) (row_count rows summary_at)
    summary_here = disjunct_here_lem (stored_form witness) rows (summary_columns shape) j summary_at (row_count rows summary_at) summaries_at.form summaries_at.strict h refl refl

    -- it stands in the row words
    pub summary_inside : disjuncts_end (stored_form witness) rows (summary_columns shape) j target.place < length rows
    summary_inside = omega (arith, summary_here.stand.inside)

  -- ---- the entailments

  abbrev rows_of_actuals : List Row
  rows_of_actuals = rows_of (k program v) (parameters program callee) (drop actuals program)

  call_cases : (d : Disjunct) → cases_of program witness v d ≡ entry_entailment P C (procedure_of program v) callee rows_of_actuals d ∷ map (return_entailment P C (procedure_of program v) back rows_of_actuals d) (summary_edges C callee)
  unfolding meaning from_statement
  call_cases d = row_cases program witness v c.low c.high c.row d

  -- behind the entry there are as many as disjuncts of the summary
  pub return_few : (d : Disjunct) (case : ℕ) → 0 < case → case < length (cases_of program witness v d) → case - 1 < target.count
  return_few d case l h =
      let e : length (cases_of program witness v d) ≡ 1 + target.count = rw (g.header.statements, g.header.procedures) (call_count program witness v g.program_form c d) in
      omega arith

  module _ {from m : ℕ} (d : DisjunctHere (stored_form witness) (k program v + k program v) rows from m) where
    abbrev here : Disjunct
    here = disjunct_at (stored_form witness) program rows v from m

    -- its rows over the path's columns, whatever columns there are besides
    own_columns : substitute_all (columns 0 (k program v) ++ columns (k program v) (k program v)) here ≡ here
    own_columns = path_rows (k program v) (all_narrow (here_within d))

    entry_stands : StandsFor program rows (entry_value shape from m actuals (path_target sizes witness (first program callee))) (entry_entailment P C (procedure_of program v) callee rows_of_actuals here)
    unfolding meaning_of image_rows premises_of entry_entailment ImageForm AddedForm columns_of forms.width_of decode.program
    entry_stands =
        let t = first_at g callee call_form_lem.callee_low call_form_lem.callee_high in
        record {
          is = rw (first_of_lem program callee call_form_lem.callee_low call_form_lem.callee_high, t.is, others_of_lem program callee call_form_lem.callee_low call_form_lem.callee_high, caller_width, g.header.globals, own_columns) refl;
          form =
              record {
                image_here = record { shape_form = callee_shape; image_form = actuals_here; over = refl; wide = refl };
                disjunct_here = d;
                added_form = tt;
                targets_form = rw g.header.globals t.form;
                targets_strict = rw g.header.globals t.strict;
                few_targets = t.few;
                near_targets = t.near;
              };
        }

    pub entry_at : StandsFor program rows (entry_value shape from m actuals (path_target sizes witness (first program callee))) (get_or (cases_of program witness v here) 0 no_entailment)
    entry_at = rw (call_cases here) entry_stands

    module _ (j : ℕ) (h : j < target.count) where
      return_stands : StandsFor program rows (return_value shape from m (summary_added shape rows actuals j target) (path_target sizes witness back)) (return_entailment P C (procedure_of program v) back rows_of_actuals here (summary j h))
      unfolding meaning_of image_rows premises_of return_entailment summary_image ImageForm AddedForm columns_of forms.width_of decode.program
      return_stands =
          let t = successor_at g v back call_form_lem.goes in
          record {
            is = rw (caller_width, caller_locals, t.is, g.header.globals, own_columns) refl;
            form =
                record {
                  image_here = record { shape_form = callee_shape; image_form = actuals_here.0; over = refl; wide = refl };
                  disjunct_here = d;
                  added_form = (refl, (actuals_here, summary_here j h));
                  targets_form = t.form;
                  targets_strict = t.strict;
                  few_targets = t.few;
                  near_targets = t.near;
                };
          }

    pub return_at : (case : ℕ) → 0 < case → case < length (cases_of program witness v here)
        → StandsFor program rows (return_value shape from m (summary_added shape rows actuals (case - 1) target) (path_target sizes witness back)) (get_or (cases_of program witness v here) case no_entailment)
    return_at case l h =
        let j : case - 1 < target.count = return_few here case l h in
        let e : suc (case - 1) ≡ case = omega arith in
        let f = mapped (return_entailment P C (procedure_of program v) back rows_of_actuals here) (summary_edges C callee) (case - 1) no_entailment (summary_is (case - 1) j) in
        subst (λ (x : ℕ). StandsFor program rows (return_value shape from m (summary_added shape rows actuals (case - 1) target) (path_target sizes witness back)) (get_or (cases_of program witness v here) x no_entailment)) e
        (rw (call_cases here, f) (return_stands (case - 1) j))
