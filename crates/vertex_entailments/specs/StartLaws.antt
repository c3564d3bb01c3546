-- The start is what its value stands for: vertex 1 is the first of procedure 1, so its columns are the globals, parameters and other locals of that
-- procedure, and its entry gives the targets.
use Rattle.std.specs.Prelude.{◌≡◌, List, ◌+◌, ◌≤◌, ℤ}
use Rattle.std.proofs.Math.Path.{refl}
use Rattle.std.proofs.Common.{◌∙◌, arith}
use Rattle.words.specs.StoredRows.{RowFormIn, StrictRowIn}
use Rattle.words.proofs.StoredRows.{no_rows_in, take_none, each_none, form_each, strict_each}
use Rattle.programs.specs.Program.{width_of}
use Rattle.programs.specs.ProgramWords.{p}
use Rattle.programs.proofs.DecodedNumbers.{some_procedure_lem, main_first, width_of_lem, parameters_most}
use Rattle.programs.specs.Decode as decode
use Rattle.certificates.specs.CertificateWords.{stored_form, certificate}
use Rattle.certificates.specs.Entailments.{start_entailment}
use Rattle.certificate_readers.specs.Disjuncts.{DisjunctHere}
use Rattle.program_readers.specs.declared.places.Sizes.{Sizes}
use Rattle.entailments.specs.Meaning.{procedure_columns, image_rows, premises_of, meaning_of}
use Rattle.entailments.specs.Forms.{ImageForm, AddedForm, columns_of}
use Rattle.entailments.specs.Forms as forms
use Rattle.vertex_entailments.specs.Given.{Given, StandsFor}
use Rattle.vertex_entailments.specs.Targets.{path_target, first_at}
use Rattle.vertex_entailments.specs.Values.{shape_of, shape_form_lem, start_value}

module _ {program witness : List ℤ} {sizes : Sizes} {rows : List ℤ} (g : Given program witness sizes rows) where
  some : 1 ≤ p program
  some = some_procedure_lem program g.program_form

  main_width : width_of (decode.program program) 1 ≡ procedure_columns (shape_of program sizes 0 1)
  main_width = width_of_lem program 1 (omega arith) some ∙ omega (arith, parameters_most program g.program_form 1 (omega arith) some, g.header.globals)

  -- no rows stand anywhere, in either form
  none_here : DisjunctHere (stored_form witness) (0 + 0) rows 0 0
  none_here =
      record {
        stand =
            record {
              few = omega arith;
              inside = omega (arith, take_none (stored_form witness) (0 + 0) rows);
              formed = (form_each (stored_form witness) rows 0 (0 + 0) 0).1 (each_none (stored_form witness) (0 + 0) rows (λ at. RowFormIn (stored_form witness) rows at (0 + 0)) 0);
            };
        strict = (strict_each (stored_form witness) rows 0 (0 + 0) 0).1 (each_none (stored_form witness) (0 + 0) rows (λ at. StrictRowIn (stored_form witness) rows at (0 + 0)) 0);
      }

  pub start_stands : StandsFor program rows (start_value (shape_of program sizes 0 1) (path_target sizes witness 1)) (start_entailment (decode.program program) (certificate program witness))
  unfolding meaning_of image_rows premises_of start_entailment ImageForm AddedForm columns_of forms.width_of decode.program
  start_stands =
      let t = rw (main_first program g.program_form) at (first_at g 1 (omega arith) some) in
      record {
        is = rw (no_rows_in (stored_form witness) (0 + 0) rows, main_width, t.is, g.header.globals) refl;
        form =
            record {
              image_here = record { shape_form = shape_form_lem g.header g.program_form 0 1 (omega arith) (omega arith) some; image_form = refl; over = refl; wide = refl };
              disjunct_here = none_here;
              added_form = tt;
              targets_form = rw g.header.globals t.form;
              targets_strict = rw g.header.globals t.strict;
              few_targets = t.few;
              near_targets = t.near;
            };
      }
