-- The entailments of a vertex that is no call, by its row: each is what the value of its kind stands for, because the program's look-ups are
-- look-ups in the words and a target's edges are its entry's. And the value has its form, from the forms of program and certificate.
use Rattle.std.specs.Prelude.{◌≡◌, ℕ, ◌+◌, ◌-◌, ◌≤◌, ◌<◌, ℤ, length, get_or, drop}
use Rattle.std.proofs.Math.Path.{refl}
use Rattle.std.proofs.Common.{sym, arith}
use mathlib.Core.List.{List, [], ◌++◌, append-nil}
use Rattle.rows.specs.Rows.{substitute_all}
use Rattle.rows.specs.Columns.{columns}
use Rattle.words.specs.Limits.{most_vertices}
use Rattle.words.specs.RowWords.{row_of}
use Rattle.words.specs.RowForm.{Expression}
use Rattle.programs.specs.Program.{Program, width_of}
use Rattle.programs.specs.ProgramWords.{n, p, parameters, procedure_of, k}
use Rattle.programs.specs.Decode as decode
use Rattle.programs.specs.Decode.{skip_row, assign_row, fields_of, expression, meaning}
use Rattle.programs.proofs.DecodedNumbers.{procedure_range, parameters_of_lem, width_of_lem, parameters_most, k_most}
use Rattle.programs.specs.StatementRows.{Successor, RowHere}
use Rattle.programs.proofs.StatementRows.{row_here}
use Rattle.certificates.specs.Certificate.{Disjunct, Certificate}
use Rattle.certificates.specs.CertificateWords.{stored_form, certificate}
use Rattle.certificates.specs.Entailments as certificates
use Rattle.certificates.specs.Entailments.{guard_entailment, assign_entailment, exit_entailment, from_statement}
use Rattle.certificate_readers.specs.Disjuncts.{DisjunctHere}
use Rattle.program_readers.specs.declared.places.Sizes.{Sizes}
use Rattle.program_readers.specs.declared.places.Vertex.{Vertex}
use Rattle.entailments.specs.declared.Image.{Image}
use Rattle.entailments.specs.declared.Image.TheVariants.{Path, Assign}
use Rattle.entailments.specs.declared.Added.{Added}
use Rattle.entailments.specs.declared.Added.TheVariants.{Nothing, Guard}
use Rattle.entailments.specs.declared.Shape.{Shape}
use Rattle.entailments.specs.declared.Entailment.{Entailment}
use Rattle.entailments.specs.Meaning.{image_rows, premises_of, meaning_of}
use Rattle.entailments.specs.Forms.{ImageForm, AddedForm, ImageHere, EntailmentForm, columns_of}
use Rattle.entailments.specs.Forms as forms
use Rattle.program_readers.specs.declared.kinds.Op.{Op}
use Rattle.program_readers.specs.Kinds.{op_number, op_number_named}
use Rattle.entailments.specs.OpCases.{opposite_op, op_cases, case_count}
use Rattle.entailments.proofs.OpCases.{number_most}
use Rattle.vertex_entailments.specs.declared.sides.Side.{Side}
use Rattle.vertex_entailments.specs.Given.{Given, cases_of, disjunct_at, no_entailment, StandsFor}
use Rattle.vertex_entailments.specs.StatementRows.{row_cases, exit_entailment_lem}
use Rattle.vertex_entailments.specs.Targets.{path_target, summary_target, successor_at, summary_at_lem}
use Rattle.vertex_entailments.specs.Cases.{only_case}
use Rattle.vertex_entailments.specs.Sides.{side_at, true_side, false_side, by_side}
use Rattle.vertex_entailments.specs.Conditions.{IsCondition, yeas, nays, condition_count, true_case, false_case}
use Rattle.vertex_entailments.specs.Values.{shape_of, shape_form_lem, path_shape, path_shape_lem, path_value, exit_value}

module _ {program witness : List ℤ} {sizes : Sizes} {rows : List ℤ} (g : Given program witness sizes rows) where
  abbrev P : Program
  P = decode.program program

  abbrev C : Certificate
  C = certificate program witness

  module _ (v : ℕ) (low : 1 ≤ v) where
    pub successor_few : (u : ℕ) → Successor program v u → u ≤ most_vertices
    successor_few u s = omega (arith, s.known, g.header.statements, g.header.procedures, g.header.few_statements, g.header.few_procedures)

    module _ (high : v ≤ n program + p program) where
      pub width : width_of P (procedure_of program v) ≡ k program v
      unfolding k
      width = let r = procedure_range program g.program_form v low high in width_of_lem program (procedure_of program v) r.0 r.1

      -- ---- to a vertex u of the same procedure

      module _ {u : ℕ} (s : Successor program v u) {from m : ℕ} (d : DisjunctHere (stored_form witness) (k program v + k program v) rows from m) where
        abbrev shape : Shape
        shape = path_shape (k program v) sizes.globals

        abbrev here : Disjunct
        here = disjunct_at (stored_form witness) program rows v from m

        abbrev value : Added → Image → Entailment
        value added image = path_value shape from m added image (path_target sizes witness u)

        path_form : (added : Added) (image : Image) → ImageHere program shape image (k program v + k program v) (k program v + k program v)
            → AddedForm program shape (stored_form witness) rows (k program v + k program v) added → EntailmentForm program rows (value added image)
        path_form added image i a =
            let t = successor_at g v u s in
            record { image_here = i; disjunct_here = d; added_form = a; targets_form = t.form; targets_strict = t.strict; few_targets = t.few; near_targets = t.near }

        guard_stands : (added : Added) (guard : Disjunct) → premises_of program shape (stored_form witness) rows here added ≡ here ++ substitute_all (columns (k program v) (k program v)) guard
            → AddedForm program shape (stored_form witness) rows (k program v + k program v) added
            → StandsFor program rows (value added Path) (guard_entailment P C (procedure_of program v) u here guard)
        unfolding meaning_of image_rows guard_entailment ImageForm columns_of forms.width_of
        guard_stands added guard e a =
            record {
              is = rw (width, (successor_at g v u s).is, e) refl;
              form = path_form added Path (record { shape_form = path_shape_lem g.header v; image_form = tt; over = refl; wide = refl }) a;
            }

        skip_stands : StandsFor program rows (value Nothing Path) (guard_entailment P C (procedure_of program v) u here [])
        unfolding premises_of AddedForm substitute_all
        skip_stands = guard_stands Nothing [] (sym (append-nil here)) tt

        assign_stands : (i at : ℕ) → i < k program v → Expression program at (k program v)
            → StandsFor program rows (value Nothing (Assign i at)) (assign_entailment P C (procedure_of program v) u i (row_of (k program v) (drop at program)) here)
        unfolding meaning_of image_rows premises_of assign_entailment ImageForm AddedForm columns_of forms.width_of
        assign_stands i at h x =
            record {
              is = rw (width, (successor_at g v u s).is) refl;
              form = path_form Nothing (Assign i at) (record { shape_form = path_shape_lem g.header v; image_form = (h, x); over = refl; wide = refl }) tt;
            }

        -- by case j of an op
        case_stands : (op : Op) (j at : ℕ) → j < length (op_cases op (row_of (k program v) (drop at program))) → Expression program at (k program v)
            → StandsFor program rows (value (Guard (op_number op) j at) Path) (guard_entailment P C (procedure_of program v) u here (get_or (op_cases op (row_of (k program v) (drop at program))) j []))
        unfolding premises_of AddedForm
        case_stands op j at b x =
            guard_stands (Guard (op_number op) j at) (get_or (op_cases op (row_of (k program v) (drop at program))) j []) (rw (op_number_named op) refl) (number_most op, (rw (op_number_named op) b, x))

      -- ---- the two sides of a condition

      module _ {yea nay : Vertex} {op : Op} {at : ℕ} (c : IsCondition program witness v yea.0 nay.0 op at) where
        module _ {from m : ℕ} (d : DisjunctHere (stored_form witness) (k program v + k program v) rows from m) (case : ℕ) (h : case < length (cases_of program witness v (disjunct_at (stored_form witness) program rows v from m))) where
          abbrev disjunct : Disjunct
          disjunct = disjunct_at (stored_form witness) program rows v from m

          abbrev listed : List certificates.Entailment
          listed = cases_of program witness v disjunct

          abbrev side_value : Side → Entailment
          side_value x = path_value (path_shape (k program v) sizes.globals) from m (Guard (op_number x.op) x.case at) Path (path_target sizes witness x.next.0)

          true_stands : case < case_count op → StandsFor program rows (side_value (true_side yea nay op case)) (get_or listed case no_entailment)
          true_stands b = rw (true_case c disjunct case b) (case_stands c.here.when_true d op case at (omega (arith, yeas c)) c.here.here)

          false_stands : case_count op ≤ case → StandsFor program rows (side_value (false_side yea nay op case)) (get_or listed case no_entailment)
          false_stands b =
              rw (false_case c disjunct case b h)
              (case_stands c.here.when_false d (opposite_op op) (case - case_count op) at (omega (arith, nays c, condition_count c disjunct)) c.here.here)

          pub side_stands : StandsFor program rows (side_value (side_at yea nay op case)) (get_or listed case no_entailment)
          side_stands = by_side yea nay op case (λ x. StandsFor program rows (side_value x) (get_or listed case no_entailment)) true_stands false_stands

      -- ---- an exit

      module _ (past : n program < v) {from m : ℕ} (d : DisjunctHere (stored_form witness) (k program v + k program v) rows from m) where
        abbrev q : ℕ
        q = procedure_of program v

        range : (1 ≤ q) × (q ≤ p program)
        range = procedure_range program g.program_form v low high

        exit_columns : sizes.globals + parameters program q ≤ k program v
        unfolding k
        exit_columns = omega (arith, g.header.globals, parameters_most program g.program_form q range.0 range.1)

        exit_stands : StandsFor program rows (exit_value (shape_of program sizes (k program v) q) from m (summary_target sizes witness q)) (exit_entailment P C q (disjunct_at (stored_form witness) program rows v from m))
        unfolding meaning_of image_rows premises_of exit_entailment ImageForm AddedForm columns_of forms.width_of decode.program
        exit_stands =
            let t = summary_at_lem g q range.0 range.1 in
            record {
              is = rw (width, t.is, parameters_of_lem program q range.0 range.1, g.header.globals) refl;
              form =
                  record {
                    image_here = record { shape_form = shape_form_lem g.header g.program_form (k program v) q (k_most program v) range.0 range.1; image_form = exit_columns; over = refl; wide = refl };
                    disjunct_here = d;
                    added_form = tt;
                    targets_form = rw g.header.globals t.form;
                    targets_strict = rw g.header.globals t.strict;
                    few_targets = t.few;
                    near_targets = t.near;
                  };
            }

        pub exit_at : (case : ℕ) → case < length (cases_of program witness v (disjunct_at (stored_form witness) program rows v from m))
            → StandsFor program rows (exit_value (shape_of program sizes (k program v) q) from m (summary_target sizes witness q)) (get_or (cases_of program witness v (disjunct_at (stored_form witness) program rows v from m)) case no_entailment)
        exit_at case h = rw (only_case no_entailment case (exit_entailment_lem program witness v past (disjunct_at (stored_form witness) program rows v from m)) h) exit_stands

    -- ---- by the row

    module _ (high : v ≤ n program) where
      inside : v ≤ n program + p program
      inside = omega arith

      pub skip_next : {u : ℕ} → fields_of program v ≡ skip_row u → Successor program v u
      unfolding RowHere
      skip_next {u} e = row_here program v g.program_form (skip_row u) low high e

      pub assign_next : {u i at : ℕ} → fields_of program v ≡ assign_row u i at → Successor program v u × ((i < k program v) × Expression program at (k program v))
      unfolding RowHere
      assign_next {u} {i} {at} e = row_here program v g.program_form (assign_row u i at) low high e

      module _ {from m : ℕ} (d : DisjunctHere (stored_form witness) (k program v + k program v) rows from m) (case : ℕ) (h : case < length (cases_of program witness v (disjunct_at (stored_form witness) program rows v from m))) where
        pub skip_at : {u : ℕ} → fields_of program v ≡ skip_row u
            → StandsFor program rows (path_value (path_shape (k program v) sizes.globals) from m Nothing Path (path_target sizes witness u)) (get_or (cases_of program witness v (disjunct_at (stored_form witness) program rows v from m)) case no_entailment)
        unfolding from_statement meaning
        skip_at e = rw (only_case no_entailment case (row_cases program witness v low high e (disjunct_at (stored_form witness) program rows v from m)) h) (skip_stands inside (skip_next e) d)

        pub assign_at_lem : {u i at : ℕ} → fields_of program v ≡ assign_row u i at
            → StandsFor program rows (path_value (path_shape (k program v) sizes.globals) from m Nothing (Assign i at) (path_target sizes witness u)) (get_or (cases_of program witness v (disjunct_at (stored_form witness) program rows v from m)) case no_entailment)
        unfolding from_statement meaning expression
        assign_at_lem {u} {i} {at} e =
            let (s, (b, x)) = assign_next e in
            rw (only_case no_entailment case (row_cases program witness v low high e (disjunct_at (stored_form witness) program rows v from m)) h) (assign_stands inside s d i at b x)
