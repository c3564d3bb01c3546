-- Expressions over the globals and then the locals: a value is the constant, the globals' products and the locals', and the values of
-- expressions one after the other grow at their end.
use Rattle.std.specs.Prelude.{◌≡◌, List, [], ◌∷◌, ℕ, ◌+◌, ◌*◌, ◌≤◌, ◌<◌, ℤ, nat_abs, ◌+ℤ◌, take, drop}
use Rattle.std.proofs.Math.Path.{refl}
use Rattle.std.proofs.Common.{sym, ap, ◌∙◌, add_assoc, arith, leb→le, length-take, length-drop}
use Rattle.std.proofs.Math.IntN.{+ℤ_assoc}
use Rattle.std.proofs.Math.ListN.{length, set}
use Rattle.std.proofs.Math.Seq.{take-add, drop-drop}
use Rattle.rows.specs.Rows.{dot, value, values}
use Rattle.rows.proofs.Blocks.{values_append, length_values}
use Rattle.words.specs.Limits.{most_locals, constant_limit, coefficient_limit}
use Rattle.words.specs.Words.{word, small}
use Rattle.words.specs.RowWords.{constant_words, constant_at, row_size, row_of, rows_by, rows_of}
use Rattle.words.proofs.RowLaws.{constant_dropped, length_rows, rows_more}
use Rattle.words.specs.RowForm.{Expression}
use Rattle.words.specs.Ranges.{Small}
use Rattle.words.proofs.Ranges.{small_between}
use Rattle.programs.specs.Decode.{expression}
use Rattle.run_state.specs.Frames.{frame_size, padded}
use Rattle.run_state.specs.ScopeValues.{values_of, width_of, Scoped, Coefficients}
use Rattle.run_state.specs.ValueLaws.{dot_append, sum_size}
use Rattle.run_state.specs.Padded.{next_padded}
use Rattle.run_state.specs.declared.expressions.Scope.{Scope}

size_of : (limit : ℕ) (z : ℤ) → Small limit z → nat_abs z ≤ limit
unfolding small
size_of limit z h = leb→le (nat_abs z) limit ((small_between limit z).1 h)

-- ---- one expression

module _ (words : List ℤ) (at : ℕ) (globals frames : List ℤ) (scope : Scope) (x : Expression words at (width_of scope)) (b : Scoped globals frames scope) where
  pub globals_coefficients : Coefficients words (at + constant_words) scope.globals (constant_at words at)
  globals_coefficients =
      record {
        inside = omega (arith, x.inside);
        small = λ i h. size_of coefficient_limit (word words (at + constant_words + i)) (x.form.coefficients i (omega arith));
        fits = omega (arith, size_of constant_limit (constant_at words at) x.form.constant, b.shared.few);
      }

  -- the constant and the globals' products
  abbrev first : ℤ
  first = constant_at words at +ℤ dot (take scope.globals (drop (at + constant_words) words)) (take scope.globals globals)

  pub locals_coefficients : Coefficients words (at + constant_words + scope.globals) scope.locals first
  locals_coefficients =
      record {
        inside = omega (arith, x.inside);
        small = λ i h. rw (add_assoc (at + constant_words) scope.globals i) (size_of coefficient_limit (word words (at + constant_words + (scope.globals + i))) (x.form.coefficients (scope.globals + i) (omega arith)));
        fits = omega (arith, size_of constant_limit (constant_at words at) x.form.constant, sum_size words (at + constant_words) globals 0 scope.globals (constant_at words at) globals_coefficients b.shared scope.globals (omega arith), b.shared.few, b.own.few);
      }

  pub value_parts : first +ℤ dot (take scope.locals (drop (at + constant_words + scope.globals) words)) (take scope.locals (drop scope.from frames)) ≡ value (expression words (width_of scope) at) (values_of globals frames scope)
  unfolding value expression row_of
  value_parts =
      let same : length (take scope.globals (drop (at + constant_words) words)) ≡ length (take scope.globals globals) =
      simp (length-take, length-drop) (omega (arith, x.inside, b.shared.inside)) in
      rw (
        constant_dropped at words,
        drop-drop constant_words at words,
        take-add scope.globals scope.locals (drop (at + constant_words) words),
        drop-drop scope.globals (at + constant_words) words,
        dot_append (take scope.globals (drop (at + constant_words) words)) (take scope.locals (drop (at + constant_words + scope.globals) words)) (take scope.globals globals) (take scope.locals (drop scope.from frames)) same,
        +ℤ_assoc,
      )

-- ---- expressions one after the other, in a frame behind the procedure and the caller's vertex

module _ (words : List ℤ) (at columns : ℕ) (s : List ℤ) (q v : ℤ) where
  -- the frame with the values of the first i expressions
  abbrev firsts : ℕ → List ℤ
  firsts i = q ∷ v ∷ values (rows_of columns i (drop at words)) s

  pub no_actual : firsts 0 ≡ q ∷ v ∷ []
  unfolding rows_by rows_of values
  no_actual = refl

  pub next_actual : (i : ℕ) → i < most_locals → set (padded frame_size (firsts i)) (2 + i) (value (expression words columns (at + i * row_size columns)) s) ≡ padded frame_size (firsts (i + 1))
  unfolding values expression
  next_actual i h =
      let few : length (firsts i) ≡ 2 + i = omega (arith, length_values (rows_of columns i (drop at words)) s, length_rows columns i (drop at words)) in
      rw (rows_more columns i (drop at words), values_append (rows_of columns i (drop at words)) (row_of columns (drop (i * row_size columns) (drop at words)) ∷ []) s, drop-drop (i * row_size columns) at words)
      (ap (λ (j : ℕ). set (padded frame_size (firsts i)) j (value (row_of columns (drop (at + i * row_size columns) words)) s)) (sym few)
      ∙ next_padded frame_size (firsts i) (value (row_of columns (drop (at + i * row_size columns) words)) s) (omega arith))
