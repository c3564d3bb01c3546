-- The columns of the top call, as the code finds them: they are the values of the configuration, and within their limits, because all numbers of
-- both buffers are.
use Rattle.std.specs.Prelude.{◌≡◌, refl, List, ℕ, ◌+◌, ◌-◌, ◌≤◌, ℤ, length}
use Rattle.std.proofs.Common.{sym, ap₂, ◌∙◌, arith, length-append, length-drop}
use Rattle.std.proofs.Math.Path.{ap}
use Rattle.std.proofs.Math.Seq.{length-take-le}
use Rattle.rows.specs.Rows.{value}
use Rattle.words.specs.Limits.{most_vertices, most_globals, most_calls}
use Rattle.words.specs.Words.{word}
use Rattle.words.proofs.Ranges.{number_most}
use Rattle.words.specs.RowForm.{Expression}
use Rattle.programs.specs.ProgramWords.{G, locals, procedure_of, k, fields}
use Rattle.programs.specs.Decode.{expression}
use Rattle.programs.proofs.DecodedNumbers.{locals_most}
use Rattle.programs.specs.Moves.{current}
use Rattle.program_readers.specs.Sizes.{Header}
use Rattle.program_readers.specs.declared.kinds.Kind.{Kind}
use Rattle.program_readers.specs.declared.places.Sizes.{Sizes}
use Rattle.run_state.specs.Frames.{frames_size, locals_from}
use Rattle.run_state.specs.ScopeValues.{values_of, width_of, scope_at, Scoped}
use Rattle.run_state.specs.State.{RunState, procedure_now, Formed, configuration_of, SomeProcedure, Proper, AtKind}
use Rattle.run_state.specs.declared.expressions.Scope.{Scope}

module _ (words : List ℤ) (s : RunState) (q : Proper words s) where
  -- the procedure and the vertex of the top call, as the readers ask for them
  pub top_procedure : SomeProcedure words (procedure_now s)
  top_procedure = q.procedures (s.depth - 1) (omega (arith, q.some))

  pub few_vertices : {sizes : Sizes} → Header words sizes → s.vertex.0 ≤ most_vertices
  few_vertices h = omega (arith, q.here.known, h)

  -- how many values there are
  pub globals_length_lem : length (configuration_of words s).globals ≡ G words
  unfolding configuration_of
  globals_length_lem = length-take-le (G words) s.globals (omega (arith, q.eight, number_most most_globals (word words 2)))

  own_inside : locals_from (s.depth - 1) + locals words (procedure_now s) ≤ length s.frames
  own_inside = omega (arith, q.some, q.few, q.long, locals_most words (procedure_now s))

  pub locals_length : length (configuration_of words s).top.locals ≡ locals words (procedure_now s)
  unfolding configuration_of
  locals_length = length-take-le (locals words (procedure_now s)) _ (rw (length-drop (locals_from (s.depth - 1)) s.frames) (omega (arith, own_inside)))

  pub current_length : length (current (configuration_of words s)) ≡ G words + locals words (procedure_now s)
  current_length = length-append (configuration_of words s).globals (configuration_of words s).top.locals ∙ ap₂ (λ (x y : ℕ). x + y) globals_length_lem locals_length

  module _ {scope : Scope} (e : scope ≡ scope_at words s.frames s.depth) where
    pub values_now_lem : values_of s.globals s.frames scope ≡ current (configuration_of words s)
    unfolding configuration_of
    values_now_lem = ap (values_of s.globals s.frames) e

    pub scoped : Scoped s.globals s.frames scope
    scoped =
        rw e
        (record {
          shared = record { few = number_most most_globals (word words 2); inside = omega (arith, q.eight, number_most most_globals (word words 2)); small = q.small_globals };
          own = record { few = locals_most words (procedure_now s); inside = own_inside; small = q.small_frames };
        })

-- at a statement, the expressions are over these columns
module _ (words : List ℤ) (sizes : Sizes) (s : RunState) (its : Kind) (a : AtKind words sizes s its) where
  pub owner : procedure_of words s.vertex.0 ≡ procedure_now s
  owner = a.proper.here.owned a.vertex.low

  module _ {scope : Scope} (e : scope ≡ scope_at words s.frames s.depth) where
    pub scope_width : width_of scope ≡ k words s.vertex.0
    unfolding k
    scope_width = ap width_of e ∙ ap (λ (q : ℕ). G words + locals words q) (sym owner)

    -- from a place that is so many words behind the first field's
    module _ (i : ℕ) {at : ℕ} (q : at ≡ fields words s.vertex.0 + i) where
      pub readable : Expression words (fields words s.vertex.0 + i) (k words s.vertex.0) → Expression words at (width_of scope)
      readable x = rw (scope_width, q) x

      pub value_now : value (expression words (width_of scope) at) (values_of s.globals s.frames scope) ≡ value (expression words (k words s.vertex.0) (fields words s.vertex.0 + i)) (current (configuration_of words s))
      value_now = rw (scope_width, values_now_lem words s a.proper e, q) refl

  -- what the reader of the columns asks of the top call
  pub scope_asked : Formed words sizes × (((1 ≤ s.depth) × (s.depth ≤ most_calls)) × ((length s.frames ≡ frames_size) × SomeProcedure words (procedure_now s)))
  scope_asked = let q = a.proper in (a.formed, ((q.some, q.few), (q.long, top_procedure words s q)))
