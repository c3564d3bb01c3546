-- The witnesses that words are, one for each entailment: those that work are read back from their words, whatever words follow.
use Rattle.std.specs.Prelude.{ℤ}
use mathlib.Core.List.{List, [], ◌∷◌}
use Rattle.certificates.specs.Entailments.{Entailment}
use Rattle.certificates.specs.Witnesses.{Witness}
use Rattle.certificates.specs.Judgement.{Read, got, missing, and_then, read_witness}

unfoldable pub read_all : List Entailment → List ℤ → Read (List Witness)
read_all [] words = got [] words
read_all (e ∷ es) words = and_then (read_witness e words) (λ w rest. and_then (read_all es rest) (λ ws left. got (w ∷ ws) left))

-- none where they can't all be read
unfoldable pub witnesses_read : Read (List Witness) → List Witness
witnesses_read (got ws left) = ws
witnesses_read missing = []

unfoldable pub witnesses_in : List Entailment → List ℤ → List Witness
witnesses_in es words = witnesses_read (read_all es words)
