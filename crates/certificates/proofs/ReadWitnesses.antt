-- The witnesses that words are, one for each entailment: those that work are read back from their words, whatever words follow.
use Rattle.std.specs.Prelude.{◌≡◌, Bool, ℕ, T, ℤ}
use Rattle.std.proofs.Math.Path.{refl}
use mathlib.Core.List.{List, [], ◌∷◌, ◌++◌, append_assoc, append-nil}
use Rattle.basics.proofs.Booleans.{parts}
use Rattle.certificates.specs.Entailments.{Entailment}
use Rattle.certificates.specs.Witnesses.{Witness, encode_all, works_by, all_work_by}
use Rattle.certificates.specs.Judgement.{got, and_then}
use Rattle.certificates.proofs.WitnessCode.{read_encoded}
use Rattle.certificates.specs.ReadWitnesses.{read_all, witnesses_in, witnesses_read}

module _ (rule : ℕ → ℤ → ℤ → Bool) where
  pub read_all_lem : (es : List Entailment) (ws : List Witness) (rest : List ℤ) → T (all_work_by rule es ws) → read_all es (encode_all ws ++ rest) ≡ got ws rest
  unfolding read_all all_work_by works_by encode_all and_then
  read_all_lem [] [] rest t = refl
  read_all_lem [] (w ∷ ws) rest t = absurd t
  read_all_lem (e ∷ es) [] rest t = absurd t
  read_all_lem (e ∷ es) (w ∷ ws) rest t = rw (append_assoc, read_encoded e w (encode_all ws ++ rest) (search parts), read_all_lem es ws rest (search parts))

  pub witnesses_in_lem : (es : List Entailment) (ws : List Witness) → T (all_work_by rule es ws) → witnesses_in es (encode_all ws) ≡ ws
  unfolding witnesses_in witnesses_read
  witnesses_in_lem es ws t = rw (← append-nil (encode_all ws), read_all_lem es ws [] t)
