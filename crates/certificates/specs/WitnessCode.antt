-- Witnesses of an entailment and their words: reading takes a shaped witness back from its words, whatever words follow, and takes nothing
-- else. So no shaped witness's words begin another's, a prefix code: an entailment and the first word tell how many words follow.
use Rattle.std.specs.Prelude.{◌≡◌, Bool, ◌&&◌, T, leb, ℤ}
use mathlib.Core.List.{List, ◌++◌}
use Prim.Native.Nat.{ℕ}
use Rattle.certificates.specs.Entailments.{Entailment}
use Rattle.certificates.specs.Witnesses.{Witness, encode, shaped}
use Rattle.certificates.specs.Judgement.{Read, got, missing}

-- no shaped witness's words begin the words
abbrev pub Unreadable : Entailment → List ℤ → Type 0
Unreadable e ws = (w : Witness) (rest : List ℤ) → T (shaped e w) → ws ≡ encode w ++ rest → ⊥

abbrev pub in_range : ℕ → ℕ → ℕ → Bool
in_range low high n = leb low n && leb n high

-- ---- from words to a witness and back

-- what was read is as it should be, and the words are its words and then those left
pub data Spell {A : Type 0} (code : A → List ℤ) (good : A → Bool) (ws : List ℤ) : Read A → Type 0 where
  spells : {a : A} {rest : List ℤ} → ws ≡ code a ++ rest → T (good a) → Spell code good ws (got a rest)
  nothing : Spell code good ws missing
