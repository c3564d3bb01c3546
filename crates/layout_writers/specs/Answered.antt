-- What a writer answers and what its buffer holds afterwards, both from the outcome that the definitions give it.
use Rattle.std.specs.Prelude.{◌≡◌, refl, List, ℕ, ℤ, length, Ok, Err}
use Rattle.std.proofs.Common.{ap}
use Rattle.words.specs.Tests as tests
use Rattle.words.specs.Writing as writing
use Rattle.words.specs.Writing.{written, unwritten, buffer_after}
use Rattle.answers.specs.Written.{writing_for}

module _ {w : writing.Writing} (before : List ℤ) where
  pub refused_both : (r : tests.Refusal) → w ≡ unwritten r → (Err r ≡ writing_for w) × (before ≡ buffer_after w before)
  unfolding buffer_after
  refused_both r e = rw e (refl, refl)

  pub written_both : {words : List ℤ} {total : ℕ} {after : List ℤ} → total ≡ length words → after ≡ buffer_after (written words) before → w ≡ written words
      → (Ok total ≡ writing_for w) × (after ≡ buffer_after w before)
  written_both h g e = rw e (ap Ok h, g)
