-- What the conversions give: words are written if and only if both inputs have the form and there is room for the result; what is written has
-- the other form, with equal disjuncts and witness words. "Where neither way is refused, dense to sparse to dense yields a dense sheet laid out
-- like that, with equal disjuncts and witness words; sparse to dense to sparse yields the same words."
use Rattle.std.specs.Prelude.{◌≡◌, ℕ, ◌≤◌, ℤ}
use mathlib.Core.List.{List}
use Rattle.std.proofs.Math.ListN.{length}
use Rattle.words.specs.declared.StoredForm.{StoredForm}
use Rattle.words.specs.declared.StoredForm.TheVariants.{Dense}
use Rattle.words.specs.Limits.{most_words}
use Rattle.words.specs.Tests.{Test}
use Rattle.words.specs.Writing.{buffer_test}
use Rattle.words.specs.Writing as writing
use Rattle.programs.specs.ProgramForm.{ProgramForm}
use Rattle.certificates.specs.Certificate.{Certificate}
use Rattle.certificates.specs.CertificateWords.{witness_words, certificate_in}
use Rattle.certificates.specs.CertificateForm.{FormIn}
use Rattle.layouts.specs.Layout.{entries_of, layout}
use Rattle.conversions.specs.Conversions.{other_words}

-- ---- words are written

module _ (program witness : List ℤ) (form : StoredForm) (buffer : ℕ) where
  -- the result fits
  abbrev pub Fits : Type 0
  Fits = writing.Fits (other_words program witness form) buffer

  -- both inputs have the form, and the result fits
  pub record Convertible : Type 0 where
    pub program_form : ProgramForm program
    pub certificate_form : FormIn program witness form
    pub enough : Fits

  abbrev pub last : Test
  last = buffer_test (other_words program witness form) buffer

-- ---- what is written

module _ (program witness : List ℤ) (form : StoredForm) (f : FormIn program witness form) (short : length (other_words program witness form) ≤ most_words) where
  abbrev pub there : List ℤ
  there = other_words program witness form

  abbrev pub c : Certificate
  c = certificate_in program witness form

-- ---- there and back

-- the words of another form have the same certificate and witness words
pub record SameIn (program one other : List ℤ) (form form' : StoredForm) : Type 0 where
  pub disjuncts : certificate_in program other form' ≡ certificate_in program one form
  pub witnesses : witness_words program other ≡ witness_words program one

module _ (program : List ℤ) where
  -- "a dense sheet laid out like that, with equal disjuncts and witness words"
  pub record LaidOutAs (one back : List ℤ) : Type 0 where
    pub laid : back ≡ layout Dense (entries_of (certificate_in program one Dense)) (witness_words program one)
    pub same : SameIn program one back Dense Dense
