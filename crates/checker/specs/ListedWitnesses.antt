-- The entailments that document 01 lists, each with what it comes from and where it leads, and the witnesses that the witness words are for them. In
-- an accepted certificate these work, and their words are all of the witness words.
use Rattle.std.specs.Prelude.{◌≡◌, List, T, ℤ}
use Rattle.programs.specs.Decode as decode
use Rattle.certificates.specs.Sources.{Sourced, sourced}
use Rattle.certificates.specs.Witnesses.{Witness, encode_all, all_work}
use Rattle.certificates.specs.ReadWitnesses.{witnesses_in}
use Rattle.certificates.specs.CertificateWords.{certificate, witness_words}
use Rattle.checker.specs.Demand2.{listed_entailments}

module _ (program witness : List ℤ) where
  abbrev pub listed_sources : List Sourced
  listed_sources = sourced (decode.program program) (certificate program witness)

  abbrev pub listed_witnesses : List Witness
  listed_witnesses = witnesses_in (listed_entailments program witness) (witness_words program witness)

  -- they work, and nothing else stands there
  pub record AllListed : Type 0 where
    pub work : T (all_work (listed_entailments program witness) listed_witnesses)
    pub spelled : witness_words program witness ≡ encode_all listed_witnesses
