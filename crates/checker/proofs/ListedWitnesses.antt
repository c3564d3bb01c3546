-- The entailments that document 01 lists, each with what it comes from and where it leads, and the witnesses that the witness words are for them. In
-- an accepted certificate these work, and their words are all of the witness words.
use Rattle.std.specs.Prelude.{◌≡◌, List, ℕ, ℤ}
use Rattle.std.proofs.Common.{sym, ap, ◌∙◌}
use Rattle.rows.specs.Rows.{fits_constant}
use Rattle.programs.specs.Decode as decode
use Rattle.certificates.specs.Witnesses.{encode_all}
use Rattle.certificates.specs.ReadWitnesses.{witnesses_in}
use Rattle.certificates.proofs.ReadWitnesses.{witnesses_in_lem}
use Rattle.checker.specs.Demand2.{listed_entailments, Witnessed}
use Rattle.checker.specs.ListedWitnesses.{AllListed, listed_witnesses}

module _ (program witness : List ℤ) where
  pub all_listed : (count : ℕ) → Witnessed program witness count → (AllListed program witness)
  all_listed count a = record { work = rw these a.work; spelled = a.spelled ∙ ap encode_all (sym these) }
    where
      these : (listed_witnesses program witness) ≡ a.witnesses
      these = ap (witnesses_in (listed_entailments program witness)) a.spelled ∙ witnesses_in_lem fits_constant (listed_entailments program witness) a.witnesses a.work
