-- After safe every listed entailment holds: by document 02, CR 5, "an accepted tree means that every whole-number state meeting the premises
-- meets some disjunct of the target". Safe gives each entailment a witness that works, with splits or without, and such a witness is enough.
use Rattle.std.specs.Prelude.{refl, ℕ, ℤ}
use mathlib.Core.List.{List, Memᴰ}
use Rattle.rows.specs.Rows.{values, Holds}
use Rattle.certificates.specs.Certificate.{Meets}
use Rattle.certificates.specs.Entailments.{Entailment}
use Rattle.certificates.proofs.Entails.{all_entail}
use Rattle.checker.specs.Demand2.{listed_entailments, Accepted, Witnessed}
use Rattle.checker.proofs.Demand2.{safe_answered}

pub accepted_entails : (program witness : List ℤ) (buffer count : ℕ) → Accepted program witness buffer count
    → (e : Entailment) → Memᴰ e (listed_entailments program witness) → (s : List ℤ) → Holds s e.premises → Meets e.targets (values e.image s)
accepted_entails program witness buffer count a e m s h =
    let w : Witnessed program witness count = (safe_answered program witness buffer count).0 a in
    all_entail (listed_entailments program witness) w.witnesses w.work e m refl h
