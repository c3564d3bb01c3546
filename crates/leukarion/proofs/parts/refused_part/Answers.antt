-- Each part has its own words and its own start.
use Rattle.std.proofs.Common.{◌≡◌, sym, ap, ◌∙◌}
use Rattle.checker.specs.Check.{part_of, diagnosis_of}
use Rattle.leukarion.specs.declared.parts.Part.{Part}
use Rattle.leukarion.specs.Parts.{meaning_of, part_meant, part_start}
use Rattle.leukarion.proofs.parts.refused_part.Goals.{After-part_of-part}
use Rattle.leukarion.proofs.parts.refused_part.Goals as goal

-- the definition's part, by the code's
part_is : (c : After-part_of-part) {part : Part} → c.part_of-part.result ≡ part → part_of c.args.refusal.number ≡ meaning_of part
part_is c e = sym (part_meant (part_of c.args.refusal.number)) ∙ ap meaning_of (sym c.part_of-part.ensures ∙ e)

pub returns-in-Program : goal.returns-in-Program
unfolding diagnosis_of part_start
returns-in-Program c =
    let e = part_is (goal.at.returns-in-Program c).After-part_of-part c.in-Program.is in
    record { words = rw e c.from_place.ensures.words; start = rw e c.from_place.ensures.start }

pub returns-in-Witness : goal.returns-in-Witness
unfolding diagnosis_of part_start
returns-in-Witness c =
    let e = part_is (goal.at.returns-in-Witness c).After-part_of-part c.in-Witness.is in
    record { words = rw e c.from_place-in-Witness.ensures.words; start = rw e c.from_place-in-Witness.ensures.start }

pub returns-in-Neither : goal.returns-in-Neither
unfolding diagnosis_of part_start
returns-in-Neither c =
    let e = part_is (goal.at.returns-in-Neither c).After-part_of-part c.in-Neither.is in
    record { words = rw e c.from_place-in-Neither.ensures.words; start = rw e c.from_place-in-Neither.ensures.start }
