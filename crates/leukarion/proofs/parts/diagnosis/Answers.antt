-- Each case of an answer has its own part: a refusal's, and else the witness's empty end.
use Rattle.checker.specs.Check.{diagnosis}
use Rattle.leukarion.specs.Parts.{diagnosis_start}
use Rattle.leukarion.proofs.parts.diagnosis.Goals as goal

pub returns-in-Safe : goal.returns-in-Safe
unfolding diagnosis diagnosis_start
returns-in-Safe c = record { words = rw c.in-Safe.is c.from_place.ensures.words; start = rw c.in-Safe.is c.from_place.ensures.start }

pub returns-in-Trace : goal.returns-in-Trace
unfolding diagnosis diagnosis_start
returns-in-Trace c =
    record { words = rw c.in-Trace.is c.from_place-in-Trace.ensures.words; start = rw c.in-Trace.is c.from_place-in-Trace.ensures.start }

pub returns-in-Refused : goal.returns-in-Refused
unfolding diagnosis diagnosis_start
returns-in-Refused c = record { words = rw c.in-Refused.is c.refused_part.ensures.words; start = rw c.in-Refused.is c.refused_part.ensures.start }
