-- What is written so far are the words that trimming leaves of the witnesses of the entailments so far.
use Rattle.std.proofs.Common.{◌≡◌, ◌+◌}
use Rattle.programs.specs.ProgramWords.{k}
use Rattle.certificates.specs.CertificateWords.{stored_form, disjuncts_end}
use Rattle.kept_witnesses.specs.PassLaws.{WrittenSoFar}
use Rattle.kept_witnesses.specs.PassSteps.{entailments_before}
use Rattle.kept_witnesses.proofs.write_witnesses.Given as goal

abbrev pub invariant-loop-case : goal.invariant-loop-case
invariant-loop-case l = WrittenSoFar l.program l.witness l.sizes l.kept l.fn.buffer (entailments_before l.program l.witness (l.i + 1) l.d l.case) l.at l.to l.buffer

abbrev pub invariant-loop-d : goal.invariant-loop-d
invariant-loop-d l = record {
  run : WrittenSoFar l.program l.witness l.sizes l.kept l.fn.buffer (entailments_before l.program l.witness (l.i + 1) l.d 0) l.at l.to l.buffer;
  stands : l.place ≡ disjuncts_end (stored_form l.witness) l.rows (k l.program (l.i + 1) + k l.program (l.i + 1)) l.d l.initial.place;
}

abbrev pub invariant-loop-i : goal.invariant-loop-i
invariant-loop-i l = WrittenSoFar l.program l.witness l.sizes l.kept l.fn.buffer (entailments_before l.program l.witness (l.i + 1) 0 0) l.at l.to l.buffer
