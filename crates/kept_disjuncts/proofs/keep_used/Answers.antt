-- `keep_used` meets its contract: the start's targets are put in the queue, each turn takes the next one, and the queue has at most as many as there
-- are bytes.
use Rattle.std.proofs.Common.{◌≡◌, refl, List, ℕ, ℤ, length, arith}
use Rattle.programs.specs.ProgramForm.{ProgramForm}
use Rattle.certificates.specs.CertificateForm.{CertificateForm}
use Rattle.checker.specs.ListedWitnesses.{AllListed}
use Rattle.program_readers.specs.Sizes.{Header}
use Rattle.program_readers.specs.declared.places.Sizes.{Sizes}
use Rattle.used_targets.specs.UseTable.{table_size, Tabled}
use Rattle.kept_disjuncts.specs.Queue.{none_queued, few_queued}
use Rattle.kept_disjuncts.specs.NamedTargets.{targets_there}
use Rattle.kept_disjuncts.specs.Standing.{Known}
use Rattle.kept_disjuncts.specs.Closing.{start_places, closing_first, closing_next, closing_last}
use Rattle.kept_disjuncts.proofs.keep_used.Goals as goal

abbrev known : {program witness : List ℤ} {sizes : Sizes} {table : List ℕ} {start : ℕ} → Header program sizes × ProgramForm program → CertificateForm program witness → AllListed program witness
    → Tabled program witness table start × (length table ≡ table_size) → Known program witness sizes table
known {program} {witness} {sizes} {table} {start} h f l t =
    record { header = h.0; program_form = h.1; certificate_form = f; there = targets_there program witness l; start = start; tabled = t.0; table_length = t.1 }

pub keep_targets-count-requires-clause-names_places : goal.keep_targets-count-requires-clause-names_places
keep_targets-count-requires-clause-names_places c = start_places (known c.requires.header c.requires.certificate_form c.requires.all_listed c.requires.tabled)

pub keep_targets-count-requires-clause-queued : goal.keep_targets-count-requires-clause-queued
keep_targets-count-requires-clause-queued c = none_queued _ _ c.requires.kept_len.0 refl c.requires.kept_len.1

pub loop-head-init : goal.loop-head-init
loop-head-init c = closing_first (known c.requires.header c.requires.certificate_form c.requires.all_listed c.requires.tabled) c.requires.kept_len.1 c.keep_targets-count.ensures

pub take-count-requires-clause-known : goal.take-count-requires-clause-known
take-count-requires-clause-known c = known c.requires.header c.requires.certificate_form c.requires.all_listed c.requires.tabled

pub take-count-requires-clause-place_lt_most_bytes : goal.take-count-requires-clause-place_lt_most_bytes
take-count-requires-clause-place_lt_most_bytes c = (c.loop-head.invariant.standing.queued.held c.loop-head.head c.loop-head-test.true).0

pub loop-head-preserved : goal.loop-head-preserved
loop-head-preserved c = closing_next c.loop-head.invariant c.loop-head-test.true c.take-count.ensures.grown c.take-count.ensures.taken_at

pub offset_bounds-queue-head : goal.offset_bounds-queue-head
offset_bounds-queue-head c = omega (arith, c.loop-head-test.true, few_queued c.loop-head.invariant.standing.queued)

pub bounds-queue-head : goal.bounds-queue-head
bounds-queue-head c = omega (arith, c.loop-head-test.true, few_queued c.loop-head.invariant.standing.queued)

pub loop-head-smaller : goal.loop-head-smaller
loop-head-smaller c = omega (arith, c.loop-head-test.true, few_queued c.loop-head.invariant.standing.queued)

pub returns-clause-exactly : goal.returns-clause-exactly
returns-clause-exactly c = closing_last c.loop-head.invariant (omega (arith, c.loop-head-test.false))
