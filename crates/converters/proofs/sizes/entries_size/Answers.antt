-- `entries_size` meets its contract: after i turns the words of i entries are counted.
use Rattle.std.proofs.Common.{◌≡◌, ◌<◌, arith}
use Rattle.certificates.specs.CertificateWords as words
use Rattle.layout_writers.specs.Given.{many, entry_stands}
use Rattle.converters.specs.OtherEntries.{entries_none, entries_next}
use Rattle.layout_writers.specs.Runs.{counted_next, all_counted}
use Rattle.converters.proofs.sizes.entries_size.Goals as goal
use Rattle.converters.proofs.sizes.entries_size.Goals.{In-loop-i}

less : (c : In-loop-i) → c.loop-i.i < words.entries c.args.program.now c.args.certificate.now
less c = omega (arith, many c.requires.given, c.loop-i-test.true)

pub disjuncts_size-words-requires-clause-disjuncts_form : goal.disjuncts_size-words-requires-clause-disjuncts_form
disjuncts_size-words-requires-clause-disjuncts_form c =
    let a = c.args in
    let g = c.requires.given in
    entry_stands a.program.now a.certificate.now a.form c.loop-i.i (less (goal.at.disjuncts_size-words-requires-clause-disjuncts_form c).In-loop-i) g.row_words (c.edge_columns-columns.ensures.value a.certificate.now) c.entry_count-count.ensures.value (many g) c.entry_place-place.ensures.value g.formed

pub loop-i-preserved : goal.loop-i-preserved
loop-i-preserved c =
    let a = c.args in
    let g = c.requires.given in
    record {
      few = omega arith;
      counted =
          counted_next c.loop-i.invariant.counted
          (entries_next a.program.now a.certificate.now a.form c.loop-i.i (less (goal.at.loop-i-preserved c).In-loop-i) g.row_words (c.edge_columns-columns.ensures.value a.certificate.now) c.entry_count-count.ensures.value (many g) c.entry_place-place.ensures.value)
          c.disjuncts_size-words.ensures.value;
    }

pub returns-clause-value : goal.returns-clause-value
returns-clause-value c =
    let a = c.args in
    let l = c.loop-i in
    let e : l.i ≡ words.entries a.program.now a.certificate.now = omega (arith, many c.requires.given) in
    all_counted l.invariant.counted (rw e (entries_none a.program.now a.certificate.now a.form))
