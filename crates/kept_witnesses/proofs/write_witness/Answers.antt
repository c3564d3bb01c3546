-- Nothing is written where a source isn't kept, or where the words don't fit.
use Rattle.std.proofs.Common.{◌≡◌, ◌-◌, length, take, drop, length-drop, arith}
use Rattle.std.proofs.Math.Seq.{take_all}
use Rattle.entailment_sources.specs.NewNumbers.{flagged}
use Rattle.kept_witnesses.specs.KeptWords.{first_byte, not_written, not_fitting, is_written}
use Rattle.kept_witnesses.proofs.write_witness.Goals as goal

pub returns-then-not-keep : goal.returns-then-not-keep
returns-then-not-keep c = let a = c.args in not_written a.rows.now a.e (flagged (drop (first_byte a.e.count a.entry) a.kept.now)) a.words.now a.buffer.now a.to c.if-not-keep.true

pub returns-then-buffer-to : goal.returns-then-buffer-to
returns-then-buffer-to c = let a = c.args in not_fitting a.rows.now a.e (flagged (drop (first_byte a.e.count a.entry) a.kept.now)) a.words.now a.buffer.now a.to c.if-not-keep.false c.if-buffer-to.true

pub returns : goal.returns
returns c =
    let a = c.args in
    let w = c.write_renumbered in
    let f = c.first_byte-first in
    let whole : take (length a.kept.now - f.result) (drop f.result a.kept.now) ≡ drop f.result a.kept.now = take_all (length a.kept.now - f.result) (drop f.result a.kept.now) (omega (arith, length-drop f.result a.kept.now)) in
    is_written a.rows.now a.e (flagged (drop (first_byte a.e.count a.entry) a.kept.now)) a.words.now a.buffer.now a.to w.new.buffer c.if-not-keep.false w.auto.buffer (rw (whole, f.ensures.value) at w.ensures)
