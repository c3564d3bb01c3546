-- The shares from row i on, with what the shares before it came to, decide as all do; the two buffers keep their lengths.
use Rattle.std.proofs.Common.{◌≡◌, ◌+◌, ◌-◌, true, length, drop}
use Rattle.words.specs.StoredRows.{rows_in, rows_take}
use Rattle.certificates.specs.CertificateWords.{row_count}
use Rattle.entailments.specs.Meaning.{image_rows}
use Rattle.entailment_judge.specs.Parted.{parted_rows}
use Rattle.entailment_judge.specs.Judging.{read_fits}
use Rattle.entailment_judge.proofs.Shares.{Going}
use Rattle.entailment_judge.proofs.in_place.judge_rows.Given as goal

abbrev pub invariant-loop-i : goal.invariant-loop-i
invariant-loop-i l =
    let a = l.fn in
    let e = a.e in
    let image = image_rows a.words e.shape e.image in
    let premises = parted_rows a.rows a.places a.n a.premises in
    record {
      target_length : length l.target ≡ 41;
      sum_length : length l.sum ≡ 41;
      from : l.from ≡ a.p + 1 + rows_take e.form e.width l.i (drop (a.p + 1) a.rows);
      left : Going e.form image premises (a.n.own + a.n.added) e.width a.rows a.w
          (read_fits image premises (a.n.own + a.n.added) (rows_in e.form e.width (row_count a.rows a.p) (drop (a.p + 1) a.rows)) true (drop a.at a.w))
          (l.count - l.i) l.from l.next l.fits;
    }
