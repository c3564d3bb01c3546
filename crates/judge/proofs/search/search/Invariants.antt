-- Each loop keeps that the entailments so far held, judged from where the loop began.
use Rattle.std.proofs.Common.{◌≡◌, ◌+◌, ◌*◌, ◌<◌, length, take, drop}
use mathlib.Core.List.{flat_map}
use Rattle.basics.specs.Lists.{gathered}
use Rattle.programs.specs.ProgramWords.{k}
use Rattle.programs.specs.Decode as decode
use Rattle.certificates.specs.CertificateWords.{stored_form, row_count, disjuncts_of, disjuncts_end, certificate}
use Rattle.certificates.specs.Entailments.{from_vertex}
use Rattle.vertex_entailments.specs.Given.{cases_of, disjunct_at}
use Rattle.judge.proofs.LoopHeads.{Standing}
use Rattle.judge.proofs.search.search.Given as goal

-- a disjunct has at most 9 entailments, and a vertex at most 8 disjuncts: so few have held
abbrev pub invariant-loop-case : goal.invariant-loop-case
invariant-loop-case l =
    let v = l.i + 1 in
    record {
      row_places_length : length l.row_places ≡ 32;
      premises_length : length l.premises ≡ length l.initial.premises;
      standing : Standing (take l.case (cases_of l.program l.witness v (disjunct_at (stored_form l.witness) l.program l.rows v (l.place + 1) (row_count l.rows l.place)))) l.w l.initial.at l.initial.held (1 + l.i * 72 + l.d * 9 + l.case) l.out l.at l.held;
    }

abbrev pub invariant-loop-d : goal.invariant-loop-d
invariant-loop-d l =
    let v = l.i + 1 in
    let columns = k l.program v + k l.program v in
    record {
      row_places_length : length l.row_places ≡ 32;
      premises_length : length l.premises ≡ length l.initial.premises;
      standing : Standing (flat_map (cases_of l.program l.witness v) (disjuncts_of (stored_form l.witness) columns l.d (drop l.initial.place l.rows))) l.w l.initial.at l.initial.held (1 + l.i * 72 + l.d * 9) l.out l.at l.held;
      place : l.d < l.disjuncts → l.place ≡ disjuncts_end (stored_form l.witness) l.rows columns l.d l.initial.place;
    }

abbrev pub invariant-search : goal.invariant-search
invariant-search l =
    record {
      row_places_length : length l.row_places ≡ 32;
      premises_length : length l.premises ≡ length l.initial.premises;
      places_length : length l.places ≡ 8;
      standing : Standing (gathered (from_vertex (decode.program l.program) (certificate l.program l.witness)) l.i) l.w l.initial.at l.initial.held (1 + l.i * 72) l.out l.at l.held;
    }
