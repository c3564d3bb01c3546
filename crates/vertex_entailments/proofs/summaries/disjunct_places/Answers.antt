-- `disjunct_places` meets its contract: the place of the next disjunct is read at the one before, which has its form, and goes into the table.
use Rattle.std.proofs.Common.{◌≡◌, refl, suc, ◌+◌, ◌-◌, ◌<◌, ◌∙◌, length, arith, length-set}
use Rattle.certificates.specs.CertificateWords.{disjunct_words, disjuncts_end}
use Rattle.certificate_readers.specs.DisjunctEnds.{end_next}
use Rattle.certificate_readers.specs.Disjuncts.{Stands, stands, first_formed}
use Rattle.vertex_entailments.specs.Summaries.{none_placed, next_placed, fewer_placed}
use Rattle.vertex_entailments.proofs.summaries.disjunct_places.Goals as goal
use Rattle.vertex_entailments.proofs.summaries.disjunct_places.Goals.{In-loop-j}

pub loop-j-init : goal.loop-j-init
unfolding disjuncts_end
loop-j-init c =
    let a = c.args in (
      record {
        few = omega arith;
        left = λ h. let e : suc (a.count - 1) ≡ a.count = omega arith in rw e c.requires.disjuncts_form.0;
        behind = refl;
        placed = next_placed a.form a.rows.now a.m a.place a.places.now 0 (omega (arith, c.requires.most_disjuncts_in_bounds)) (none_placed a.form a.rows.now a.m a.place a.places.now) refl;
      },
      length-set a.places.now 0 a.place,
    )

-- the disjunct that the loop stands at, and those behind it
here : (c : In-loop-j) → Stands c.args.form c.args.rows.now c.args.m (c.args.count - c.loop-j.j) c.loop-j.at
here c = stands c.args.form c.args.rows.now c.args.m (c.loop-j.invariant.0.left (omega arith))

pub disjunct_place-at-requires-clause-place_bound : goal.disjunct_place-at-requires-clause-place_bound
disjunct_place-at-requires-clause-place_bound c =
    omega (arith, (here (goal.at.disjunct_place-at-requires-clause-place_bound c).In-loop-j).there, c.requires.disjuncts_form.1)

pub disjunct_place-at-requires-clause-disjuncts_form : goal.disjunct_place-at-requires-clause-disjuncts_form
disjunct_place-at-requires-clause-disjuncts_form c =
    first_formed c.args.form c.args.rows.now c.args.m 1 (omega arith) (c.loop-j.invariant.0.left (omega arith))

pub loop-j-preserved : goal.loop-j-preserved
unfolding disjuncts_end
loop-j-preserved c =
    let l = c.loop-j in
    let a = c.args in
    let next : c.disjunct_place-at.result ≡ l.at + disjunct_words a.form a.m a.rows.now l.at = c.disjunct_place-at.ensures in
    let placed : c.disjunct_place-at.result ≡ disjuncts_end a.form a.rows.now a.m l.j a.place = next ∙ l.invariant.0.behind in
    let more : suc (a.count - (l.j + 1)) ≡ a.count - l.j = omega arith in
    let inside : l.j < length l.places = omega arith in (
      record {
        few = omega arith;
        left = λ h. rw (more, next) (here (goal.at.loop-j-preserved c).In-loop-j).rest;
        behind = rw (end_next a.form a.rows.now a.m l.j a.place, ← placed) refl;
        placed = next_placed a.form a.rows.now a.m a.place l.places l.j inside l.invariant.0.placed placed;
      },
      length-set l.places l.j c.disjunct_place-at.result ∙ l.invariant.1,
    )

pub returns-clause-places_at : goal.returns-clause-places_at
returns-clause-places_at c =
    let l = c.loop-j in
    let a = c.args in
    fewer_placed a.form a.rows.now a.m a.place l.places a.count l.j (omega arith) l.invariant.0.placed
