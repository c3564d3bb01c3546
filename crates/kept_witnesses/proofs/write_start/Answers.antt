-- The start leads to vertex 1, and its witness begins the words.
use Rattle.std.proofs.Common.{get_or}
use Rattle.programs.specs.Decode as decode
use Rattle.certificates.specs.CertificateWords.{certificate}
use Rattle.trimming.specs.Passed.{start_from, no_witness}
use Rattle.checker.specs.ListedWitnesses.{listed_witnesses}
use Rattle.witness_walks.specs.Witnessed.{walkable}
use Rattle.kept_witnesses.specs.PassLaws.{Meets, words_spell}
use Rattle.kept_witnesses.specs.PassSteps.{start_meets, start_written}
use Rattle.kept_witnesses.proofs.write_start.Goals as goal
use Rattle.kept_witnesses.proofs.write_start.Goals.{After-start_entailment-e}

met : (c : After-start_entailment-e) → Meets c.args.program.now c.args.witness.now c.args.rows.now c.args.w.now 0 c.start_entailment-e.result (start_from (decode.program c.args.program.now) (certificate c.args.program.now c.args.witness.now)) (get_or (listed_witnesses c.args.program.now c.args.witness.now) 0 no_witness)
met c = let a = c.args in start_meets a.program.now a.witness.now a.rows.now a.w.now c.requires.all_listed c.start_entailment-e.result (c.start_entailment-e.ensures a.rows.now c.requires.given)

pub witness_end-end-requires-clause-walkable : goal.witness_end-end-requires-clause-walkable
witness_end-end-requires-clause-walkable c = walkable c.args.program.now c.args.rows.now c.start_entailment-e.result (met (goal.at.witness_end-end-requires-clause-walkable c).After-start_entailment-e).form

pub write_witness-requires-clause-walkable : goal.write_witness-requires-clause-walkable
write_witness-requires-clause-walkable c = (walkable c.args.program.now c.args.rows.now c.start_entailment-e.result (met (goal.at.write_witness-requires-clause-walkable c).After-start_entailment-e).form, c.requires.kept_len)

pub write_witness-requires-clause-spells : goal.write_witness-requires-clause-spells
write_witness-requires-clause-spells c =
    let a = c.args in
    let e = c.witness_end-end in
    words_spell a.program.now a.witness.now a.rows.now a.w.now 0 _ _ _ (met (goal.at.write_witness-requires-clause-spells c).After-start_entailment-e) e.result e.ensures.w_value e.ensures.upper_bound

pub returns : goal.returns
returns c =
    let a = c.args in
    let e = c.witness_end-end in
    let w = c.write_witness in
    start_written a.program.now a.witness.now a.sizes c.requires.given.header a.kept.now a.rows.now a.w.now c.requires.all_listed c.start_entailment-e.result e.result w.result (c.start_entailment-e.ensures a.rows.now c.requires.given) e.ensures.w_value e.ensures.upper_bound w.ensures
