-- The words are copied, and renumbered where they stand.
use Rattle.entailment_sources.specs.NewNumbers.{flagged}
use Rattle.kept_witnesses.specs.KeptWords.{copied_stands, copied_renumbered}
use Rattle.kept_witnesses.proofs.write_renumbered.Goals as goal

pub renumber_tree-requires-clause-stands : goal.renumber_tree-requires-clause-stands
renumber_tree-requires-clause-stands c =
    let a = c.args in
    rw (c.copy_words.ensures, c.premise_count-n.ensures.value) (copied_stands a.rows.now a.e a.words.now a.buffer.now a.to c.requires.words_in_bounds c.requires.spells)

pub returns : goal.returns
returns c =
    let a = c.args in
    let t = c.renumber_tree in
    copied_renumbered a.rows.now a.e a.words.now a.buffer.now a.to c.requires.words_in_bounds (flagged a.flags.now) t.result t.new.words (rw (c.copy_words.ensures, c.premise_count-n.ensures.value) at t.ensures)
