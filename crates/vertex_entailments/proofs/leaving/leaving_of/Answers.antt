-- `leaving_of` meets its contract: beyond the statements stand the exits, and the procedure that ends at one is that of its number.
use Rattle.std.proofs.Common.{◌≡◌, ℕ, ap, ◌∙◌, arith}
use Rattle.programs.specs.ProgramWords.{procedure_of}
use Rattle.programs.proofs.DecodedNumbers.{procedure_range}
use Rattle.program_readers.specs.OwnerLaws.{owners_long}
use Rattle.vertex_entailments.specs.Values.{shape_of}
use Rattle.vertex_entailments.specs.Leaving.{Says}
use Rattle.vertex_entailments.proofs.leaving.leaving_of.Goals as goal
use Rattle.vertex_entailments.proofs.leaving.leaving_of.Goals.{After-procedure_of-q}

pub procedure_of-q-requires : goal.procedure_of-q-requires
procedure_of-q-requires c = owners_long c.args.program.now c.args.owners.now c.requires.owners c.args.sizes c.requires.header.0

found : (c : After-procedure_of-q) → c.procedure_of-q.result.0 ≡ procedure_of c.args.program.now c.args.v.0
found c = c.procedure_of-q.ensures c.args.program.now c.requires.header.0 c.requires.owners c.requires.le_v.0

pub shape_of-requires-clause-le_q : goal.shape_of-requires-clause-le_q
shape_of-requires-clause-le_q c =
    let h = c.requires.header.0 in
    let f = found (goal.at.shape_of-requires-clause-le_q c).After-procedure_of-q in
    let r = procedure_range c.args.program.now c.requires.header.1 c.args.v.0 c.requires.le_v.0 (omega (arith, c.requires.le_v.1, h.statements, h.procedures)) in
    (omega (arith, f, r.0), omega (arith, f, r.1, h.procedures))

pub returns-clause-leaves : goal.returns-clause-leaves
unfolding Says
returns-clause-leaves c =
    record {
      low = c.requires.le_v.0;
      high = c.requires.le_v.1;
      says =
          record {
            past = omega (arith, c.if-v-sizes.false, c.requires.header.0.statements);
            ends = found (goal.at.returns-clause-leaves c).After-procedure_of-q;
            shaped = c.shape_of.ensures ∙ ap (λ (columns : ℕ). shape_of c.args.program.now c.args.sizes columns c.procedure_of-q.result.0) c.k_of-k.ensures.value;
          };
    }
