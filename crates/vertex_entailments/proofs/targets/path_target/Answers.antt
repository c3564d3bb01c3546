-- `path_target` meets its contract: vertex 0 has no path edges, and any other as many as its entry says.
use Rattle.std.proofs.Common.{◌≡◌, ℕ, sym, ap, ◌∙◌, arith}
use Rattle.words.specs.declared.StoredForm.{StoredForm}
use Rattle.certificates.specs.CertificateWords.{stored_form}
use Rattle.vertex_entailments.specs.declared.targets.Target.{Target}
use Rattle.vertex_entailments.specs.Targets.{entry_target, no_path, path_count_lem}
use Rattle.vertex_entailments.proofs.targets.path_target.Goals as goal
use Rattle.vertex_entailments.proofs.targets.path_target.Goals.{After-entry_target-target}

abbrev target : StoredForm → ℕ → ℕ → Target
target form place count = record { place = place; count = count; form = form }

-- the entry is the vertex's
found : (c : After-entry_target-target) → let a = c.args in c.entry_target-target.result ≡ entry_target a.sizes a.witness.now a.v.0
found c = let a = c.args in c.entry_target-target.ensures ∙ ap (entry_target a.sizes a.witness.now) c.path_entry.ensures

pub returns-then-v-eq0 : goal.returns-then-v-eq0
returns-then-v-eq0 c =
    let a = c.args in
    ap (λ (t : Target). target t.form t.place 0) (found (goal.at.returns-then-v-eq0 c).After-entry_target-target)
    ∙ ap (target (stored_form a.witness.now) (entry_target a.sizes a.witness.now a.v.0).place) (sym (no_path a.witness.now a.v.0 (omega (arith, c.if-v-eq0.true))))

pub returns : goal.returns
returns c =
    let a = c.args in
    found (goal.at.returns c).After-entry_target-target
    ∙ ap (target (stored_form a.witness.now) (entry_target a.sizes a.witness.now a.v.0).place) (sym (path_count_lem a.witness.now a.v.0 (omega (arith, c.if-v-eq0.false))))
