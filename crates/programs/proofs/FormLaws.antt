-- What the form of a program gives: the procedure of a first statement, since first statements rise; of a successor and of a return point; and
-- a call's procedure and actuals.
use Rattle.std.proofs.Math.Path.{◌≡◌}
use Rattle.std.specs.Prelude.{refl, ◌&&◌, leb}
use Rattle.std.proofs.Common.{◌∙◌, ap, subst, add-suc, suc-add, ltb→lt, le→leb}
use Prim.Native.Nat.{ℕ, zero, suc, ◌+◌, ◌-◌, ◌≤◌, ◌<◌}
use native.Mathlib.Omega.{arith}
use Rattle.std.proofs.Math.Option.{none, some, some-injective}
use mathlib.Core.List.{List, [], ◌∷◌}
use Rattle.std.proofs.Math.Dec.{T, eqb, leb→le, eqb→eq}
use Rattle.std.proofs.Math.Arith.{lt→nleb}
use Rattle.std.proofs.Math.ListN.{length, get_or, get_elem?}
use Rattle.basics.proofs.Booleans.{parts, cond_yes, cond_no}
use Rattle.rows.specs.Rows.{Row}
use Rattle.programs.specs.Program.{Program, Procedure, LinedStatement, Statement, call, statement_in, statement_at, procedure_at, no_procedure, first_of, locals_of, parameters_of, exit_of, owner, begun, same, formed, formed_statement, formed_statements, formed_procedures}
use Rattle.programs.specs.FormLaws.{CallFormed, EntryFormed}

-- ---- exits

past : {A : Type 0} (xs : List A) (q : ℕ) → get_elem? xs (length xs + q) ≡ none
past [] q = refl
past (x ∷ xs) q = rw suc-add (past xs q)

-- an exit is no statement
pub exit_no_statement : (p : Program) (q : ℕ) → 1 ≤ q → statement_at p (exit_of p q) ≡ none
unfolding exit_of statement_at
exit_no_statement p zero l = absurd (omega arith)
exit_no_statement p (suc q) l = rw add-suc (ap statement_in (past p.statements q))

pub owner_exit : (p : Program) (q : ℕ) → 1 ≤ q → owner p (exit_of p q) ≡ q
unfolding owner exit_of
owner_exit p q l =
    cond_no (leb (length p.statements + q) (length p.statements)) (begun (length p.statements + q) p.procedures) (length p.statements + q - length p.statements)
    (lt→nleb (length p.statements + q) (length p.statements) (omega arith))
    ∙ omega arith

entry : (n last : ℕ) (qs : List Procedure) (i : ℕ) → T (formed_procedures n last qs) → i < length qs → EntryFormed n last (get_or qs i no_procedure)
unfolding formed_procedures
entry n last [] i t h = absurd (omega arith)
entry n last (q ∷ qs) zero t h = record { after = ltb→lt last q.first (search parts); within = leb→le q.first n (search parts); fits = leb→le q.parameters q.locals (search parts) }
entry n last (q ∷ qs) (suc i) t h = later (ltb→lt last q.first (search parts)) (entry n q.first qs i (search parts) (omega arith))
  where
    later : last < q.first → EntryFormed n q.first (get_or qs i no_procedure) → EntryFormed n last (get_or qs i no_procedure)
    later l e = record { after = omega arith; within = e.within; fits = e.fits }

begun_none : (n last v : ℕ) (qs : List Procedure) → T (formed_procedures n last qs) → v ≤ last → begun v qs ≡ 0
unfolding begun formed_procedures
begun_none n last v [] t h = refl
begun_none n last v (q ∷ qs) t h =
    let l : last < q.first = ltb→lt last q.first (search parts) in
    cond_no (leb q.first v) (suc (begun v qs)) (begun v qs) (lt→nleb q.first v (omega arith)) ∙ begun_none n q.first v qs (search parts) (omega arith)

begun_first : (n last : ℕ) (qs : List Procedure) (i : ℕ) → T (formed_procedures n last qs) → i < length qs → begun (get_or qs i no_procedure).first qs ≡ suc i
unfolding begun formed_procedures
begun_first n last [] i t h = absurd (omega arith)
begun_first n last (q ∷ qs) zero t h =
    cond_yes (leb q.first q.first) (suc (begun q.first qs)) (begun q.first qs) (le→leb q.first q.first (omega arith)) ∙ ap suc (begun_none n q.first q.first qs (search parts) (omega arith))
begun_first n last (q ∷ qs) (suc i) t h =
    let f : Procedure = get_or qs i no_procedure in
    cond_yes (leb q.first f.first) (suc (begun f.first qs)) (begun f.first qs) (le→leb q.first f.first (omega (arith, (entry n q.first qs i (search parts) (omega arith)).after)))
    ∙ ap suc (begun_first n q.first qs i (search parts) (omega arith))

formed_statements_lem : (p : Program) (sts : List LinedStatement) (v u i : ℕ) {st : Statement} → u ≡ i + v → statement_in (get_elem? sts i) ≡ some st → T (formed_statements p v sts) → T (formed_statement p u st)
unfolding formed_statements
formed_statements_lem p [] v u i q g t = absurd (let z : ◌≡◌ {A = ℕ} 0 1 = cc in omega arith)
formed_statements_lem p (x ∷ sts) v u zero {st} q g t = subst (λ y. T (formed_statement p y st)) same (subst (λ y. T (formed_statement p v y)) (some-injective x.statement st g) (search parts))
  where
    same : v ≡ u
    same = omega arith
formed_statements_lem p (x ∷ sts) v u (suc i) q g t = formed_statements_lem p sts (suc v) u i (omega arith) g (search parts)

module _ (p : Program) (t : T (formed p)) where
  pub formed_statement_lem : (u : ℕ) {st : Statement} → statement_at p u ≡ some st → T (formed_statement p u st)
  unfolding statement_at formed
  formed_statement_lem zero g = absurd (let z : ◌≡◌ {A = ℕ} 0 1 = cc in omega arith)
  formed_statement_lem (suc i) g = formed_statements_lem p p.statements 1 (suc i) i (omega arith) g (search parts)

  pub first_one : first_of p 1 ≡ 1
  unfolding formed
  first_one = eqb→eq (first_of p 1) 1 (search parts)

  pub some_procedure_lem : 1 ≤ length p.procedures
  unfolding formed procedure_at
  some_procedure_lem = go p.procedures (search parts)
    where
      go : (qs : List Procedure) → T (eqb (get_or qs 0 no_procedure).first 1) → 1 ≤ length qs
      go [] t = absurd t
      go (q ∷ qs) t = omega arith

  pub parameters_fit : (q : ℕ) → 1 ≤ q → q ≤ length p.procedures → parameters_of p q ≤ locals_of p q
  unfolding formed procedure_at
  parameters_fit zero l h = absurd (omega arith)
  parameters_fit (suc i) l h = (entry (length p.statements) 0 p.procedures i (search parts) h).fits

  pub owner_first : (q : ℕ) → 1 ≤ q → q ≤ length p.procedures → owner p (first_of p q) ≡ q
  unfolding formed procedure_at owner
  owner_first zero l h = absurd (omega arith)
  owner_first (suc i) l h =
      let f : Procedure = get_or p.procedures i no_procedure in
      cond_yes (leb f.first (length p.statements)) (begun f.first p.procedures) (f.first - length p.statements)
      (le→leb f.first (length p.statements) (entry (length p.statements) 0 p.procedures i (search parts) h).within)
      ∙ begun_first (length p.statements) 0 p.procedures i (search parts) h

pub same_owner : (p : Program) (v w : ℕ) → T (same p v w) → owner p w ≡ owner p v
unfolding same
same_owner p v w t = eqb→eq (owner p w) (owner p v) (search parts)

pub call_formed : (p : Program) → T (formed p) → (v : ℕ) {return q : ℕ} {actuals : List Row} → statement_at p v ≡ some (call return q actuals) → CallFormed p v return q actuals
call_formed p t v {return} {q} {actuals} g = go (formed_statement_lem p t v g)
  where
    go : T (formed_statement p v (call return q actuals)) → CallFormed p v return q actuals
    go x = unfold formed_statement in
        (let y : T (same p v return && (leb 1 q && (leb q (length p.procedures) && eqb (length actuals) (parameters_of p q)))) = x in
        record { back = same_owner p v return (search parts); low = leb→le 1 q (search parts); high = leb→le q (length p.procedures) (search parts); count = eqb→eq (length actuals) (parameters_of p q) (search parts) })
