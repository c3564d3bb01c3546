-- What the images come to at the values of a path's columns: entry, then now (globals and locals), then fresh ones. A block of columns reads
-- its block of these values.
use Rattle.std.specs.Prelude.{◌≡◌, refl, ℕ, ◌+◌, ◌≤◌, List, [], ◌++◌, length, set, take, drop, ℤ}
use Rattle.std.proofs.Common.{sym, ◌∙◌, ap, ap₂, arith, append_assoc, append-nil, length-append, length-take, take-append-drop}
use Rattle.rows.specs.Rows.{Row, value, values, substitute, substitute_all}
use Rattle.rows.specs.Columns.{columns}
use Rattle.rows.proofs.Values.{value_substitute, values_substitute}
use Rattle.rows.proofs.Blocks.{values_append, values_set, block}
use Rattle.programs.specs.Program.{Program, locals_of, parameters_of, width_of}
use Rattle.programs.specs.RunWidths.{Widths}
use Rattle.certificates.specs.Entailments.{at_entry, at_now, globals_now, locals_now, fresh_globals, summary_image, entry_image}

-- two lists of rows, one after the other
pub values_two : (xs ys : List Row) (s : List ℤ) {a b : List ℤ} → values xs s ≡ a → values ys s ≡ b → values (xs ++ ys) s ≡ a ++ b
values_two xs ys s p q = values_append xs ys s ∙ ap₂ (λ (x y : List ℤ). x ++ y) p q

pub values_entry : (globals arguments others : List Row) (s : List ℤ) {a b o : List ℤ} → values globals s ≡ a → values arguments s ≡ b → values others s ≡ o
    → values (entry_image globals arguments others) s ≡ (a ++ (b ++ o)) ++ (a ++ (b ++ o))
unfolding entry_image
values_entry globals arguments others s {a} {b} {o} h k l = values_two (globals ++ (arguments ++ others)) (globals ++ (arguments ++ others)) s once once
  where
    once : values (globals ++ (arguments ++ others)) s ≡ a ++ (b ++ o)
    once = values_two globals (arguments ++ others) s h (values_two arguments others s k l)

module _ (p : Program) (q : ℕ) (entry gs ls : List ℤ) (w : Widths p q entry gs ls) (fresh s : List ℤ) (e : s ≡ entry ++ ((gs ++ ls) ++ fresh)) where
  pub v_entry : values (at_entry p q) s ≡ entry
  v_entry = block [] entry ((gs ++ ls) ++ fresh) s 0 (width_of p q) e refl w.entry_width

  pub v_now : values (at_now p q) s ≡ gs ++ ls
  v_now = block entry (gs ++ ls) fresh s (width_of p q) (width_of p q) e w.entry_width (simp length-append (omega arith))

  pub v_globals : values (globals_now p q) s ≡ gs
  v_globals = block entry gs (ls ++ fresh) s (width_of p q) p.globals (e ∙ simp append_assoc) w.entry_width w.globals_width

  pub v_locals : values (locals_now p q) s ≡ ls
  v_locals = block (entry ++ gs) ls fresh s (width_of p q + p.globals) (locals_of p q) (e ∙ simp append_assoc) (simp length-append (omega arith)) w.locals_width

  -- columns after the path's own
  pub v_fresh : (n : ℕ) → length fresh ≡ n → values (columns (width_of p q + width_of p q) n) s ≡ fresh
  v_fresh n hf = block (entry ++ (gs ++ ls)) fresh [] s (width_of p q + width_of p q) n (e ∙ simp (append_assoc, append-nil)) (simp length-append (omega arith)) hf

  pub v_path : values (at_entry p q ++ at_now p q) s ≡ entry ++ (gs ++ ls)
  v_path = values_two (at_entry p q) (at_now p q) s v_entry v_now

  pub v_assign : (i : ℕ) (x : Row) → values (at_entry p q ++ set (at_now p q) i (substitute (at_now p q) x)) s ≡ entry ++ set (gs ++ ls) i (value x (gs ++ ls))
  v_assign i x = values_two (at_entry p q) (set (at_now p q) i (substitute (at_now p q) x)) s v_entry
      (values_set (at_now p q) i (substitute (at_now p q) x) s ∙ ap₂ (λ (l : List ℤ) (z : ℤ). set l i z) v_now (value_substitute (at_now p q) x s ∙ ap (value x) v_now))

  pub v_actuals : (actuals : List Row) → values (substitute_all (at_now p q) actuals) s ≡ values actuals (gs ++ ls)
  v_actuals actuals = values_substitute (at_now p q) actuals s ∙ ap (values actuals) v_now

  pub v_summary : (actuals : List Row) → length fresh ≡ p.globals → values (summary_image p q actuals) s ≡ gs ++ (values actuals (gs ++ ls) ++ fresh)
  unfolding summary_image
  v_summary actuals hf = values_two (globals_now p q) (substitute_all (at_now p q) actuals ++ fresh_globals p q) s v_globals (values_two (substitute_all (at_now p q) actuals) (fresh_globals p q) s (v_actuals actuals) (v_fresh p.globals hf))

  pub v_return : length fresh ≡ p.globals → values (at_entry p q ++ (fresh_globals p q ++ locals_now p q)) s ≡ entry ++ (fresh ++ ls)
  v_return hf = values_two (at_entry p q) (fresh_globals p q ++ locals_now p q) s v_entry (values_two (fresh_globals p q) (locals_now p q) s (v_fresh p.globals hf) v_locals)

  pub v_exit : parameters_of p q ≤ locals_of p q → values (columns 0 (p.globals + parameters_of p q) ++ globals_now p q) s ≡ take (p.globals + parameters_of p q) entry ++ gs
  v_exit f = values_two (columns 0 (p.globals + parameters_of p q)) (globals_now p q) s
      (block [] (take (p.globals + parameters_of p q) entry) (drop (p.globals + parameters_of p q) entry ++ ((gs ++ ls) ++ fresh)) s 0 (p.globals + parameters_of p q)
      (e ∙ ap (λ (l : List ℤ). l ++ ((gs ++ ls) ++ fresh)) (sym (take-append-drop (p.globals + parameters_of p q) entry)) ∙ simp append_assoc) refl (simp length-take (omega arith))) v_globals
