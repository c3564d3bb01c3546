-- 000's valid paths (section 2.3): the labels of steps, and the grammar of their strings, with its nonterminals M and V. Document 01: "Runs are
-- 000's valid paths, generated from V (000's text once says M)".
use Rattle.std.specs.Prelude.{List}
use Rattle.std.proofs.Common.{subst, append-nil}
use Rattle.programs.specs.ValidPaths.{Label, Level, Valid, level, none}

-- a same-level valid path is a valid path
pub level_valid : {u : List Label} → Level u → Valid u
level_valid {u} m = subst Valid (append-nil u) (level m none)
