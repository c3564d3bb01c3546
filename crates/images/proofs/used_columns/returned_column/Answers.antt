-- Three blocks of columns: those at entry and the locals now stay, and the globals now are the columns behind the path's.
use Rattle.std.proofs.Common.{◌≡◌, refl, ap, ◌∙◌, ◌++◌, ◌+◌, ◌-◌, arith}
use Rattle.std.proofs.Math.Nat.{zero-add}
use Rattle.rows.specs.Columns.{column, columns as block}
use Rattle.entailments.proofs.ImageSizes.{length_block}
use Rattle.images.proofs.ImageColumns.{column_there, behind, front_column, behind_column}
use Rattle.images.proofs.used_columns.returned_column.Goals as goal

pub returns-then-c-s : goal.returns-then-c-s
returns-then-c-s c =
    λ words.
    let a = c.args in
    let s = a.s in
    column_there a.c
    (front_column (block 0 s.k) (block (s.k + s.k) s.globals ++ block (s.k + s.globals) (s.k - s.globals)) (length_block 0 s.k) a.c 0 refl c.if-c-s.true ∙ ap column (zero-add a.c)) (omega arith)

pub returns-then-c-s-2 : goal.returns-then-c-s-2
returns-then-c-s-2 c =
    λ words.
    let a = c.args in
    let s = a.s in
    let last = block (s.k + s.globals) (s.k - s.globals) in
    let q : s.k + s.k + (a.c - s.k) ≡ s.k + a.c = omega arith in
    column_there (s.k + a.c)
    (behind (block 0 s.k) (block (s.k + s.k) s.globals ++ last) (length_block 0 s.k) a.c (omega arith)
    ∙ (front_column (block (s.k + s.k) s.globals) last (length_block (s.k + s.k) s.globals) (a.c - s.k) (s.k + s.k) refl (omega arith) ∙ ap column q)) (omega arith)

pub returns : goal.returns
returns c =
    λ words.
    let a = c.args in
    let s = a.s in
    let last = block (s.k + s.globals) (s.k - s.globals) in
    column_there a.c
    (behind (block 0 s.k) (block (s.k + s.k) s.globals ++ last) (length_block 0 s.k) a.c (omega arith)
    ∙ behind_column (block (s.k + s.k) s.globals) last (length_block (s.k + s.k) s.globals) (a.c - s.k) (s.k + s.globals) (s.k - s.globals) a.c refl (omega arith) (omega arith) (omega arith)) (omega arith)
