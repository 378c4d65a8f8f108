-- `rows::part_words` meets its contract. Assumes nothing.
use Prim.Native.Nat.{◌+◌, ◌*◌}
use native.Mathlib.Omega.{arith}
use Rattle.parts.specs.Flat.{tab_again, tab_done}
use Rattle.rows.specs.Rows.{cell_word, row_words}
use Rattle.rows.proofs.part_words.Goals as goal

pub loop-w-preserved : goal.loop-w-preserved
loop-w-preserved c = tab_again _ _ _ _ _ 0 (omega arith) c.loop-w.invariant c.cell_word.ensures

pub returns : goal.returns
unfolding row_words
returns c =
    let a = c.args in
    tab_done (λ k. cell_word a.layout.carried a.layout.len a.xs.now a.row (a.part * 126 + k)) _ a.words.now c.loop-w.w 126 (omega arith) (omega arith)
    c.loop-w.invariant
