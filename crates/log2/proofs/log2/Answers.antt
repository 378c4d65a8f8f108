-- `log2` meets its contract: between the two ends the pattern's fields are m and e (Window.antt), elsewhere the definition is 0 too. Assumes nothing.
use mathlib.Core.Path.{sym, ap, ◌∙◌, subst}
use mathlib.Core.Logic.{inl, inr}
use Prim.Native.Nat.{ℕ, ◌+◌, ◌-◌, ◌*◌, ◌/◌}
use native.Mathlib.Omega.{arith}
use lib.Dec.{T}
use lib.Ieee.{binary32, fits, to_bits}
use Rattle.log2.specs.Inner.{offset}
use Rattle.log2.proofs.Window.{Window, code_window, window_plain, code_log, no_log}
use Rattle.log2.proofs.log2.Goals as goal
use Rattle.log2.proofs.log2.Goals.{else-q-via-then-q+else-q-2, else-q-via-else-q}

held : (c : goal.Then-q-2) → T (fits binary32 c.args.q)
held c = subst T (sym c.well_formed.0.1) tt

win : (c : goal.Then-q-2) → Window c.args.q (to_bits binary32 c.args.q)
win c = code_window c.args.q (held c) c.if-q.true c.if-q-2.true

pub float_to_bits-b : goal.float_to_bits-b
float_to_bits-b c = window_plain c.args.q c.if-q.true

pub overflow_cast-b : goal.overflow_cast-b
overflow_cast-b c = let w = win c in omega (arith, w.high)

pub overflow_sub-b : goal.overflow_sub-b
overflow_sub-b c = let w = win c.before in omega (arith, w.low)

pub overflow_mul-b : goal.overflow_mul-b
overflow_mul-b c = let w = win c.before in omega (arith, w.high)

pub overflow_add-b-then-q-2 : goal.overflow_add-b-then-q-2
overflow_add-b-then-q-2 c = let w = win c.before in let f = c.fraction-f.ensures in omega (arith, w.high)

pub scaled-requires : goal.scaled-requires
scaled-requires c = let w = win c.before in let f = c.fraction-f.ensures in omega (arith, w.low, w.high)

pub returns-then-q-2 : goal.returns-then-q-2
returns-then-q-2 c =
    let q = c.args.q in
    let b = to_bits binary32 q in
    c.scaled.ensures
    ∙ ap (λ (z : ℕ). offset ((b / 8388608 - 1) * 1048576 + z)) c.fraction-f.ensures.0
    ∙ code_log q b c.if-q.true c.if-q-2.true (win c.before.before)

pub returns-else-q : goal.returns-else-q
returns-else-q c =
    elim c.else-q.branch [
      | else-q-via-then-q+else-q-2 w ↦ no_log c.args.q (inr w.if-q-2.false)
      | else-q-via-else-q w ↦ no_log c.args.q (inl w.if-q.false)
    ]
