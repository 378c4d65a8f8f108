-- `lines::read_at` meets its contract: the held delay's whole part is between 2 and len - 3, so that the cast is defined and the
-- cells are the definition's.
use Rattle.std.proofs.Common.{ℕ, Bool, true, ◌≡◌, ◌≤◌, ◌-◌, sym, ◌∙◌, subst, arith}
use lib.Ieee.{of_bits, of_int, round}
use Rattle.lines.specs.Lines.{held, is_view, ring_read, read_of}
use Rattle.std.specs.Prelude.{Float}
use Rattle.lines.specs.View.{View, good}
use Rattle.lines.specs.Whole.{Between, exact}
use Rattle.lines.proofs.Delay.{held_between}
use Rattle.lines.proofs.read_at.Goals as goal

-- the delay as it is held
delay : (len : ℕ) (d x : Float) → 1024 ≤ len → len ≤ 65536 → x ≡ held len d → Between 2 (len - 3) x
delay len d x l m e = subst (Between 2 (len - 3)) (sym e) (held_between len d l m)

view : (len slot have : ℕ) (b : Bool) → b ≡ is_view len slot have → b ≡ true → View len slot have
view len slot have b e t = good len slot have (sym e ∙ t)

pub held-d-requires : goal.held-d-requires
held-d-requires c = let v = view _ _ _ _ c.is_view.ensures c.if-is_view.true in (v.least, v.most)

pub whole_part-w-requires : goal.whole_part-w-requires
whole_part-w-requires c =
    let v = view _ _ _ _ c.is_view.ensures c.if-is_view.true in
    let d = delay _ _ _ v.least v.most c.held-d.ensures in
    let l = d.least in
    let m = d.most in
    (omega arith, omega arith)

pub int_to_float-t : goal.int_to_float-t
int_to_float-t c =
    let v = view _ _ _ _ c.is_view.ensures c.if-is_view.true in
    let d = delay _ _ _ v.least v.most c.held-d.ensures in
    exact _ (omega (arith, c.whole_part-w.ensures))

pub taps-requires : goal.taps-requires
taps-requires c =
    let v = view _ _ _ _ c.is_view.ensures c.if-is_view.true in
    let d = delay _ _ _ v.least v.most c.held-d.ensures in
    let e = c.whole_part-w.ensures in
    (omega arith, v.ends, omega arith, omega arith)

pub returns-then-is_view : goal.returns-then-is_view
unfolding read_of ring_read of_int
returns-then-is_view c = rw (sym c.is_view.ensures ∙ c.if-is_view.true) (cc)

pub returns : goal.returns
unfolding read_of of_bits round
returns c = rw (sym c.is_view.ensures ∙ c.if-is_view.false)
