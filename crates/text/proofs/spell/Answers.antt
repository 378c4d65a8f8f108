-- `spell` meets its contract: with i places left, the digits of what is left, before those stored from i on, are the digits of n. Assumes nothing.
use mathlib.Core.Path.{◌≡◌, ◌∙◌}
use Prim.Native.Nat.{◌≤◌}
use native.Mathlib.Omega.{arith}
use lib.ListN.{length, length-set, drop_of_length-le}
use Rattle.text.specs.Text.{spelled, decimal_text}
use Rattle.text.proofs.Writing.{turn_last, turn_on}
use Rattle.text.proofs.spell.Goals as goal

pub loop-i-init : goal.loop-i-init
unfolding decimal_text
loop-i-init c =
    let h : length c.args.text.now ≤ 20 = omega arith in
    (rw (drop_of_length-le c.args.text.now h), omega arith, c.requires)

pub returns-then-rest-lt10 : goal.returns-then-rest-lt10
returns-then-rest-lt10 c =
    let l = c.loop-i in
    (omega arith, simp length-set l.invariant.2, turn_last l.i l.rest _ l.text c.loop-i-test.true (omega arith) c.if-rest-lt10.true c.glyph.ensures ∙ l.invariant.0)

pub loop-i-preserved : goal.loop-i-preserved
loop-i-preserved c =
    let l = c.loop-i in
    (turn_on l.i l.rest _ l.text c.loop-i-test.true (omega arith) c.if-rest-lt10.false c.glyph.ensures ∙ l.invariant.0, omega arith, simp length-set l.invariant.2)

pub returns : goal.returns
unfolding spelled
returns c =
    let z : c.loop-i.i ≡ 0 = omega arith in
    (omega arith, c.loop-i.invariant.2, rw z at c.loop-i.invariant.0)
