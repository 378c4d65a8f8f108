-- `teeth::read_planned` meets its contract: made of the plan's cells the taps are the ring's, and so is their sum.
use mathlib.Core.Path.{◌≡◌, refl, sym, ap, ◌∙◌, subst}
use Prim.Native.Nat.{ℕ, ◌<◌}
use native.Mathlib.Omega.{arith}
use mathlib.Core.List.{List}
use lib.Ieee.{Float, of_bits, of_int, round}
use Rattle.lane.specs.Floats.{◌⊗◌, ◌⊘◌, ◌‼◌, whole, one}
use Rattle.parts.specs.Parts.{piece}
use Rattle.lines.specs.Lines.{ring_read}
use Rattle.lines.specs.View.{good}
use Rattle.lines.specs.Whole.{exact}
use Rattle.teeth.specs.Teeth.{teeth_of, taps_mean}
use Rattle.teeth.specs.Placing.{few_teeth}
use Rattle.teeth.specs.Taps.{tap_of, summed, Tapped, taps_are, sum_is, sum_none, rest_none}
use Rattle.teeth.proofs.read_planned.Goals as goal

pub returns-then-n-eq0 : goal.returns-then-n-eq0
unfolding taps_mean of_bits of_int round
returns-then-n-eq0 c =
    let a = c.args in
    let n = c.teeth_of-n in
    let none : teeth_of a.chord ≡ 0 = sym n.ensures ∙ c.if-n-eq0.true in
    let read : Float → Float = λ delay. ring_read a.len a.cursor delay (piece a.len a.slot a.buf.now) in
    record {
      mean_is = λ i. sum_none read (a.teeth.now ‼ 8) a.chord none i ⊗ (one ⊘ whole (n.ensures i));
      list = rest_none read (a.teeth.now ‼ 8) a.chord none;
    }

pub add_taps-sum-requires : goal.add_taps-sum-requires
unfolding of_bits round
add_taps-sum-requires c =
    let n = c.teeth_of-n.ensures in
    let some = c.if-n-eq0.false in (
      omega arith,
      omega (arith, few_teeth c.args.chord),
      λ j k h l. let p = c.requires.1.place j k (omega arith) l in omega (arith, c.requires.1.few),
      refl,
    )

pub returns : goal.returns
unfolding taps_mean of_bits of_int round
returns c =
    let a = c.args in
    let n = c.teeth_of-n in
    let cells = c.load_cells-cells in
    let r = c.add_taps-sum in
    let tap : ℕ → Float = λ j. tap_of cells.result a.plan.now (a.teeth.now ‼ j) j in
    let ring : List Float = piece a.len a.slot a.buf.now in
    let g = (good _ _ _ c.requires.0).size in
    let some : 0 < teeth_of a.chord = omega (arith, n.ensures, c.if-n-eq0.false) in
    record {
      mean_is = λ i.
          (r.ensures.total
          ∙ ap (summed tap) n.ensures
          ∙ sum_is a.len a.cursor ring a.chord a.plan.now a.teeth.now cells.result g c.requires.1 cells.ensures some) i
          ⊗ (one ⊘ whole (n.ensures i));
      list = taps_are a.len a.cursor ring a.chord a.plan.now a.teeth.now cells.result r.new.taps g c.requires.1 cells.ensures
          (subst (λ (k : ℕ). Tapped tap k r.new.taps) n.ensures r.ensures.made);
    }

pub int_to_float-result-2 : goal.int_to_float-result-2
int_to_float-result-2 c = exact c.teeth_of-n.result (omega (arith, c.teeth_of-n.ensures, few_teeth c.args.chord))
