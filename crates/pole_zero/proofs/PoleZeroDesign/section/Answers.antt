-- `PoleZeroDesign::section` meets its contract: a point number below 8 has the blended values, any other refusal 11.
use native.Mathlib.Omega.{arith}
use mathlib.Core.Path.{◌≡◌}
use mathlib.Core.Bool.{true, false}
use lib.Dec.{ltb}
use borrow.Author.Tests.{le-ltb, lt-ltb}
use lib.Ieee.{of_bits, round}
use Rattle.pole_zero.specs.PoleZero.{refusal_of, values_of, section_refusal, section_values}
use Rattle.pole_zero.proofs.PoleZeroDesign.section.Goals as goal

pub returns-then-point-lt8 : goal.returns-then-point-lt8
unfolding refusal_of values_of section_refusal section_values of_bits round
returns-then-point-lt8 c =
    let point = c.args.point in
    let e : ltb point 8 ≡ true = lt-ltb point 8 (omega arith) in
    record {
      refusal = rw e;
      values = rw (e, c.blended_at.ensures, c.clamp-then-point-lt8-2.ensures, c.clamp-then-point-lt8.ensures, c.clamp.ensures);
    }

pub returns-else-point-lt8 : goal.returns-else-point-lt8
unfolding refusal_of values_of section_refusal section_values
returns-else-point-lt8 c =
    let point = c.args.point in
    let e : ltb point 8 ≡ false = le-ltb point 8 (omega arith) in
    record { refusal = rw e; values = rw e }
