-- `poles::pole_zero_step` meets its contract. The loop's invariant: after j turns, the states and the signal are those of j
-- sections in series.
use mathlib.Core.Path.{◌≡◌, ap}
use native.Mathlib.Omega.{arith}
use native.Mathlib.Numerals.{add-one}
use Prim.Native.Nat.{min}
use Rattle.lane.specs.Floats.{◌⊗◌}
use Rattle.extended.specs.Extended.{Ticked, ticked}
use Rattle.poles.specs.Poles.{pole_series, pole_step}
use Rattle.poles.proofs.pole_zero_step.Goals as goal

pub returns : goal.returns
unfolding pole_step pole_series
returns c =
    let all : c.loop-j.j ≡ min c.args.series.active 8 = omega arith in
    ap (λ (d : Ticked). ticked (d.out ⊗ c.args.series.gain) d.state) (rw all at c.loop-j.invariant)

pub loop-j-preserved : goal.loop-j-preserved
loop-j-preserved c = rw add-one (cc)
