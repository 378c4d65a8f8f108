-- A number of the table by its axes. Assumes nothing.
use Rattle.std.specs.Prelude.{◌≡◌, Bool, true, false, List}
use Rattle.std.proofs.Common.{sym}
use Rattle.std.proofs.Math.Bool.{cond}
use Rattle.std.specs.Float.Ieee.{Float}
use Rattle.poles.specs.declared.Pad.{Pad}
use Rattle.poles.specs.Poles.{number_at}
use Rattle.poles.specs.Numbers.{near_at, between_at}

-- by the table's axes
module _ (sections : List Float) (d : Pad) where
  by_axes : (b : Bool) → d.three ≡ b → (λ i. cond b (between_at sections d i) (near_at sections d i)) ≡ number_at sections d
  unfolding near_at between_at number_at
  by_axes b h = λ t i. cond (sym h t) (between_at sections d i) (near_at sections d i)

  pub two_axes : d.three ≡ false → near_at sections d ≡ number_at sections d
  two_axes = by_axes false

  pub three_axes : d.three ≡ true → between_at sections d ≡ number_at sections d
  three_axes = by_axes true
