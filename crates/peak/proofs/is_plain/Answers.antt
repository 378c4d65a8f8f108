-- `peak::is_plain` meets its contract: by its tests; the rest is `begins`. Assumes nothing.
use mathlib.Core.Path.{◌≡◌, refl, sym, ap, ◌∙◌, subst}
use mathlib.Core.Bool.{Bool, true, false, not, ◌&&◌, ◌||◌}
use lib.Dec.{T}
use lib.Ieee.{Float, binary32, fits, lt, is_nan, round, of_bits}
use Rattle.lane.specs.Floats.{zero}
use Rattle.lane.specs.Lane.{is_minus_zero}
use Rattle.peak.specs.Running.{is_plain, running_of, settled_of, Runs, begins}
use Rattle.peak.proofs.is_plain.Goals as goal
use Rattle.peak.proofs.is_plain.Goals.{then-peak, else-peak, then-is_nan, else-is_nan}

-- none of the three
none : (l n z : Bool) → not (l || n || z) ≡ not l && not n && not z
none true n z = refl
none false true z = refl
none false false z = refl

answer : (b : Float) (k : Bool) → T (fits binary32 b) → k ≡ lt b zero || is_nan b || is_minus_zero b
    → (not k ≡ is_plain b) × Runs b (running_of b) × (settled_of b (running_of b) ≡ b)
unfolding is_plain
answer b k f e = (ap not e ∙ none (lt b zero) (is_nan b) (is_minus_zero b), (begins b f).0, (begins b f).1)

pub returns : goal.returns
unfolding round of_bits
returns c =
    let b = c.args.peak in
    let first : c.if-peak.value ≡ lt b zero || is_nan b = elim c.if-peak.branch [
      | then-peak w ↦ rw (w.value-is, w.if-peak.true) refl
      | else-peak w ↦ rw (w.value-is, w.if-peak.false, w.is_nan.ensures.value) refl
    ] in
    let all : c.if-is_nan.result ≡ lt b zero || is_nan b || is_minus_zero b = elim c.if-is_nan.branch [
      | then-is_nan w ↦ rw (w.result-is, ← first, w.if-is_nan.true) refl
      | else-is_nan w ↦ rw (w.result-is, ← first, w.if-is_nan.false, w.is_minus_zero.ensures) refl
    ] in
    answer b c.if-is_nan.result (subst T (sym c.well_formed.0.1) tt) all
