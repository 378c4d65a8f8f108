-- `peak::raised` meets its contract: its comparisons are the definition's, which runs on (`raises`).
use mathlib.Core.Path.{◌≡◌, sym, ap, ◌∙◌, subst}
use mathlib.Core.Bool.{cond}
use lib.Dec.{T}
use lib.Ieee.{Float, binary32, fits, lt, neg}
use Rattle.peak.specs.Peak.{peak_of}
use Rattle.peak.specs.Running.{raised_of, settled_of, Runs, raises}
use Rattle.peak.proofs.raised.Goals as goal

good : (c : goal.After-larger-2) → T (fits binary32 c.args.out)
good c = subst T (sym c.well_formed.1.0.1) tt

compared : (p x h r : Float) → h ≡ cond (lt p x) x p → r ≡ cond (lt h (neg x)) (neg x) h → r ≡ raised_of p x
unfolding raised_of
compared p x h r e k = k ∙ ap (λ (v : Float). cond (lt v (neg x)) (neg x) v) e

chosen : (p x r : Float) → T (fits binary32 x) → r ≡ raised_of p x
    → (b : Float) → Runs b p → Runs b r × (settled_of b r ≡ peak_of (settled_of b p) x)
chosen p x r f e b h = subst (λ (q : Float). Runs b q × (settled_of b q ≡ peak_of (settled_of b p) x)) (sym e) (raises b p x h f)

pub returns : goal.returns
returns c = chosen _ _ _ (good c) (compared _ _ _ _ c.larger.ensures c.larger-2.ensures)
