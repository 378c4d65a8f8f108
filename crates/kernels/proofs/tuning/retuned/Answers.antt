-- `kernels::tuning::retuned` meets its contract: the driven ladder's numbers at another pitch are its list's of that pitch; others are worked out.
use mathlib.Core.Path.{sym, ap, ◌∙◌}
use Prim.Native.Nat.{ℕ}
use lib.Ieee.{of_bits, round}
use Rattle.lane.specs.Floats.{◌‼◌}
use Rattle.kernels.specs.Tuning.{tuning_of, tuned_over, key_of}
use Rattle.kernels.specs.Promises.{Kept}
use Rattle.kernels.specs.Keeping.{driven_again}
use Rattle.kernels.proofs.tuning.retuned.Goals as goal

pub returns-then-is_driven : goal.returns-then-is_driven
unfolding Kept tuned_over key_of
returns-then-is_driven c =
    let a = c.args in
    let t = a.tuning.now in
    let d = c.is_driven.ensures c.if-is_driven.true in
    let kept = c.requires d.number in
    let next = c.driven_at.ensures in
    let key = key_of a.reference a.chord a.character in (
      next.0
          ∙ driven_again a.reference a.chord a.character t (record { 0 = t ‼ 8 }) a.pitch
          (kept.0 ∙ (λ i. tuning_of (d.driven i) (record { 0 = t ‼ 8 }) (key_of a.reference a.chord (d.character_is i))))
          ∙ ap (λ (n : ℕ). tuning_of n a.pitch key) (sym d.driven),
      next.1 ∙ ap (λ (n : ℕ). tuned_over n a.pitch key a.over) (sym d.driven),
    )

pub returns : goal.returns
unfolding key_of of_bits round
returns c = c.tuned.ensures
