-- `KeptNumbers::retune` meets its contract: what is kept is of the same pitch and character, or it is worked out.
use mathlib.Core.Path.{refl, ◌∙◌}
use Rattle.kernels.specs.Tuning.{tuning_of, tuned_over, key_of}
use Rattle.kernels.specs.Promises.{Kept}
use Rattle.kernels.proofs.tuning.KeptNumbers.retune.Goals as goal

pub returns-then-is_tuned : goal.returns-then-is_tuned
unfolding Kept
returns-then-is_tuned c =
    let a = c.args in
    let key = c.is_tuned.ensures c.if-is_tuned.true in
    let kept = c.requires key.number in (
      kept.0 ∙ (λ i. tuning_of a.code (record { 0 = key.pitch_is i }) (key_of a.reference a.chord (key.character_is i))),
      kept.1 ∙ (λ i. tuned_over a.code (record { 0 = key.pitch_is i }) (key_of a.reference a.chord (key.character_is i)) a.self.now.over),
      refl,
    )

pub returns : goal.returns
returns c = (c.retuned-next.ensures.0, c.retuned-next.ensures.1, refl)
