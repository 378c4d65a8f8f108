-- `load_slot` meets its contract: a voice's piece of the targets, and a slot's numbers in the records.
use Rattle.std.proofs.Common.{ℕ, ◌+◌, List, ◌∷◌, ◌++◌, [], take, drop, refl, ap, ◌∙◌}
use lib.Ieee.{Float}
use Rattle.lane.specs.Floats.{◌‼◌}
use Rattle.run.specs.Run.{PEAK}
use Rattle.voices.specs.Calls.{record_z}
use Rattle.slots.specs.Frame.{targets_piece}
use Rattle.pairs.proofs.load_slot.Goals as goal

pub returns : goal.returns
returns c =
    let a = c.args in
    let rs : List Float = a.records.now in
    let from = c.start_of-from in
    let at = c.start_of-at.ensures.0 in
    let peak = c.running-peak.ensures in (
      refl,
      record {
        goals = targets_piece a.slot.voice from.result a.targets.now _ from.ensures.0 c.load-goals.ensures;
        params = c.load_smoothed-params.ensures ∙ ap (λ (k : ℕ). take 10 (drop k rs) ++ rs ‼ (k + record_z) ∷ []) at;
        state = c.load-state.ensures ∙ ap (λ (k : ℕ). take 20 (drop (k + 10) rs)) at;
        held = ap (λ (k : ℕ). rs ‼ (k + PEAK)) at;
        peak = peak.1;
        settles = peak.2;
        glides = c.has_glided-glided.ensures;
        count = refl;
        next = refl;
      },
    )
