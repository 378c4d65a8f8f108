-- `run::tick` meets its contract: the calls leave what the definition's frame leaves.
use mathlib.Core.Path.{refl, sym, ap, ◌∙◌, subst}
use Prim.Native.Nat.{ℕ, ◌≤◌}
use lib.ListN.{length}
use Rattle.lane.specs.Floats.{◌‼◌, fma}
use Rattle.filter.specs.Voice.{OFFSET}
use Rattle.run.specs.Run.{offset_of}
use Rattle.peak.specs.Running.{settled_of}
use Rattle.run.specs.Laws.{smooth_length, kernel_tick_kept, few_over}
use Rattle.run.proofs.Frame.{frame}
use Rattle.run.proofs.tick.Goals as goal

pub returns : goal.returns
unfolding offset_of
returns c =
    let kernel = c.kernel_tick-wet.ensures in
    let a = c.args in
    let next = c.smooth_on.new.params in (
      λ b runs. (
        (c.raised.ensures b runs).0,
        frame a.m a.sections.now a.at a.f a.targets.now a.rec.now.params a.rec.now.state (settled_of b a.rec.now.peak) a.delay.now next
            (record { pitch = fma (next ‼ OFFSET) a.f.sign a.f.pitch.0; x = c.steer.result; y = c.steer-2.result })
            _ _ _ _ _
            c.requires.0 c.smooth_on.ensures refl c.steer.ensures c.steer-2.ensures kernel.0 kernel.1 c.mix-out.ensures refl (c.raised.ensures b runs).1,
      ),
      subst (λ (n : ℕ). n ≤ 8) (sym kernel.1) (few_over _ _ _ _ _ _),
      record {
        params = ap length c.smooth_on.ensures ∙ smooth_length a.m.k.alpha a.targets.now a.rec.now.params;
        state = ap length kernel.0.states ∙ (kernel_tick_kept _ _ _ _ _ _ _ _ _ _).states ∙ c.requires.0.state;
      },
      kernel.2,
      c.smooth_on.ensures,
    )
