-- `run::kernel_tick` meets its contract: each call gives its part of the definition.
use mathlib.Core.Path.{◌≡◌, sym, subst, ◌∙◌}
use mathlib.Core.List.{List}
use Prim.Native.Nat.{ℕ}
use lib.Ieee.{Float}
use lib.ListN.{length}
use Rattle.lines.specs.View.{good}
use Rattle.filter.specs.declared.Ratio.{Ratio}
use Rattle.pole_zero.specs.declared.Table.{Table}
use Rattle.kernels.specs.Promises.{KeptSections}
use Rattle.run.specs.Run.{kernel_tick, over_tick}
use Rattle.run.proofs.Keeping.{before_blend, tuned_at, planned_at, judged, keeps}
use Rattle.run.proofs.kernel_tick.Goals as goal

-- the sections' numbers stayed
stayed : (code : ℕ) (t : Table) (reference : Ratio) (o : ℕ) (b b' : List Float) → b' ≡ b → KeptSections code t reference b o
    → KeptSections code t reference b' o
stayed code t reference o b b' e = subst (λ x. KeptSections code t reference x o) (sym e)

pub kernel-out-requires : goal.kernel-out-requires
kernel-out-requires c =
    let replan = c.replan in
    let blend = c.blend_sections in
    let retune = c.retune in
    let a = c.args in
    let lag = c.lag-after.result in
    let e = c.settings_at-p.ensures in (
      c.requires.0,
      tuned_at a.m a.sections.now a.params.now lag c.settings_at-p.result e _ a.kept.now.over _ retune.ensures.1 _ _
          retune.new.self.blended _ (blend.ensures.2 ∙ retune.ensures.0) blend.ensures.0 blend.ensures.1,
      planned_at a.m a.sections.now a.params.now lag c.settings_at-p.result e _ a.kept.now.over _ retune.ensures.1 _ _
          retune.new.self.blended _ (blend.ensures.2 ∙ retune.ensures.0) blend.ensures.0 blend.ensures.1 a.at.len _ _ replan.ensures.1,
    )

pub replan-requires : goal.replan-requires
replan-requires c =
    let a = c.args in
    ((good a.at.len a.at.slot (length a.delay.now) c.requires.0).size, c.requires.1.planned)

pub blend_sections-requires : goal.blend_sections-requires
blend_sections-requires c =
    let retune = c.retune in
    let a = c.args in
    before_blend a.m a.sections.now a.params.now c.lag-after.result c.settings_at-p.result
    c.settings_at-p.ensures _ a.kept.now.over _ retune.ensures.1 retune.new.self.blended (stayed _ _ _ _ _ _ retune.ensures.2 c.requires.1.blends)

pub returns : goal.returns
unfolding kernel_tick over_tick
returns c =
    let replan = c.replan in
    let retune = c.retune in
    let drive = c.drive-driven.ensures in
    let lag = c.lag-after in
    let a = c.args in
    let e = c.settings_at-p.ensures in
    let brought = c.blend_sections.ensures in (
      rw (← lag.ensures.0, ← lag.ensures.1, ← drive, ← e) c.kernel-out.ensures,
      rw (← lag.ensures.0, ← e)
          (judged a.m a.sections.now a.params.now lag.result c.settings_at-p.result e _ a.kept.now.over _ retune.ensures.1 _ _
          retune.new.self.blended _ (brought.2 ∙ retune.ensures.0) brought.0 brought.1),
      keeps a.m a.sections.now a.params.now lag.result c.settings_at-p.result e _ a.kept.now.over _ retune.ensures.1 _ _
          retune.new.self.blended _ (brought.2 ∙ retune.ensures.0) brought.0 brought.1 a.at.len _ _ replan.ensures.0
          (stayed _ _ _ _ _ _ retune.ensures.2 c.requires.1.blends),
    )
