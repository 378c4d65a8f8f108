-- `kernels::kernel` meets its contract: each arm of the match is the definition's at that code.
use mathlib.Core.Path.{◌≡◌, refl, sym, ap, ◌∙◌}
use mathlib.Core.List.{List}
use borrow.Author.Tests.{ne_eqb}
use lib.Ieee.{Float}
use Rattle.parts.specs.Laws.{patch_piece}
use Rattle.lines.specs.declared.Ring.{Ring}
use Rattle.lines.specs.Ring.{cells_at}
use Rattle.ladders.specs.declared.Rows.{Rows}
use Rattle.ladders.specs.Ladders.{acid_with, clean_ladder_with}
use Rattle.extended.specs.Extended.{Ticked, ticked}
use Rattle.kernels.specs.Kernels.{kernel_of, on_states}
use Rattle.kernels.specs.Promises.{table_with, KernelLeaves}
use Rattle.kernels.specs.Keeping.{buzz_is, dj_is, diffuser_is, transistor_is, acid_is, clean_is, driven_is, comb_is}
use Rattle.kernels.specs.Keeping.{multimode_is, weights_are, band_is, k35_is, sections_step}
use Rattle.kernels.proofs.kernel.Goals as goal

-- a kernel on the states leaves the delay list as it was
on_states_lem : (delay : List Float) (at : Ring) (t : Ticked) (out : Float) (state : List Float) → ticked out state ≡ t
    → KernelLeaves (on_states (cells_at delay at) t) delay at out state delay
on_states_lem delay at t out state e =
    record { sample = ap (λ (t : Ticked). t.out) e; states = ap (λ (t : Ticked). t.state) e; cells = sym (patch_piece at.len at.slot delay) }

pub returns-in-1 : goal.returns-in-1
unfolding kernel_of
returns-in-1 c =
    let a = c.args in
    let key = c.in-1.is in
    rw (key, ← (c.buzz_with.ensures ∙ buzz_is a.code a.kept.now.tuning a.pitch a.p c.requires.1.numbers key))
    (on_states_lem _ _ _ _ _ c.buzz_step.ensures)

pub returns-in-2 : goal.returns-in-2
unfolding kernel_of
returns-in-2 c =
    let a = c.args in
    let key = c.in-2.is in
    rw (key, ← (c.dj_with.ensures ∙ dj_is a.code a.kept.now.tuning a.pitch a.p c.requires.1.numbers key))
    (on_states_lem _ _ _ _ _ c.dj_step.ensures)

pub returns-in-3 : goal.returns-in-3
unfolding kernel_of
returns-in-3 c =
    let a = c.args in
    let key = c.in-3.is in
    rw (key, ← (c.diffuser_with.ensures ∙ diffuser_is a.code a.kept.now.tuning a.pitch a.p c.requires.1.numbers key))
    (on_states_lem _ _ _ _ _ c.diffuser_step.ensures)

pub returns-in-4 : goal.returns-in-4
unfolding kernel_of
returns-in-4 c =
    let a = c.args in
    let key = c.in-4.is in
    rw (key, ← (c.transistor_with.ensures ∙ transistor_is a.code a.kept.now.tuning a.pitch a.p c.requires.1.numbers key))
    (on_states_lem _ _ _ _ _ c.transistor_step.ensures)

pub returns-in-5 : goal.returns-in-5
unfolding kernel_of
returns-in-5 c =
    let a = c.args in
    let key = c.in-5.is in
    rw (key, ← (c.acid_with.ensures ∙ ap (λ (r : Rows). acid_with r a.p) c.rows_of.ensures ∙ acid_is a.code a.kept.now.tuning a.pitch a.p c.requires.1.numbers key))
    (on_states_lem _ _ _ _ _ c.acid_step.ensures)

pub returns-in-6 : goal.returns-in-6
unfolding kernel_of
returns-in-6 c =
    let a = c.args in
    let key = c.in-6.is in
    rw (key, ← (c.clean_ladder_with.ensures ∙ ap (λ (r : Rows). clean_ladder_with r a.p) c.rows_of-in-6.ensures ∙ clean_is a.code a.kept.now.tuning a.pitch a.p c.requires.1.numbers key))
    (on_states_lem _ _ _ _ _ c.clean_ladder_step.ensures)

pub returns-in-7 : goal.returns-in-7
unfolding kernel_of
returns-in-7 c =
    let a = c.args in
    let key = c.in-7.is in
    rw (key, ← (c.driven_with.ensures ∙ driven_is a.code a.kept.now.tuning a.pitch a.p c.requires.1.numbers key))
    (on_states_lem _ _ _ _ _ c.driven_step.ensures)

pub returns-in-11 : goal.returns-in-11
unfolding kernel_of
returns-in-11 c =
    let a = c.args in
    let key = c.in-11.is in
    rw (key, ← (c.expander_of-in-11.ensures ∙ band_is a.code a.kept.now.tuning a.pitch a.p c.requires.1.numbers key))
    (on_states_lem _ _ _ _ _ c.band_step.ensures)

pub returns-in-12 : goal.returns-in-12
unfolding kernel_of
returns-in-12 c =
    let a = c.args in
    let key = c.in-12.is in
    rw (key, ← (c.k35_with.ensures ∙ k35_is a.code a.kept.now.tuning a.pitch a.p c.requires.1.numbers key))
    (on_states_lem _ _ _ _ _ c.k35_step.ensures)

pub returns-in-8 : goal.returns-in-8
unfolding kernel_of
returns-in-8 c =
    let a = c.args in
    let key = c.in-8.is in
    rw key
    (on_states_lem _ _ _ _ _
    (c.pole_zero_step.ensures
    ∙ sections_step (table_with a.series a.sections.now) a.pitch a.p a.kept.now.blended (c.requires.1.sections key) a.state.now a.x))

pub returns-in-9 : goal.returns-in-9
unfolding kernel_of
returns-in-9 c =
    let a = c.args in
    let key = c.in-9.is in
    let e = c.comb_step.ensures in
    rw (key, ← (c.comb_with.ensures ∙ comb_is a.code a.kept.now.tuning a.pitch a.p c.requires.1.numbers key))
    (record { sample = e.sample; states = refl; cells = e.cells })

pub returns-in-10 : goal.returns-in-10
unfolding kernel_of
returns-in-10 c =
    let a = c.args in
    let key = c.in-10.is in
    rw (
      key,
      ← (c.weights_of.ensures ∙ weights_are a.code a.kept.now.tuning a.pitch a.p c.requires.1.numbers key),
      ← (c.expander_of.ensures ∙ multimode_is a.code a.kept.now.tuning a.pitch a.p c.requires.1.numbers key),
    )
    (on_states_lem _ _ _ _ _ c.multimode_step.ensures)

pub returns-in-13 : goal.returns-in-13
unfolding kernel_of
returns-in-13 c =
    let key = c.in-13.is in
    let e = c.chord_step.ensures in
    rw (key, ← c.feedback_path.ensures, ← (c.requires.2 key).1) (record { sample = e.sample; states = refl; cells = e.cells })

pub returns-in_default : goal.returns-in_default
unfolding kernel_of
returns-in_default c =
    let a = c.args in
    let code = a.code in
    simp (
      ne_eqb code 1 c.in_default.in_default-own.rest.0.0.0.0.0.0.0.0.0.0.0.0.1,
      ne_eqb code 2 c.in_default.in_default-own.rest.0.0.0.0.0.0.0.0.0.0.0.1,
      ne_eqb code 3 c.in_default.in_default-own.rest.0.0.0.0.0.0.0.0.0.0.1,
      ne_eqb code 4 c.in_default.in_default-own.rest.0.0.0.0.0.0.0.0.0.1,
      ne_eqb code 5 c.in_default.in_default-own.rest.0.0.0.0.0.0.0.0.1,
      ne_eqb code 6 c.in_default.in_default-own.rest.0.0.0.0.0.0.0.1,
      ne_eqb code 7 c.in_default.in_default-own.rest.0.0.0.0.0.0.1,
      ne_eqb code 8 c.in_default.in_default-own.rest.0.0.0.0.0.1,
      ne_eqb code 9 c.in_default.in_default-own.rest.0.0.0.0.1,
      ne_eqb code 10 c.in_default.in_default-own.rest.0.0.0.1,
      ne_eqb code 11 c.in_default.in_default-own.rest.0.0.1,
      ne_eqb code 12 c.in_default.in_default-own.rest.0.1,
      ne_eqb code 13 c.in_default.in_default-own.rest.1,
    )
    (record { sample = refl; states = refl; cells = sym (patch_piece a.at.len a.at.slot a.delay.now) })
