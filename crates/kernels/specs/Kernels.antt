-- The structure's kernel, chosen by its code (document 01, A bank is opened: the table of structure codes; document 02, C-11, C-17, C-18).
-- Definitions only. Assumes nothing.
use Rattle.std.specs.Prelude.{ℕ, ◌+◌, cond, List, eqb, Float}
use Rattle.filter.specs.declared.Pitch.{Pitch}
use Rattle.filter.specs.Filter.{octaves_of, over_of, once}
use Rattle.extended.specs.declared.Settings.{Settings}
use Rattle.extended.specs.Extended.{Ticked}
use Rattle.pole_zero.specs.declared.Table.{Table}
use Rattle.sweeps.specs.Sweeps.{buzz_coefficients, buzz_step, dj_coefficients, dj_over, dj_step, diffuser_coefficients, diffuser_step}
use Rattle.ladders.specs.Ladders.{transistor_coefficients, transistor_step, driven_coefficients, driven_step}
use Rattle.ladders.specs.Ladders.{acid_coefficients, acid_step, clean_ladder_coefficients, clean_ladder_step}
use Rattle.expanders.specs.Expanders.{expander_coefficients, band_step, multimode_weights, multimode_step, k35_coefficients, k35_step}
use Rattle.poles.specs.Poles.{pad_of, number_at, pole_coefficients, pole_over, pole_step}
use Rattle.combs.specs.Combs.{Combed, comb_coefficients, comb_over, comb_step, feedback_path, comb_ratio, chord_step, chord_over}

-- what a kernel leaves: its sample, its 20 states and its slot's ring
pub record Kernel : Type 0 where
  pub out : Float
  pub state : List Float
  pub ring : List Float

-- eleven kernels leave the ring, Comb2 and the chord comb the states
abbrev pub on_states : List Float → Ticked → Kernel
on_states ring t = record { out = t.out; state = t.state; ring = ring }

abbrev pub on_ring : List Float → Combed → Kernel
on_ring state t = record { out = t.out; state = state; ring = t.ring }

-- 1 BuzzMorph, 2 DjSweep, 3 Diffuser, 4 TransistorLadder (DRIVEN false), 5 DiodeLadder (CLEAN false), 6 DiodeLadder (true),
-- 7 TransistorLadder (true), 8 PoleZero, 9 Comb2, 10 Expander (BAND false), 11 Expander (true), 12 K35, 13 the chord comb (C-18).
-- No other code passes refusal 5; here one would leave everything as it is.
unfoldable pub kernel_of : (code : ℕ) → Table → (len cursor : ℕ) → Pitch → Settings → (state ring : List Float) (x : Float) → Kernel
kernel_of code table len cursor pitch p state ring x =
    cond (eqb code 1) (on_states ring (buzz_step (buzz_coefficients pitch p) state x))
    (cond (eqb code 2) (on_states ring (dj_step (dj_coefficients pitch p) state x))
    (cond (eqb code 3) (on_states ring (diffuser_step (diffuser_coefficients pitch p) state x))
    (cond (eqb code 4) (on_states ring (transistor_step (transistor_coefficients pitch p) state x))
    (cond (eqb code 5) (on_states ring (acid_step (acid_coefficients pitch p) state x))
    (cond (eqb code 6) (on_states ring (clean_ladder_step (clean_ladder_coefficients pitch p) state x))
    (cond (eqb code 7) (on_states ring (driven_step (driven_coefficients pitch p) state x))
    (cond (eqb code 8) (on_states ring (pole_step (pole_coefficients table.three table.sections pitch p) table.active table.gain state x))
    (cond (eqb code 9) (on_ring state (comb_step (comb_coefficients pitch p) len cursor ring x))
    (cond (eqb code 10) (on_states ring (multimode_step (expander_coefficients pitch p) (multimode_weights p.character) state x))
    (cond (eqb code 11) (on_states ring (band_step (expander_coefficients pitch p) state x))
    (cond (eqb code 12) (on_states ring (k35_step (k35_coefficients pitch p) state x))
    (cond (eqb code 13) (on_ring state (chord_step (feedback_path p) (comb_ratio pitch p) p.chord len cursor ring x))
    (record { out = x; state = state; ring = ring })))))))))))))

-- C-11: how often its tick judges a ratio greater than the cap. PoleZero judges once a section, Comb2 once at each of its two reads, the
-- chord comb once a tooth, any other kernel, which caps one ratio, once a tick; DjSweep's is that of its own cutoff
unfoldable pub over_count : (code : ℕ) → Table → Pitch → Settings → ℕ
over_count code table pitch p =
    cond (eqb code 8) (pole_over (number_at table.sections (pad_of table.three p)) table.active (octaves_of pitch) p.ref_over_rate)
    (cond (eqb code 9) (once (comb_over pitch p) + once (comb_over pitch p))
    (cond (eqb code 13) (chord_over pitch p)
    (cond (eqb code 2) (once (dj_over pitch p))
    (once (over_of pitch p.ref_over_rate)))))
