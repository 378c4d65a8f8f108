-- Laws on the table: at most eight sections are in use, the list has 320 numbers, the axes are the design's, and the default design's table has no section.
-- The first two hold after each turn of the loop over the points; the third by computing the test of each point.
use Prim.Native.Nat.{ℕ, suc, ◌+◌, ◌≤◌, ◌<◌}
use native.Mathlib.Omega.{arith}
use mathlib.Core.Path.{◌≡◌, refl, ◌∙◌}
use mathlib.Core.List.{List}
use mathlib.Core.Bool.{Bool, true, false, cond}
use lib.Ieee.{Float, is_nan, lt, neg, round}
use lib.ListN.{length, replicate}
use Rattle.lane.specs.Floats.{whole, zero}
use Rattle.lane.specs.Lane.{clamp_of, pow10_of}
use Rattle.parts.specs.Parts.{upto, patch}
use Rattle.parts.specs.Laws.{upto_count, upto_keep, length_patch}
use Rattle.points.specs.Points.{clamp_or, is_bypass, default_state}
use Rattle.pole_zero.specs.declared.PoleZeroDesign.{PoleZeroDesign}
use Rattle.pole_zero.specs.declared.Table.{Table}
use Rattle.pole_zero.specs.PoleZero.{near, far, face_sections, terms_of, bilinear_of, face_bypassed, is_bypassed, default_design, design_gain}
use Rattle.pole_zero.specs.PoleZero.{empty_table, with_section, with_point, table_of}

-- a point has 20 terms in each face
pub length_bilinear : (design : PoleZeroDesign) (face point : ℕ) → length (bilinear_of design face point) ≡ 20
unfolding bilinear_of terms_of
length_bilinear design face point = refl

-- a section stored in either face leaves the list as long as it was
length_section : (design : PoleZeroDesign) (p n : ℕ) (sections : List Float) → n < 8 → length sections ≡ 320
    → length (with_section design p n sections) ≡ 320
unfolding with_section
length_section design p n sections h l =
    by_axes (patch 20 n (bilinear_of design near p) sections) design.three
    (length_patch 20 n (bilinear_of design near p) sections (omega arith) (length_bilinear design near p) ∙ l)
  where
    by_axes : (s : List Float) (b : Bool) → length s ≡ 320 → length (cond b (patch 20 (face_sections + n) (bilinear_of design far p) s) s) ≡ 320
    by_axes s true e = length_patch 20 (face_sections + n) (bilinear_of design far p) s (omega arith) (length_bilinear design far p) ∙ e
    by_axes s false e = e

-- a table after k points: at most k sections are in use, and the list is as long as ever
pub record Sized (k : ℕ) (t : Table) : Type 0 where
  pub few : t.active ≤ k
  pub long : length t.sections ≡ 320

turn : (design : PoleZeroDesign) (k : ℕ) (t : Table) → k < 8 → Sized k t → Sized (suc k) (with_point design k t)
unfolding with_point
turn design k t h s = by_test (is_bypassed design k)
  where
    next : Table
    next = record { active = t.active + 1; three = t.three; sections = with_section design k t.active t.sections; gain = t.gain }

    by_test : (b : Bool) → Sized (suc k) (cond b t next)
    by_test true = record { few = omega arith; long = s.long }
    by_test false = record { few = omega arith; long = length_section design k t.active t.sections (omega arith) s.long }

pub sized : (design : PoleZeroDesign) (k : ℕ) → k ≤ 8 → Sized k (upto (with_point design) k (empty_table design))
unfolding empty_table
sized design k h =
    upto_count Sized (with_point design) k (empty_table design)
    (λ j t b s. turn design j t (omega arith) s)
    record { few = omega arith; long = refl }

pub table_active : (design : PoleZeroDesign) → (table_of design).active ≤ 8
unfolding table_of
table_active design = (sized design 8 (omega arith)).few

pub table_length : (design : PoleZeroDesign) → length (table_of design).sections ≡ 320
unfolding table_of
table_length design = (sized design 8 (omega arith)).long

-- the table has the design's axes
pub table_axes : (design : PoleZeroDesign) → (table_of design).three ≡ design.three
unfolding table_of empty_table with_point
table_axes design =
    upto_keep (λ (t : Table). t.three ≡ design.three) (with_point design) 8 (empty_table design) (λ k t l e. kept (is_bypassed design k) t _ e e) refl
  where
    kept : (b : Bool) (t u : Table) → t.three ≡ design.three → u.three ≡ design.three → (cond b t u).three ≡ design.three
    kept true t u e f = e
    kept false t u e f = f

-- the all-bypass table: no section in use, two axes, 320 zeros, and the gain of 0 dB
pub bypass_table : table_of default_design ≡ record { active = 0; three = false; sections = replicate 320 zero; gain = pow10_of zero (whole 20) }
unfolding table_of with_point is_bypassed face_bypassed is_bypass empty_table design_gain default_design default_state clamp_or clamp_of is_nan lt neg round
bypass_table = refl
