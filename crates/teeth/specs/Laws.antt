-- What the definitions of Teeth promise: the size counts cells, since different steps back are different cells of the ring; and of the offsets the first n
-- alone are heard. Assumes nothing.
use Rattle.std.specs.Prelude.{◌≡◌, refl, Bool, true, false, cond, ℕ, ◌+◌, ◌-◌, ◌%◌, ◌^◌, ◌<◌, ltb, Float}
use Rattle.std.proofs.Common.{sym, ◌∙◌, mod-lt, arith, ltb-true}
use Rattle.std.proofs.Math.Decide.{dec_le}
use Rattle.parts.specs.Laws.{tab_same}
use Rattle.lane.specs.Floats.{◌‼◌}
use Rattle.lane.specs.Floats as floats
use Rattle.lines.specs.Lines.{cell_of, is_length}
use Rattle.lines.specs.View.{length_of}
use Rattle.extended.specs.declared.Chord.{Chord}
use Rattle.teeth.specs.Teeth.{teeth_of, tooth_delay, taps_at}
use Rattle.teeth.specs.Cells.{cell_near, cell_far}

-- different steps back below len are different cells
pub cells_differ : (len cursor a b : ℕ) → is_length len ≡ true → cursor < 2 ^ 64 → a < len → b < len
    → cell_of len cursor a ≡ cell_of len cursor b → a ≡ b
cells_differ len cursor a b g c ha hb e =
    let o : ℕ = cursor % len in
    let t = length_of len g in
    let l = t.least in
    let lt : o < len = mod-lt cursor (omega arith) in
    elim (dec_le a o) [
      | yes u ↦ elim (dec_le b o) [
        | yes w ↦ let z : o - a ≡ o - b = cell_near len cursor a g c ha u ∙ e ∙ sym (cell_near len cursor b g c hb w) in omega arith
        | no w ↦ let z : o - a ≡ o + len - b = cell_near len cursor a g c ha u ∙ e ∙ sym (cell_far len cursor b g c hb (omega arith)) in omega arith
      ]
      | no u ↦ elim (dec_le b o) [
        | yes w ↦ let z : o + len - a ≡ o - b = cell_far len cursor a g c ha (omega arith) ∙ e ∙ sym (cell_near len cursor b g c hb w) in omega arith
        | no w ↦
            let z : o + len - a ≡ o + len - b = cell_far len cursor a g c ha (omega arith) ∙ e ∙ sym (cell_far len cursor b g c hb (omega arith)) in
            omega arith
      ]
    ]

-- chords of as many teeth and of the same offsets, as far as there are teeth, have the same taps
pub taps_same : (read : Float → Float) (ratio : Float) (c d : Chord) → teeth_of c ≡ teeth_of d
    → ((j : ℕ) → j < teeth_of c → c.offsets ‼ j ≡ d.offsets ‼ j) → taps_at read ratio c ≡ taps_at read ratio d
unfolding taps_at tooth_delay
taps_same read ratio c d n h =
    rw (← n) (tab_same (tap c) (tap d) 8 (λ j l. go j (ltb j (teeth_of c)) refl))
  where
    tap : Chord → ℕ → Float
    tap k j = cond (ltb j (teeth_of c)) (read (tooth_delay ratio k j)) floats.zero

    go : (j : ℕ) (t : Bool) → ltb j (teeth_of c) ≡ t
        → cond t (read (tooth_delay ratio c j)) floats.zero ≡ cond t (read (tooth_delay ratio d j)) floats.zero
    go j true e = rw (h j (ltb-true j (teeth_of c) e))
    go j false e = refl
