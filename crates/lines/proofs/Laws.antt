-- What the definitions of Lines promise (document 01, point 4 of block): an accepted rate gives a good length; through a good view a
-- read and a write are those of the slot's ring; the four cells read lie in that ring, none the cursor's own; a read depends on that
-- ring alone; a write changes that one cell of the list alone. Assumes nothing.
use Rattle.std.specs.Prelude.{◌≡◌, ℕ, zero, suc, ◌+◌, ◌-◌, ◌*◌, ◌%◌, ◌^◌, ◌<◌, ◌≤◌, Bool, true, false, cond, ◌≢◌, List, length, set, slice_index_or, slice_set, Float}
use Rattle.std.proofs.Math.Path.{refl}
use Rattle.std.proofs.Common.{sym, ◌∙◌, subst, mod-lt, lt_of_not-le, not-le_of_lt, lt_of_lt_of_le, add-sub_of_le, arith, length-set, get_or-set_same, get_or-set_other, pow_mono, le-leb}
use Rattle.std.specs.Float.{nan}
use Rattle.std.specs.Float.Ieee.{size}
use Rattle.std.specs.Float.Ieee.Digits.{size-lt, size-le}
use Rattle.lane.specs.Floats.{◌⊖◌, ◌⊗◌, ◌‼◌, whole}
use Rattle.parts.specs.Parts.{piece, patch}
use Rattle.parts.specs.Laws.{length_piece, piece_patch, piece_other}
use Rattle.parts.proofs.Laws.{set_piece}
use Rattle.lines.specs.Lines.{whole_part, rate_refused, max_delay_seconds, next_power, ring_len, hermite_of, held, cell_of, taps_of, ring_read, ring_write}
use Rattle.lines.specs.Lines.{is_length, is_view, read_of, write_of}
use Rattle.lines.specs.Length.{eighth}
use Rattle.lines.proofs.Delay.{held_between}
use Rattle.lines.specs.View.{length_of, good, cell_other}

-- ---- a ring's length

-- the next power of two of a number from 513 to 65,536 is a good length
next_good : (n : ℕ) → 513 ≤ n → n ≤ 65536 → is_length (next_power n) ≡ true
unfolding next_power
next_good n l h =
    let above : size (n - 1) < 17 = omega (arith, size-le (n - 1) 16 (omega arith)) in
    let below : 10 ≤ size (n - 1) = lt_of_not-le (λ (g : size (n - 1) ≤ 9). not-le_of_lt (lt_of_lt_of_le (size-lt (n - 1)) (pow_mono g)) (omega arith)) in
    subst (λ (k : ℕ). is_length (2 ^ k) ≡ true) (add-sub_of_le below) (powers (size (n - 1) - 10) (omega arith))
  where
    powers : (i : ℕ) → i < 7 → is_length (2 ^ (10 + i)) ≡ true
    powers zero h = refl
    powers (suc zero) h = refl
    powers (suc (suc zero)) h = refl
    powers (suc (suc (suc zero))) h = refl
    powers (suc (suc (suc (suc zero)))) h = refl
    powers (suc (suc (suc (suc (suc zero))))) h = refl
    powers (suc (suc (suc (suc (suc (suc zero)))))) h = refl
    powers (suc (suc (suc (suc (suc (suc (suc i))))))) h = absurd (omega arith)

-- a bank's view is good: the length at an accepted rate is a power of two from 1,024 to 65,536
pub ring_len_good : (rate : Float) → rate_refused rate ≡ false → is_length (ring_len rate) ≡ true
unfolding ring_len
ring_len_good rate h = rw h (next_good (whole_part (rate ⊗ max_delay_seconds) + 8) (omega (arith, (eighth rate h).least)) (omega (arith, (eighth rate h).most)))

-- ---- a good view

pub view_good : (len slot have : ℕ) → is_length len ≡ true → slot * len + len ≤ have → is_view len slot have ≡ true
unfolding is_view
view_good len slot have g h = rw (g, le-leb (slot * len + len) have h)

module _ (xs : List Float) (len cursor slot : ℕ) (v : Float) (h : is_view len slot (length xs) ≡ true) where
  pub read_good : read_of xs len cursor slot v ≡ ring_read len cursor v (piece len slot xs)
  unfolding read_of
  read_good = rw h

  pub write_good : write_of xs len cursor slot v ≡ patch len slot (ring_write len cursor v (piece len slot xs)) xs
  unfolding write_of
  write_good = rw h

-- ---- the cells read

-- in the ring, and not the cursor's own
pub record Apart (len cursor back : ℕ) : Type 0 where
  pub inside : cell_of len cursor back < len
  pub other : cell_of len cursor back ≢ cursor % len

pub cells_apart : (len cursor : ℕ) (delay : Float) → is_length len ≡ true → cursor < 2 ^ 64
    → let w = whole_part (held len delay) in
    (2 ≤ w) × (w ≤ len - 3) × Apart len cursor (w - 1) × Apart len cursor w × Apart len cursor (w + 1) × Apart len cursor (w + 2)
unfolding cell_of
cells_apart len cursor delay g c =
    let l = length_of len g in
    let b = held_between len delay l.least l.most in
    let at : (back : ℕ) → 0 < back → back < len → Apart len cursor back
    = λ back p h. record { inside = mod-lt _ (omega arith); other = cell_other len cursor back g c p h } in
    (b.least, b.most, at _ (omega arith) (omega arith), at _ (omega arith) (omega arith), at _ (omega arith) (omega arith), at _ (omega arith) (omega arith))

-- what stands in the cursor's own cell is never read
pub read_past : (len cursor : ℕ) (delay v : Float) (ring : List Float) → is_length len ≡ true → cursor < 2 ^ 64
    → ring_read len cursor delay (ring_write len cursor v ring) ≡ ring_read len cursor delay ring
unfolding ring_read ring_write taps_of
read_past len cursor delay v ring g c =
    let w = whole_part (held len delay) in
    let t = held len delay ⊖ whole w in
    let a = cells_apart len cursor delay g c in
    let same : (back : ℕ) → Apart len cursor back → set ring (cursor % len) v ‼ cell_of len cursor back ≡ ring ‼ cell_of len cursor back
    = λ back p. get_or-set_other ring (cursor % len) (cell_of len cursor back) v nan p.other in
    λ i. hermite_of (same (w - 1) a.2 i) (same w a.3 i) (same (w + 1) a.4 i) (same (w + 2) a.5 i) t

-- a read depends on the slot's ring alone
pub read_own : (xs ys : List Float) (len cursor slot : ℕ) (delay : Float)
    → length xs ≡ length ys → piece len slot xs ≡ piece len slot ys
    → read_of xs len cursor slot delay ≡ read_of ys len cursor slot delay
unfolding read_of
read_own xs ys len cursor slot delay l e = rw (l, e)

-- ---- the cell written

pub ring_write_length : (len cursor : ℕ) (v : Float) (ring : List Float) → length (ring_write len cursor v ring) ≡ length ring
unfolding ring_write
ring_write_length len cursor v ring = length-set ring (cursor % len) v

module _ (xs : List Float) (len cursor slot : ℕ) (v : Float) where
  -- a good view's write is one store to the list
  pub write_is : is_view len slot (length xs) ≡ true → write_of xs len cursor slot v ≡ slice_set xs (slot * len + cursor % len) v
  unfolding write_of ring_write
  write_is h = let g = good len slot (length xs) h in rw h (sym (set_piece len slot (cursor % len) xs v g.ends (mod-lt cursor (omega arith))))

  pub write_bad : is_view len slot (length xs) ≡ false → write_of xs len cursor slot v ≡ xs
  unfolding write_of
  write_bad h = rw h

  cases : (P : List Float → Type 0) → P (slice_set xs (slot * len + cursor % len) v) → P xs → P (write_of xs len cursor slot v)
  cases P a b = go (is_view len slot (length xs)) refl
    where
      go : (x : Bool) → is_view len slot (length xs) ≡ x → P (write_of xs len cursor slot v)
      go true h = subst P (sym (write_is h)) a
      go false h = subst P (sym (write_bad h)) b

  -- whatever the view: the list keeps its length, and every other cell its value
  pub write_length : length (write_of xs len cursor slot v) ≡ length xs
  write_length = cases (λ ys. length ys ≡ length xs) (length-set xs (slot * len + cursor % len) v) refl

  pub write_other : (i : ℕ) (d : Float) → i ≢ slot * len + cursor % len → slice_index_or (write_of xs len cursor slot v) i d ≡ slice_index_or xs i d
  write_other i d ne = cases (λ ys. slice_index_or ys i d ≡ slice_index_or xs i d) (get_or-set_other xs (slot * len + cursor % len) i v d ne) refl

  -- through a good view the cell takes the value
  pub write_own : (d : Float) → is_view len slot (length xs) ≡ true → slice_index_or (write_of xs len cursor slot v) (slot * len + cursor % len) d ≡ v
  write_own d h =
      let g = good len slot (length xs) h in
      let m : cursor % len < len = mod-lt cursor (omega arith) in
      rw (write_is h) (get_or-set_same xs (slot * len + cursor % len) v d (omega arith))

  -- and the slot's ring is the ring written, every other slot's ring as it was
  pub write_own_ring : is_view len slot (length xs) ≡ true → piece len slot (write_of xs len cursor slot v) ≡ ring_write len cursor v (piece len slot xs)
  unfolding write_of
  write_own_ring h =
      let g = good len slot (length xs) h in
      rw h
      (piece_patch len slot (ring_write len cursor v (piece len slot xs)) xs g.ends
      (ring_write_length len cursor v (piece len slot xs) ∙ length_piece len slot xs g.ends))

  pub write_other_ring : (s : ℕ) → s ≢ slot → piece len s (write_of xs len cursor slot v) ≡ piece len s xs
  unfolding write_of
  write_other_ring s ne = go (is_view len slot (length xs)) refl
    where
      go : (x : Bool) → is_view len slot (length xs) ≡ x
          → piece len s (cond x (patch len slot (ring_write len cursor v (piece len slot xs)) xs) xs) ≡ piece len s xs
      go true h =
          let g = good len slot (length xs) h in
          piece_other len s slot (ring_write len cursor v (piece len slot xs)) xs ne g.ends
          (ring_write_length len cursor v (piece len slot xs) ∙ length_piece len slot xs g.ends)
      go false h = refl
