-- The ends of `survey`: the table is full exactly where every number stands once. Assumes nothing.
use mathlib.Core.Path.{◌≡◌, sym, ap, ◌∙◌, subst}
use mathlib.Core.Bool.{Bool, true, false, true≢false}
use Prim.Native.Nat.{ℕ, suc, ◌<◌}
use native.Mathlib.Omega.{arith}
use mathlib.Core.List.{List}
use lib.ListN.{get_or}
use Rattle.std.specs.Prelude.{◌↔◌, ◌≢◌, IsTrue}
use Rattle.blocks.specs.Blocks.{total}
use Rattle.places.specs.Places.{exactly, place_of, number_at, blocks_in}
use Rattle.places.specs.Once.{Placed, exactly_placed, placed_size, alike, never}
use Rattle.places.specs.Marks.{Marked, mark_exactly, mark_place}
use Rattle.places.specs.Survey.{Entered, Surveyed}

-- no entry below n is clear
abbrev Full : ℕ → List ℕ → Type 0
Full n pos = (k : ℕ) → k < n → get_or pos k 0 ≢ 0

full_of : (f : ℕ → ℕ) (N n : ℕ) (pos : List ℕ) → Marked f n N pos → exactly f N n ≡ true → Full n pos
full_of f N n pos m e k l z =
    let p : Placed f N n = exactly_placed f N n e in
    let g : get_or pos k 0 ≡ suc (place_of f k N) = ap (λ (i : ℕ). get_or pos i 0) (sym (p.stands k l)) ∙ m.marks (place_of f k N) (p.at k l) in
    omega arith

module _ (v s p : ℕ) (file pos : List ℕ) where
  abbrev number : ℕ → ℕ
  number = number_at v s p file

  -- some are missing, doubled or unknown
  refused : (q : Bool) → q ≡ false → exactly number (blocks_in file) (total v s p) ≡ false → Surveyed v s p file pos q
  refused q e d = record { decides = e ∙ sym d; places = λ u. absurd (true≢false (sym u ∙ e)) }

  -- not as many blocks as numbers
  pub other_size : (q : Bool) → q ≡ false → (blocks_in file ≡ total v s p → ⊥) → Surveyed v s p file pos q
  other_size q e ne =
      refused q e (never _ (λ t. ne (placed_size number (blocks_in file) (total v s p) (exactly_placed number (blocks_in file) (total v s p) t))))

  pub refused_survey : (q r : Bool) → q ≡ false → q ≡ r → Entered number (blocks_in file) (total v s p) pos r → Surveyed v s p file pos q
  refused_survey q r e d h = refused q e (h.refused (sym d ∙ e))

  pub full_survey : (q r : Bool) (n : ℕ) → n ≡ total v s p → r ≡ true → Entered number (blocks_in file) (total v s p) pos r → IsTrue q ↔ Full n pos
      → Surveyed v s p file pos q
  full_survey q r n d e h f =
      let m : Marked number (total v s p) (blocks_in file) pos = h.marked e in
      let g : IsTrue q ↔ Full (total v s p) pos = subst (λ (i : ℕ). IsTrue q ↔ Full i pos) d f in
      record {
        decides = alike q _ (λ t. mark_exactly number (blocks_in file) (total v s p) pos m (g.0 t))
            (λ t. g.1 (full_of number (blocks_in file) (total v s p) pos m t));
        places = λ t. mark_place number (blocks_in file) (total v s p) pos m (g.0 t);
      }
