-- The turns of `sole` and `sound_file`. Assumes nothing.
use mathlib.Core.Path.{◌≡◌, refl, sym, ap, ◌∙◌}
use mathlib.Core.Bool.{Bool, false, true≢false}
use Rattle.std.specs.Prelude.{Some, None}
use Prim.Native.Nat.{ℕ, suc, ◌+◌, ◌-◌, ◌*◌, ◌<◌}
use native.Mathlib.Numerals.{add-one}
use native.Mathlib.Omega.{arith}
use mathlib.Core.List.{List}
use lib.ListN.{take, drop}
use borrow.Author.Tests.{eq-eqb, ne_eqb}
use Rattle.parts.specs.Parts.{piece}
use Rattle.file_words.specs.Words.{word_at}
use Rattle.blocks.specs.Laws.{word_block}
use Rattle.blocks.specs.Blocks.{sound_block}
use Rattle.places.specs.Places.{count, place_of}
use Rattle.places.specs.Once.{every_at, never}
use Rattle.places.specs.Places.{head_in, sound_file}
use Rattle.places.specs.Sole.{sole_of}
use Rattle.places.specs.Places.{blocks_in}

pub head_is : (file : List ℕ) (b w : ℕ) → w ≡ word_at file (b * 128) → w ≡ head_in file b
head_is file b w e = let z : b * 128 ≡ b * 128 + 0 = omega arith in e ∙ ap (word_at file) z ∙ sym (word_block file b 0 (omega arith))

-- no head yet
pub none_yet : (f : ℕ → ℕ) (k : ℕ) → (0 ≡ count f k 0) × (0 ≡ place_of f k 0)
unfolding count place_of
none_yet f k = (refl, refl)

-- a head more: the one that is looked for, or another
pub hit : (f : ℕ → ℕ) (k b : ℕ) → f b ≡ k → (count f k (b + 1) ≡ count f k b + 1) × (place_of f k (b + 1) ≡ b)
unfolding count place_of
hit f k b e =
    let n : b + 1 ≡ suc b = add-one b in
    (ap (count f k) n ∙ rw (eq-eqb _ _ e) (sym (add-one _)), ap (place_of f k) n ∙ rw (eq-eqb _ _ e))

pub miss : (f : ℕ → ℕ) (k b : ℕ) → (f b ≡ k → ⊥) → (count f k (b + 1) ≡ count f k b) × (place_of f k (b + 1) ≡ place_of f k b)
unfolding count place_of
miss f k b e =
    let n : b + 1 ≡ suc b = add-one b in
    (ap (count f k) n ∙ rw (ne_eqb _ _ e), ap (place_of f k) n ∙ rw (ne_eqb _ _ e))

pub one_found : (file : List ℕ) (k b seen at : ℕ) → b ≡ blocks_in file → seen ≡ 1 → seen ≡ count (head_in file) k b → at ≡ place_of (head_in file) k b → Some at ≡ sole_of file k
unfolding sole_of
one_found file k b seen at e o c d =
    let n : count (head_in file) k (blocks_in file) ≡ 1 = ap (count (head_in file) k) (sym e) ∙ sym c ∙ o in
    rw (eq-eqb _ _ n, d, e)

pub not_found : (file : List ℕ) (k b seen : ℕ) → b ≡ blocks_in file → (seen ≡ 1 → ⊥) → seen ≡ count (head_in file) k b → None ≡ sole_of file k
unfolding sole_of
not_found file k b seen e o c = rw (ne_eqb _ _ (λ z. o (c ∙ ap (count (head_in file) k) e ∙ z)))

-- a part lent from b * 512 to b * 512 + 512
pub part_is : (file : List ℕ) (b : ℕ) (r : Bool) → r ≡ sound_block (take (b * 512 + 512 - b * 512) (drop (b * 512) file)) → r ≡ sound_block (piece 512 b file)
unfolding piece
part_is file b r e = let k : b * 512 + 512 - b * 512 ≡ 512 = omega arith in e ∙ ap (λ (j : ℕ). sound_block (take j (drop (b * 512) file))) k

pub unsound : (file : List ℕ) (b : ℕ) → b < blocks_in file → sound_block (piece 512 b file) ≡ false → false ≡ sound_file file
unfolding sound_file
unsound file b l e = sym (never _ (λ u. true≢false (sym (every_at (λ k. sound_block (piece 512 k file)) (blocks_in file) b u l) ∙ e)))
