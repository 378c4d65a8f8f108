-- Good and bad views (document 01, point 4 of block): a view whose length is no power of two from 1,024 to 65,536, or whose slot ends
-- past the list, reads 0 and writes nothing (proofs/View.antt); a block makes none such. Laws of the definitions of lines/specs/Lines.antt, by the
-- test for a view; before them what a read promises. Assumes nothing.
use Rattle.std.specs.Prelude.{◌≡◌, refl, ◌≢◌, ◌⊎◌, Bool, true, false, ◌&&◌, List, ℕ, ◌+◌, ◌*◌, ◌^◌, ◌≤◌, ◌<◌, Float, length}
use Rattle.std.proofs.Common.{sym, subst, inl, inr, arith}
use types.Run.{OneOf}
use Rattle.std.proofs.lemmas.Bool.{lt-leb}
use Rattle.parts.specs.Laws.{flat_lt, piece_fits}
use Rattle.lines.specs.Lines.{rate_refused, ring_len, lengths, is_length, is_view, read_of}
use Rattle.lines.specs.View.{is_bad}
use Rattle.lines.proofs.Laws.{ring_len_good, view_good}

-- ---- what a read promises

-- it gives the number that `read_of` names, and leaves the list as it was
abbrev pub ReadLeaves : (xs : List Float) (len cursor slot : ℕ) (delay r : Float) (after : List Float) → Type 0
ReadLeaves xs len cursor slot delay r after = (r ≡ read_of xs len cursor slot delay) × (after ≡ xs)

-- ---- a bad view

-- the length is no power of two from 1,024 to 65,536, or the slot ends past a list of `have` cells
abbrev pub Bad : ℕ → ℕ → ℕ → Type 0
Bad len slot have = ((k : ℕ) → 10 ≤ k → k ≤ 16 → len ≢ 2 ^ k) ⊎ (have < slot * len + len)

pub view_bad : (len slot have : ℕ) → Bad len slot have → is_view len slot have ≡ false
unfolding is_view
view_bad len slot have (inl h) = sym (is_bad len slot have none)
  where
    none : OneOf lengths len → ⊥
    none (inl e) = h 10 (omega arith) (omega arith) e
    none (inr (inl e)) = h 11 (omega arith) (omega arith) e
    none (inr (inr (inl e))) = h 12 (omega arith) (omega arith) e
    none (inr (inr (inr (inl e)))) = h 13 (omega arith) (omega arith) e
    none (inr (inr (inr (inr (inl e))))) = h 14 (omega arith) (omega arith) e
    none (inr (inr (inr (inr (inr (inl e)))))) = h 15 (omega arith) (omega arith) e
    none (inr (inr (inr (inr (inr (inr e)))))) = h 16 (omega arith) (omega arith) e
view_bad len slot have (inr h) = rw (lt-leb (slot * len + len) have h) (no (is_length len))
  where
    no : (x : Bool) → x && false ≡ false
    no true = refl
    no false = refl

-- ---- a block's view

-- of m channels and n voices at an accepted rate, in a delay list as long as refusal 6 asks, the view of voice v on channel c is good
pub block_view : (rate : Float) (m n c v : ℕ) (delay : List Float)
    → rate_refused rate ≡ false → c < m → v < n → length delay ≡ m * n * ring_len rate
    → is_view (ring_len rate) (c * n + v) (length delay) ≡ true
block_view rate m n c v delay h hc hv l =
    view_good (ring_len rate) (c * n + v) (length delay) (ring_len_good rate h)
    (subst (λ (k : ℕ). (c * n + v) * ring_len rate + ring_len rate ≤ k) (sym l) (piece_fits (ring_len rate) (c * n + v) (m * n) (flat_lt m n c v hc hv)))
