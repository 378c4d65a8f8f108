-- `rows::put_rows` meets its contract. Assumes nothing.
use mathlib.Core.Path.{◌≡◌, refl, sym, ap, ◌∙◌}
use Prim.Native.Nat.{ℕ, ◌+◌, ◌/◌, ◌%◌}
use native.Mathlib.Numerals.{add-one}
use mathlib.Core.List.{List}
use lib.Ieee.{Float}
use Rattle.parts.specs.Parts.{patch}
use Rattle.blocks.specs.Blocks.{head_of, block_bytes}
use Rattle.rows.specs.Rows.{row_words}
use Rattle.rows.specs.Asks.{rows_written}
use Rattle.rows.proofs.put_rows.Goals as goal

pub loop-j-init : goal.loop-j-init
unfolding rows_written
loop-j-init c = refl

next : (first kind C L p : ℕ) (xs : List Float) (out₀ out o words : List ℕ) (j h : ℕ) → out ≡ rows_written first kind C L p xs j out₀
    → words ≡ row_words C L xs (j / p) (j % p)
    → h ≡ head_of kind (j / p) (j % p) → o ≡ patch 512 (first + j) (block_bytes h words) out → o ≡ rows_written first kind C L p xs (j + 1) out₀
unfolding rows_written
next first kind C L p xs out₀ out o words j h e d u v =
    v ∙ (λ t. patch 512 (first + j) (block_bytes (u t) (d t)) (e t)) ∙ ap (λ (k : ℕ). rows_written first kind C L p xs k out₀) (sym (add-one j))

pub loop-j-preserved : goal.loop-j-preserved
loop-j-preserved c = next _ _ _ _ _ _ _ _ _ _ _ _ c.loop-j.invariant c.part_words.ensures c.head_of.ensures c.put_block.ensures
