-- `rows::cell_at` meets its contract: the block of number i is one of the list's, and its entry names a block of the file. Assumes nothing.
use mathlib.Core.Path.{◌≡◌, sym, ap, ◌∙◌}
use Prim.Native.Nat.{ℕ, ◌+◌, ◌-◌, ◌*◌, ◌/◌, ◌%◌, ◌≤◌, ◌<◌}
use native.Mathlib.Omega.{arith}
use mathlib.Core.Bool.{Bool}
use mathlib.Core.List.{List}
use lib.ListN.{get_or}
use lib.Ieee.{Float}
use borrow.Author.Tests.{lt-ltb, le-ltb}
use Rattle.parts.specs.Parts.{piece}
use Rattle.file_words.specs.Words.{word_at, float_of}
use Rattle.blocks.specs.Blocks.{content_at}
use Rattle.blocks.specs.Laws.{word_block}
use Rattle.places.specs.Places.{pick}
use Rattle.rows.specs.Asks.{cell_at}
use Rattle.rows.proofs.Back.{block_below}
use Rattle.rows.proofs.cell_at.Goals as goal

-- a number that is carried, and one that is not
carried : (file pos : List ℕ) (first C L p i q x : ℕ) (r : Float) → i % L < C → r ≡ float_of x → x ≡ word_at file ((q - 1) * 128 + (1 + i % L % 126))
    → q ≡ get_or pos (first + (i / L * p + i % L / 126)) 0
    → r ≡ cell_at (λ j. piece 512 (get_or pos (first + j) 0 - 1) file) C L p i
unfolding cell_at content_at
carried file pos first C L p i q x r h e d g =
    e
    ∙ ap float_of (d ∙ sym (word_block file (q - 1) (1 + i % L % 126) (omega arith)))
    ∙ ap (λ (k : ℕ). float_of (content_at (piece 512 (k - 1) file) (i % L % 126))) g
    ∙ sym
    (ap (λ (b : Bool). float_of (pick b (content_at (piece 512 (get_or pos (first + (i / L * p + i % L / 126)) 0 - 1) file) (i % L % 126)) 0))
    (lt-ltb (i % L) C h))

left : (found : ℕ → List ℕ) (C L p i : ℕ) → C ≤ i % L → float_of 0 ≡ cell_at found C L p i
unfolding cell_at
left found C L p i h =
    sym (ap (λ (b : Bool). float_of (pick b (content_at (found (i / L * p + i % L / 126)) (i % L % 126)) 0)) (le-ltb (i % L) C h))

pub returns-then-cell-layout : goal.returns-then-cell-layout
returns-then-cell-layout c = left _ _ _ _ _ c.if-cell-layout.true

pub bounds-pos-k : goal.bounds-pos-k
bounds-pos-k c =
    let y = c.args.layout in
    let l = c.requires.lent in
    omega (arith, block_below y.len y.parts l.some l.hold c.args.i y.rows c.requires.i_bound)

pub get_word-requires : goal.get_word-requires
get_word-requires c =
    let y = c.args.layout in
    let l = c.requires.lent in
    let b = block_below y.len y.parts l.some l.hold c.args.i y.rows c.requires.i_bound in
    omega (arith, l.named _ b, l.inside _ b)

pub returns : goal.returns
returns c = carried _ _ _ _ _ _ _ _ _ _ c.if-cell-layout.false c.float_of.ensures c.get_word.ensures c.from-b.ensures
