-- `parking::file_word` meets its contract. Assumes nothing.
use mathlib.Core.Path.{◌≡◌, sym, ◌∙◌}
use Prim.Native.Nat.{ℕ, ◌+◌, ◌*◌, ◌%◌, ◌≤◌, ◌<◌}
use native.Mathlib.Omega.{arith}
use mathlib.Core.List.{List}
use Rattle.parts.specs.Parts.{piece}
use Rattle.file_words.specs.Words.{word_at}
use mathlib.Core.Bool.{true}
use Prim.Native.Nat.{◌/◌}
use lib.ListN.{length}
use borrow.Author.Tests.{eqb-true}
use Rattle.blocks.specs.Blocks.{head_of, content_at}
use Rattle.blocks.specs.Laws.{word_block}
use Rattle.places.specs.Places.{count, place_of, blocks_in, head_in, is_once, block_with}
use Rattle.places.specs.Once.{place_of_lem}
use Rattle.setups.specs.Parked.{setup_word}
use Rattle.parking.proofs.file_word.Goals as goal

-- a head that stands once has a whole block
inside : (file : List ℕ) (head at : ℕ) → is_once file head ≡ true → at ≡ place_of (head_in file) head (blocks_in file) → at * 512 + 512 ≤ length file
unfolding is_once
inside file head at o e =
    let h : place_of (head_in file) head (blocks_in file) < blocks_in file
    = (place_of_lem (head_in file) head (blocks_in file) (omega (arith, eqb-true (count (head_in file) head (blocks_in file)) 1 o))).0 in
    omega arith

word : (file : List ℕ) (part at i r : ℕ) → part ≡ i / 126 → at ≡ place_of (head_in file) (head_of 1 0 part) (blocks_in file)
    → r ≡ word_at file (at * 128 + (1 + i % 126)) → r ≡ setup_word file i
unfolding setup_word content_at block_with
word file part at i r e d u =
    let l : 1 + i % 126 < 128 = omega arith in
    u ∙ sym (word_block file at (1 + i % 126) l)
    ∙ (λ t. word_at (piece 512 (d t) file) (1 + i % 126))
    ∙ (λ t. word_at (piece 512 (place_of (head_in file) (head_of 1 0 (e t)) (blocks_in file)) file) (1 + i % 126))

first : (c : goal.Then-i-lt126) → c.args.a * 512 + 512 ≤ length c.args.file.now
first c = inside _ _ _ c.requires.0.once0 c.requires.0.first

second : (c : goal.Else-i-lt126) → c.args.b * 512 + 512 ≤ length c.args.file.now
second c = inside _ _ _ c.requires.0.once1 c.requires.0.second

pub returns-then-i-lt126 : goal.returns-then-i-lt126
returns-then-i-lt126 c =
    let p = c.requires.0 in
    let e : 0 ≡ c.args.i / 126 = omega arith in
    word _ 0 _ _ _ e p.first c.get_word.ensures

pub returns : goal.returns
returns c =
    let p = c.requires.0 in
    let e : 1 ≡ c.args.i / 126 = omega arith in
    word _ 1 _ _ _ e p.second c.get_word-2.ensures

pub overflow_mul-a : goal.overflow_mul-a
overflow_mul-a c = omega (arith, first c)

pub overflow_add-a : goal.overflow_add-a
overflow_add-a c = omega (arith, first c)

pub get_word-requires : goal.get_word-requires
get_word-requires c = omega (arith, first c)

pub overflow_mul-b : goal.overflow_mul-b
overflow_mul-b c = omega (arith, second c)

pub overflow_add-b : goal.overflow_add-b
overflow_add-b c = omega (arith, second c)

pub get_word-requires-2 : goal.get_word-requires-2
get_word-requires-2 c = omega (arith, second c)
