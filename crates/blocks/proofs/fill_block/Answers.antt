-- `blocks::fill_block` meets its contract. Assumes nothing.
use mathlib.Core.Path.{◌≡◌, sym, ap, ◌∙◌}
use Prim.Native.Nat.{ℕ, ◌+◌, ◌%◌, ◌<◌}
use native.Mathlib.Omega.{arith}
use native.Mathlib.Numerals.{add-one}
use mathlib.Core.List.{List}
use lib.ListN.{length}
use Rattle.parts.specs.Parts.{patch}
use Rattle.file_words.specs.Words.{word_bytes, word_at}
use Rattle.blocks.specs.Blocks.{sum_to, body_word, closing, block_bytes}
use Rattle.blocks.specs.Laws.{started, started_none, started_next, started_whole, started_sum, body_word_lem, last_word}
use Rattle.blocks.proofs.fill_block.Goals as goal

pub loop-j-init : goal.loop-j-init
loop-j-init c = started_none _ _ _

next : (head : ℕ) (xs part₀ part p : List ℕ) (j w : ℕ) → length part₀ ≡ 512 → j < 127 → part ≡ started head xs j part₀ → w ≡ body_word head xs j
    → p ≡ patch 4 j (word_bytes w) part → p ≡ started head xs (j + 1) part₀
next head xs part₀ part p j w l h e v d =
    rw (add-one, d, e) (started_next head xs part₀ j w l (omega arith) (v ∙ sym (body_word_lem head xs j h)))

pub loop-j-preserved : goal.loop-j-preserved
loop-j-preserved c = next _ _ _ _ _ _ _ c.requires c.loop-j-test.true c.loop-j.invariant c.body_word.ensures c.put_word.ensures

closes : (s w : ℕ) → w < 4294967296 → (w + s % 4294967296) % 4294967296 ≡ 0 → w ≡ closing s
unfolding closing
closes s w h e = omega arith

last : (head : ℕ) (xs part₀ part p : List ℕ) (j s w : ℕ) → length part₀ ≡ 512 → j ≡ 127 → part ≡ started head xs j part₀
    → s ≡ sum_to (word_at part) 127 % 4294967296 → w < 4294967296 → (w + s) % 4294967296 ≡ 0 → p ≡ patch 4 127 (word_bytes w) part → p ≡ block_bytes head xs
last head xs part₀ part p j s w l h e u b v d =
    let whole : part ≡ started head xs 127 part₀ = e ∙ ap (λ (k : ℕ). started head xs k part₀) h in
    let sum : sum_to (word_at part) 127 ≡ sum_to (body_word head xs) 127 = ap (λ (q : List ℕ). sum_to (word_at q) 127) whole ∙ started_sum head xs part₀ in
    let left : sum_to (body_word head xs) 127 % 4294967296 ≡ s = sym (u ∙ ap (λ (k : ℕ). k % 4294967296) sum) in
    let word : w ≡ closing (sum_to (body_word head xs) 127) = closes _ w b (ap (λ (k : ℕ). (w + k) % 4294967296) left ∙ v) in
    d ∙ ap (patch 4 127 (word_bytes w)) whole
    ∙ started_next head xs part₀ 127 w l (omega arith) (word ∙ sym (last_word head xs))
    ∙ started_whole head xs part₀ l

pub returns : goal.returns
returns c =
    let e : c.loop-j.j ≡ 127 = omega arith in
    last _ _ _ _ _ _ _ _ c.requires e c.loop-j.invariant c.sum_of.ensures c.wrapping_neg.type_inv c.wrapping_neg.ensures c.put_word-2.ensures
