-- The turns and the ends of `mark_all`, with the block's number as the code has it. Assumes nothing.
use mathlib.Core.Path.{◌≡◌, refl, sym, ap, ◌∙◌, subst}
use mathlib.Core.Bool.{false, true≢false}
use Prim.Native.Nat.{ℕ, suc, ◌+◌, ◌*◌, ◌/◌, ◌%◌, ◌≤◌, ◌<◌}
use native.Mathlib.Numerals.{add-one}
use native.Mathlib.Omega.{arith}
use mathlib.Core.List.{List}
use lib.ListN.{length, get_or, set}
use Rattle.file_words.specs.Words.{word_at}
use Rattle.blocks.specs.Blocks.{kind_of, who_of, part_of}
use Rattle.blocks.specs.Laws.{word_block}
use Rattle.places.specs.Once.{unknown}
use Rattle.places.specs.Places.{number_of, index_of, number_at}
use Rattle.places.specs.Marks.{Marked, mark, mark_doubled}
use Rattle.places.specs.Survey.{Entered}

pub index_is : (v s p h : ℕ) → index_of v s p h ≡ number_of v s p (h % 256) (h / 256 % 256) (h / 65536)
unfolding index_of kind_of who_of part_of
index_is v s p h = refl

pub number_is : (v s p : ℕ) (file : List ℕ) (b r w : ℕ) → r ≡ index_of v s p w → w ≡ word_at file (b * 128) → r ≡ number_at v s p file b
number_is v s p file b r w e d =
    let z : b * 128 ≡ b * 128 + 0 = omega arith in
    e ∙ ap (index_of v s p) (d ∙ ap (word_at file) z ∙ sym (word_block file b 0 (omega arith)))

pub entered_unknown : (f : ℕ → ℕ) (N n b k : ℕ) (pos : List ℕ) → k ≡ f b → b < N → n ≤ k → n ≤ length pos → Entered f N n pos false
entered_unknown f N n b k pos e l h z = record {
  marked = λ t. absurd (true≢false (sym t));
  refused = λ t. unknown f N n b l (subst (λ (i : ℕ). n ≤ i) e h);
  size = z;
}

pub entered_doubled : (f : ℕ → ℕ) (N n b k : ℕ) (pos : List ℕ) → Marked f n b pos → k ≡ f b → b < N → k < n → (get_or pos k 0 ≡ 0 → ⊥) → n ≤ length pos
    → Entered f N n pos false
entered_doubled f N n b k pos m e l h q z = record {
  marked = λ t. absurd (true≢false (sym t));
  refused = λ t. mark_doubled f N n b pos m l (subst (λ (i : ℕ). i < n) e h) (subst (λ (i : ℕ). get_or pos i 0 ≡ 0 → ⊥) e q);
  size = z;
}

pub entered_more : (f : ℕ → ℕ) (n b k : ℕ) (pos : List ℕ) → Marked f n b pos → k ≡ f b → k < n → get_or pos k 0 ≡ 0 → n ≤ length pos
    → Marked f n (b + 1) (set pos k (b + 1))
entered_more f n b k pos m e h z l =
    subst (λ (i : ℕ). Marked f n i (set pos k i)) (sym (add-one b))
    (subst (λ (i : ℕ). Marked f n (suc b) (set pos i (suc b))) (sym e)
    (mark f n b pos l m (subst (λ (i : ℕ). i < n) e h) (subst (λ (i : ℕ). get_or pos i 0 ≡ 0) e z)))
