-- `parking::setup_words` meets its contract. Assumes nothing.
use mathlib.Core.Path.{◌≡◌, ap, ◌∙◌}
use Prim.Native.Nat.{ℕ, ◌/◌, ◌%◌}
use mathlib.Core.Bool.{Bool, true, false}
use mir.Val.{bool_byte}
use mathlib.Core.List.{List, ◌∷◌, []}
use Rattle.text.specs.Text.{bits_of}
use Prim.Native.Nat.{◌+◌, ◌-◌, ◌<◌}
use native.Mathlib.Omega.{arith}
use mathlib.Core.List.{◌++◌}
use lib.ListN.{length, get_or}
use lib.Ieee.{Float}
use borrow.Author.Tests.{lt-ltb, le-ltb}
use Rattle.lane.specs.Floats.{◌‼◌}
use Rattle.parts.specs.Parts.{tab}
use Rattle.parts.specs.Flat.{tab_add}
use Rattle.parts.specs.Laws.{tab_same}
use Rattle.places.specs.Places.{pick}
use Rattle.checks.specs.declared.Setup.{Setup}
use Rattle.checks.specs.Setup.{solo_of}
use Rattle.setups.specs.Parked.{clean_word, front_words, setup_words}
use Rattle.parking.specs.Asks.{word_from, words_from}
use borrow.Author.Rules.{rules}
use Rattle.parking.proofs.setup_words.Goals as goal
use Rattle.parking.proofs.setup_words.Lts as lts
use Rattle.parking.proofs.setup_words.Reads as reads
use Rattle.parking.proofs.setup_words.Tie as tie

abbrev Start : Type 0
Start = lts.Start tie.the-claims reads.Pre reads.Post

-- a table's list of numbers
sized : (c : Start) → length c.args.setup.table.sections ≡ 320
sized c = search rules

-- word by word, the nine in front, the table's numbers, its gain
words_are : (a b c d e f g h i : ℕ) (sections : List Float) (gain : ℕ)
    → let front = a ∷ b ∷ c ∷ d ∷ e ∷ f ∷ g ∷ h ∷ i ∷ [] in words_from front sections gain ≡ front ++ tab (λ k. bits_of (sections ‼ k)) 160 ++ gain ∷ []
unfolding words_from word_from
words_are a b c d e f g h i sections gain =
    let front : List ℕ = a ∷ b ∷ c ∷ d ∷ e ∷ f ∷ g ∷ h ∷ i ∷ [] in
    tab_add (word_from front sections gain) 169 1
    ∙ ap (λ (x : List ℕ). x ++ gain ∷ []) (tab_add (word_from front sections gain) 9 160 ∙ ap (λ (x : List ℕ). front ++ x) (tab_same (λ k. word_from front sections gain (9 + k)) (λ k. bits_of (sections ‼ k)) 160 (middle front)))
  where
    middle : (front : List ℕ) (k : ℕ) → k < 160 → word_from front sections gain (9 + k) ≡ bits_of (sections ‼ k)
    middle front k l = unfold word_from in
        let e : 9 + k - 9 ≡ k = omega arith in
        λ t. pick (le-ltb (9 + k) 9 (omega arith) t) (get_or front (9 + k) 0) (pick (lt-ltb (9 + k) 169 (omega arith) t) (bits_of (sections ‼ e t)) gain)

made : (s : Setup) (cur : ℕ) (words : List ℕ) (o r f g : ℕ) → o ≡ clean_word s.clean → r ≡ bits_of s.rate → f ≡ bits_of s.reference → g ≡ bits_of s.table.gain
    → words ≡ words_from (s.code ∷ s.voices ∷ s.channels ∷ o ∷ r ∷ f ∷ cur % 4294967296 ∷ cur / 4294967296 ∷ s.table.active ∷ []) s.table.sections g
    → words ≡ setup_words (solo_of s) s.voices cur
unfolding setup_words front_words
made s cur words o r f g a b d e u =
    u
    ∙ (λ t. words_from (s.code ∷ s.voices ∷ s.channels ∷ a t ∷ b t ∷ d t ∷ cur % 4294967296 ∷ cur / 4294967296 ∷ s.table.active ∷ []) s.table.sections (e t))
    ∙ words_are s.code s.voices s.channels (clean_word s.clean) (bits_of s.rate) (bits_of s.reference) (cur % 4294967296) (cur / 4294967296) s.table.active
    s.table.sections (bits_of s.table.gain)

-- a flag as a word
clean_is : (b : Bool) (w : ℕ) → w ≡ bool_byte b → w ≡ clean_word b
clean_is true w e = e
clean_is false w e = e

pub returns : goal.returns
returns c = (
  made c.args.setup c.args.cursor _ _ _ _ _ (clean_is _ _ c.from.ensures) c.word_of.ensures.0 c.word_of-2.ensures.0 c.word_of-3.ensures.0 c.words_from.ensures.0,
  record {
    rate = c.word_of.ensures.1;
    reference = c.word_of-2.ensures.1;
    gain = c.word_of-3.ensures.1;
    sections = c.words_from.ensures.1;
    length_sections = c.words_from.ensures.2;
  },
)
