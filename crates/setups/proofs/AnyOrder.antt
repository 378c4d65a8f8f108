-- The reader takes any order (document 02, C-12), the proof: a head that stands once still does, with the same block, and heads, sums and numbers
-- are asked of all blocks alike. Assumes nothing.
use Rattle.std.specs.Prelude.{◌≡◌, refl, Bool, false, ◌&&◌, leb}
use Rattle.std.proofs.Common.{sym, ◌∙◌, subst, arith}
use Rattle.std.proofs.Math.Path.{ap}
use Rattle.std.proofs.Math.Bool.{true}
use Prim.Native.Nat.{ℕ, ◌+◌, ◌*◌, ◌/◌, ◌%◌, ◌≤◌, ◌<◌}
use Rattle.std.proofs.Math.Decide.{dec_le}
use mathlib.Core.List.{List, ◌++◌}
use Rattle.std.proofs.Math.Dec.{eqb}
use Rattle.std.proofs.Math.ListN.{replicate}
use Rattle.lane.specs.Floats.{zero}
use Rattle.parts.specs.Laws.{tab_same}
use Rattle.lines.specs.Lines.{ring_len}
use Rattle.lines.specs.View.{length_of}
use Rattle.voices.specs.Calls.{targets_width, record_width, Check, fine, refused, check, ◌then◌, store_check_of}
use Rattle.voices.specs.Accepted.{check_fine, then_fine, and-true}
use Rattle.file_words.specs.Words.{float_of}
use Rattle.blocks.specs.Blocks.{head_of, content_at, parts_of, total}
use Rattle.places.specs.Places.{blocks_in, is_once, block_with, number_at, is_whole}
use Rattle.places.specs.Once.{Placed, exactly_placed}
use Rattle.places.specs.Heads.{head_at}
use Rattle.places.specs.ByHead.{Shuffled, target_heads, record_heads, ring_head_lem, head_once, once_shuffled, with_shuffled, sound_shuffled, whole_shuffled}
use Rattle.rows.specs.Rows.{numbers_in}
use Rattle.rows.proofs.Back.{rows_same, numbers_are, parts_hold}
use Rattle.files.specs.File.{parked_targets, parked_record}
use Rattle.setups.specs.Setup.{codes_check_of}
use Rattle.setups.proofs.Accepted.{SetupAccepted, codes_accepted}
use Rattle.setups.specs.Parked.{parked_codes, no_chord, setup_word, solo_in, voices_in, cursor_in, slots_in, ring_in, bank_in}
use Rattle.setups.specs.Parked.{damaged_check, head_check, solo_check, blocks_check, file_verdict, restore_verdict}
use Rattle.setups.specs.AnyOrder.{SameFile, AnyOrder}

-- ---- checks that agree as far as they are made

then_same : (c d : Check) (e f : Check) → d ≡ c → (c ≡ fine → f ≡ e) → d then f ≡ c then e
unfolding ◌then◌
then_same fine d e f p q = ap (λ (x : Check). x then f) p ∙ q refl
then_same (refused k) d e f p q = ap (λ (x : Check). x then f) p

and_same : (c d e f : Bool) → d ≡ c → (c ≡ true → f ≡ e) → d && f ≡ c && e
and_same true d e f p q = ap (λ (x : Bool). x && f) p ∙ q refl
and_same false d e f p q = ap (λ (x : Bool). x && f) p

module _ (a b : List ℕ) (sh : Shuffled a b) where
  -- ---- the setup's words, where its two heads stand once
  module _ (h0 : is_once a (head_of 1 0 0) ≡ true) (h1 : is_once a (head_of 1 0 1) ≡ true) where
    once : (k : ℕ) → k < 2 → is_once a (head_of 1 0 k) ≡ true
    once k l = elim (dec_le 1 k) [
      | yes d ↦ let e : 1 ≡ k = omega arith in subst (λ (j : ℕ). is_once a (head_of 1 0 j) ≡ true) e h1
      | no d ↦ let e : 0 ≡ k = omega arith in subst (λ (j : ℕ). is_once a (head_of 1 0 j) ≡ true) e h0
    ]

    word_same : (i : ℕ) → i < 252 → setup_word b i ≡ setup_word a i
    unfolding setup_word
    word_same i l = ap (λ (x : List ℕ). content_at x (i % 126)) (with_shuffled a b sh (head_of 1 0 (i / 126)) (once (i / 126) (omega arith)))

    solo_same : solo_in b ≡ solo_in a
    unfolding solo_in
    solo_same = λ t. record {
      code = word_same 0 (omega arith) t;
      rate = float_of (word_same 4 (omega arith) t);
      reference = float_of (word_same 5 (omega arith) t);
      channels = word_same 2 (omega arith) t;
      clean = eqb (word_same 3 (omega arith) t) 1;
      table = record {
        active = word_same 8 (omega arith) t;
        three = false;
        sections = tab_same (λ i. float_of (setup_word b (9 + i))) (λ i. float_of (setup_word a (9 + i))) 160
            (λ i l. ap float_of (word_same (9 + i) (omega arith))) t
            ++ replicate 160 zero;
        gain = float_of (word_same 169 (omega arith) t);
      };
      chord = no_chord;
    }

    voices_same : voices_in b ≡ voices_in a
    unfolding voices_in
    voices_same = word_same 1 (omega arith)

    cursor_same : cursor_in b ≡ cursor_in a
    unfolding cursor_in
    cursor_same = λ t. word_same 6 (omega arith) t + word_same 7 (omega arith) t * 4294967296

  -- ---- the numbers, where every block that is called for stands once
  module _ (v s p : ℕ) (few-voices : v ≤ 256) (few-slots : s ≤ 256) (whole : is_whole v s p a ≡ true) where
    placed : Placed (number_at v s p a) (blocks_in a) (total v s p)
    placed = exactly_placed (number_at v s p a) (blocks_in a) (total v s p) whole

    numbers_same : (first kind rows C M q : ℕ) → 0 < M → M ≤ q * 126 → first + rows * q ≤ total v s p
        → ((j : ℕ) → j < rows * q → head_at v s p (first + j) ≡ head_of kind (j / q) (j % q))
        → numbers_in b kind C M (rows * M) ≡ numbers_in a kind C M (rows * M)
    numbers_same first kind rows C M q some hold fit head =
        numbers_are b kind C M q some hold rows
        ∙ rows_same C M q some hold (λ j. block_with b (head_of kind (j / q) (j % q))) (λ j. block_with a (head_of kind (j / q) (j % q))) rows
        (λ j l. with_shuffled a b sh (head_of kind (j / q) (j % q))
        (ap (is_once a) (sym (head j l)) ∙ head_once v s p a few-voices few-slots placed (first + j) (omega arith)))
        ∙ sym (numbers_are a kind C M q some hold rows)

  -- ---- the verdict, step by step

  damaged_same : damaged_check b ≡ damaged_check a
  damaged_same = λ t. check (eqb (sym sh.0 t % 512) 0 && sound_shuffled a b sh t) 12

  -- the setup's two heads, where the second check passed
  heads_once : head_check a ≡ fine → (is_once a (head_of 1 0 0) ≡ true) × (is_once a (head_of 1 0 1) ≡ true)
  heads_once e = and-true _ _ (and-true _ _ (check_fine _ _ e)).0

  head_same : head_check b ≡ head_check a
  head_same =
      ap (λ (x : Bool). check x 13)
      (and_same (is_once a (head_of 1 0 0) && is_once a (head_of 1 0 1)) (is_once b (head_of 1 0 0) && is_once b (head_of 1 0 1)) (leb (setup_word a 3) 1)
      (leb (setup_word b 3) 1)
      (λ t. once_shuffled a b sh (head_of 1 0 0) t && once_shuffled a b sh (head_of 1 0 1) t)
      (λ e. let o = and-true _ _ e in ap (λ (x : ℕ). leb x 1) (word_same o.0 o.1 3 (omega arith))))

  rest_same : head_check a ≡ fine
      → solo_check b then blocks_check b ≡ solo_check a then blocks_check a
  rest_same e =
      let o = heads_once e in
      let so = solo_same o.0 o.1 in
      let vo = voices_same o.0 o.1 in
      (λ t. codes_check_of parked_codes (so t) (vo t) then check (is_whole (vo t) ((so t).channels * vo t) (parts_of (ring_len (so t).rate)) b) 13)
      ∙ ap (λ (x : Bool). solo_check a then check x 13) (whole_shuffled a b sh (voices_in a) (slots_in a) (parts_of (ring_in a)))

  file_same : file_verdict b ≡ file_verdict a
  unfolding file_verdict
  file_same =
      then_same (damaged_check a) (damaged_check b) (head_check a then solo_check a then blocks_check a)
      (head_check b then solo_check b then blocks_check b) damaged_same
      (λ d. then_same (head_check a) (head_check b) (solo_check a then blocks_check a)
      (solo_check b then blocks_check b) head_same rest_same)

  -- ---- what an accepted file holds

  pub same_file : file_verdict a ≡ fine → SameFile a b
  unfolding file_verdict bank_in
  same_file e =
      let c1 = then_fine (damaged_check a) (head_check a then solo_check a then blocks_check a) e in
      let c2 = then_fine (head_check a) (solo_check a then blocks_check a) c1.1 in
      let c3 = then_fine (solo_check a) (blocks_check a) c2.1 in
      let o = heads_once c2.0 in
      let so : solo_in b ≡ solo_in a = solo_same o.0 o.1 in
      let vo : voices_in b ≡ voices_in a = voices_same o.0 o.1 in
      let k : SetupAccepted (solo_in a) (voices_in a) = codes_accepted parked_codes (solo_in a) (voices_in a) c3.0 in
      let v : ℕ = voices_in a in
      let s : ℕ = slots_in a in
      let L : ℕ = ring_in a in
      let p : ℕ = parts_of L in
      let whole : is_whole v s p a ≡ true = check_fine _ _ c3.1 in
      let hv : v ≤ 256 = omega (arith, k.voices) in
      let hs : s ≤ 256 = omega (arith, k.slots) in
      let some : 0 < L = omega (arith, (length_of L k.good).least) in
      record {
        setup = so;
        voices = vo;
        bank =
            (λ t. record {
              targets = numbers_in b 2 parked_targets targets_width (vo t * targets_width);
              records = numbers_in b 3 parked_record record_width ((so t).channels * vo t * record_width);
              delay = numbers_in b 4 (ring_len (so t).rate) (ring_len (so t).rate) ((so t).channels * vo t * ring_len (so t).rate);
              cursor = cursor_same o.0 o.1 t;
            })
            ∙ (λ t. record {
              targets = numbers_same v s p hv hs whole 2 2 v parked_targets targets_width 1 (omega arith) (omega arith) (omega arith) (target_heads v s p) t;
              records = numbers_same v s p hv hs whole (2 + v) 3 s parked_record record_width 1 (omega arith) (omega arith) (omega arith) (record_heads v s p) t;
              delay = numbers_same v s p hv hs whole (2 + v + s) 4 s L L p some (parts_hold L) (omega arith) (λ j l. ring_head_lem v s p j) t;
              cursor = cursor_in a;
            });
      }

pub any_order : (a b : List ℕ) → AnyOrder a b
unfolding restore_verdict
any_order a b sh lent = (
  then_same (file_verdict a) (file_verdict b) (store_check_of (solo_in a).channels (ring_in a) (voices_in a) lent)
      (store_check_of (solo_in b).channels (ring_in b) (voices_in b) lent)
      (file_same a b sh)
      (λ e. let f = same_file a b sh e in λ t. store_check_of (f.setup t).channels (ring_len (f.setup t).rate) (f.voices t) lent),
  λ e. same_file a b sh (then_fine (file_verdict a) (store_check_of (solo_in a).channels (ring_in a) (voices_in a) lent) e).0,
)
