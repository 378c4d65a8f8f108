-- Restoring what was parked (document 02, C-12), the proof: each word and each number is read from the block that it was written to, and an f32 comes
-- back from its word; the numbers that no block carries were +0, and of the table the face that is not heard comes back as 0 (C-17), as does the chord
-- (C-18). Assumes nothing.
use Rattle.std.specs.Prelude.{◌≡◌, Bool, true, false, ℕ, ◌+◌, ◌*◌, ◌/◌, ◌%◌, ◌<◌, length}
use Rattle.std.proofs.Math.Path.{refl, sym, ap}
use Rattle.std.proofs.Common.{◌∙◌, subst}
use Rattle.std.proofs.Math.Bool.{cond}
use native.Mathlib.Omega.{arith}
use mathlib.Core.List.{List, [], ◌∷◌, ◌++◌}
use Rattle.std.proofs.Math.Dec.{leb, eqb}
use Rattle.std.proofs.Math.ListN.{get_or, replicate, length-append, get_or-append}
use Rattle.std.proofs.Math.Seq.{get_or_at, get_or-append-add}
use borrow.Author.Tests.{eq-eqb, eqb-true}
use Rattle.lane.specs.Floats.{◌‼◌, zero}
use Rattle.parts.specs.Parts.{tab}
use Rattle.parts.specs.Laws.{tab_at, tab_same, length_tab}
use Rattle.text.specs.Text.{bits_of}
use Rattle.lines.specs.Lines.{ring_len}
use Rattle.lines.specs.View.{length_of}
use Rattle.voices.specs.Calls.{targets_width, record_width, target_z, record_z, fine, check, ◌then◌, Bank, is_clear, is_flat, store_check_of}
use Rattle.voices.specs.Accepted.{check_fine, and-true}
use Rattle.file_words.specs.Words.{float_of}
use Rattle.file_words.specs.Laws.{float_of_bits}
use Rattle.blocks.specs.Blocks.{parts_of}
use Rattle.places.specs.Places.{is_whole}
use Rattle.rows.specs.Rows.{numbers_in}
use Rattle.rows.proofs.Back.{parts_hold}
use Rattle.files.specs.File.{parked_targets, parked_record}
use Rattle.files.specs.Image.{Image, image_file, Whole}
use Rattle.files.specs.Asks.{image_of}
use Rattle.files.specs.Same.{file_is}
use Rattle.files.specs.Trip.{setup_back, targets_back, records_back, delay_back, setup_once, parked_whole, parked_multiple, parked_sums}
use Rattle.setups.specs.Setup.{SoloSetup, heard_table, heard, codes_check_of, setup_check_of}
use Rattle.setups.proofs.Heard.{chord_ignored}
use Rattle.setups.proofs.Accepted.{SetupAccepted, setup_accepted, without_chord}
use Rattle.setups.specs.Parked.{clean_word, front_words, setup_words, parked_file, setup_word, solo_in, voices_in, cursor_in}
use Rattle.setups.specs.Parked.{bank_in, parked_codes, solo_check, file_verdict, Holds}
use Rattle.setups.specs.Back.{F32Setup, F32Bank, ParkedHolds}

-- ---- the setup's words

module _ (s : SoloSetup) (n cursor : ℕ) where
  abbrev words : List ℕ
  words = setup_words s n cursor

  abbrev numbers : ℕ → ℕ
  numbers i = bits_of (s.table.sections ‼ i)

  length_front : length (front_words s n cursor) ≡ 9
  unfolding front_words
  length_front = refl

  length_before : length (front_words s n cursor ++ tab numbers 160) ≡ 169
  length_before = length-append (front_words s n cursor) (tab numbers 160) ∙ omega (arith, length_front, length_tab numbers 160)

  pub length_words : length words ≡ 170
  unfolding setup_words
  length_words = length-append (front_words s n cursor ++ tab numbers 160) (bits_of s.table.gain ∷ []) ∙ omega (arith, length_before)

  front_word : (i : ℕ) → i < 9 → get_or words i 0 ≡ get_or (front_words s n cursor) i 0
  unfolding setup_words
  front_word i l =
      get_or-append (front_words s n cursor ++ tab numbers 160) (bits_of s.table.gain ∷ []) 0 i (omega (arith, length_before))
      ∙ get_or-append (front_words s n cursor) (tab numbers 160) 0 i (omega (arith, length_front))

  section_word : (i : ℕ) → i < 160 → get_or words (9 + i) 0 ≡ numbers i
  unfolding setup_words
  section_word i l =
      get_or-append (front_words s n cursor ++ tab numbers 160) (bits_of s.table.gain ∷ []) 0 (9 + i) (omega (arith, length_before))
      ∙ ap (λ (k : ℕ). get_or (front_words s n cursor ++ tab numbers 160) (k + i) 0) (sym length_front)
      ∙ get_or-append-add (front_words s n cursor) (tab numbers 160) i 0
      ∙ tab_at numbers 160 i 0 l

  gain_word : get_or words 169 0 ≡ bits_of s.table.gain
  unfolding setup_words
  gain_word = get_or_at (front_words s n cursor ++ tab numbers 160) (bits_of s.table.gain) [] 0 169 length_before

clean_back : (b : Bool) → eqb (clean_word b) 1 ≡ b
clean_back true = refl
clean_back false = refl

clean_fits : (b : Bool) → leb (clean_word b) 1 ≡ true
clean_fits true = refl
clean_fits false = refl

-- a file whose setup words are those of s
module _ (file : List ℕ) (s : SoloSetup) (n cursor : ℕ) (good : F32Setup s)
    (at : (i : ℕ) → i < 252 → setup_word file i ≡ get_or (setup_words s n cursor) i 0) where
  front_at : (i : ℕ) → i < 9 → setup_word file i ≡ get_or (front_words s n cursor) i 0
  front_at i l = at i (omega arith) ∙ front_word s n cursor i l

  near_back : tab (λ i. float_of (setup_word file (9 + i))) 160 ≡ tab (λ i. s.table.sections ‼ i) 160
  near_back =
      tab_same (λ i. float_of (setup_word file (9 + i))) (λ i. s.table.sections ‼ i) 160
      (λ i l.
      ap float_of (at (9 + i) (omega arith) ∙ section_word s n cursor i l)
      ∙ float_of_bits (s.table.sections ‼ i) (good.sections i (omega (arith, good.length_sections))))

  solo_back : s.table.three ≡ false → eqb s.code 13 ≡ false → solo_in file ≡ heard s
  unfolding solo_in front_words heard_table
  solo_back two other = λ t. record {
    code = front_at 0 (omega arith) t;
    rate = (ap float_of (front_at 4 (omega arith)) ∙ float_of_bits s.rate good.rate) t;
    reference = (ap float_of (front_at 5 (omega arith)) ∙ float_of_bits s.reference good.reference) t;
    channels = front_at 2 (omega arith) t;
    clean = (ap (λ (x : ℕ). eqb x 1) (front_at 3 (omega arith)) ∙ clean_back s.clean) t;
    table = record {
      active = front_at 8 (omega arith) t;
      three = sym two t;
      sections =
          ((λ u. near_back u ++ replicate 160 zero)
          ∙ sym (ap (λ (x : Bool). cond x s.table.sections (tab (λ i. s.table.sections ‼ i) 160 ++ replicate 160 zero)) two))
          t;
      gain = (ap float_of (at 169 (omega arith) ∙ gain_word s n cursor) ∙ float_of_bits s.table.gain good.gain) t;
    };
    chord = sym (chord_ignored s.code s.chord other) t;
  }

  voices_back : voices_in file ≡ n
  unfolding voices_in front_words
  voices_back = front_at 1 (omega arith)

  cursor_back : cursor_in file ≡ cursor
  unfolding cursor_in front_words
  cursor_back =
      let a : setup_word file 6 ≡ cursor % 4294967296 = front_at 6 (omega arith) in
      let b : setup_word file 7 ≡ cursor / 4294967296 = front_at 7 (omega arith) in
      omega arith

  clean_word_lem : leb (setup_word file 3) 1 ≡ true
  unfolding front_words
  clean_word_lem = ap (λ (x : ℕ). leb x 1) (front_at 3 (omega arith)) ∙ clean_fits s.clean

-- ---- the whole file

pub record Long (s : SoloSetup) (n : ℕ) (b : Bank) : Type 0 where
  pub targets : length b.targets ≡ n * targets_width
  pub records : length b.records ≡ s.channels * n * record_width
  pub delay : length b.delay ≡ s.channels * n * ring_len s.rate

pub long : (s : SoloSetup) (n : ℕ) (b : Bank) → store_check_of s.channels (ring_len s.rate) n b ≡ fine → Long s n b
long s n b e =
    let ab = and-true _ _ (check_fine _ _ e) in
    let a = and-true _ _ ab.0 in
    record { targets = eqb-true _ _ a.0; records = eqb-true _ _ a.1; delay = eqb-true _ _ ab.1 }

module _ (s : SoloSetup) (n : ℕ) (b : Bank) where
  -- the bank as it is parked
  abbrev pub parked_image : Image
  parked_image = image_of n (s.channels * n) (ring_len s.rate) (parts_of (ring_len s.rate)) (setup_words s n b.cursor) b.targets b.records b.delay

  pub image_whole : setup_check_of s n ≡ fine → store_check_of s.channels (ring_len s.rate) n b ≡ fine → Whole parked_image
  image_whole ok st =
      let a : SetupAccepted s n = setup_accepted s n ok in
      let l : Long s n b = long s n b st in
      record {
        voices = omega (arith, a.voices);
        slots = omega (arith, a.slots);
        some = omega (arith, (length_of (ring_len s.rate) a.good).least);
        hold = parts_hold (ring_len s.rate);
        setup = length_words s n b.cursor;
        targets = l.targets;
        records = l.records;
        delay = l.delay;
      }

  pub parked_is : parked_file s n b ≡ image_file parked_image
  unfolding parked_file
  parked_is = file_is n (s.channels * n) (ring_len s.rate) (setup_words s n b.cursor) b.targets b.records b.delay

  module _ (ok : setup_check_of s n ≡ fine) (st : store_check_of s.channels (ring_len s.rate) n b ≡ fine) (two : s.table.three ≡ false)
      (other : eqb s.code 13 ≡ false) (flat : is_flat s.channels n b ≡ true) (fs : F32Setup s) (fb : F32Bank b) where
    w : Whole parked_image
    w = image_whole ok st

    abbrev F : List ℕ
    F = image_file parked_image

    word_at : (i : ℕ) → i < 252 → setup_word F i ≡ get_or (setup_words s n b.cursor) i 0
    unfolding setup_word
    word_at i l = setup_back parked_image w i l

    solo : solo_in F ≡ heard s
    solo = solo_back F s n b.cursor fs word_at two other

    voices : voices_in F ≡ n
    voices = voices_back F s n b.cursor fs word_at

    clear : (is_clear targets_width target_z n b.targets ≡ true) × (is_clear record_width record_z (s.channels * n) b.records ≡ true)
    clear = and-true _ _ flat

    bank : bank_in F ≡ b
    unfolding bank_in
    bank =
        (λ t. record {
          targets = numbers_in F 2 parked_targets targets_width (voices t * targets_width);
          records = numbers_in F 3 parked_record record_width ((solo t).channels * voices t * record_width);
          delay = numbers_in F 4 (ring_len (solo t).rate) (ring_len (solo t).rate) ((solo t).channels * voices t * ring_len (solo t).rate);
          cursor = cursor_back F s n b.cursor fs word_at t;
        })
        ∙ (λ t. record {
          targets = targets_back parked_image w fb.targets clear.0 t;
          records = records_back parked_image w fb.records clear.1 t;
          delay = delay_back parked_image w fb.delay t;
          cursor = b.cursor;
        })

    setup_is : solo_check F ≡ fine
    unfolding codes_check_of
    setup_is = (λ t. codes_check_of parked_codes (solo t) (voices t)) ∙ sym (without_chord s n other) ∙ ok

    blocks_are : is_whole (voices_in F) ((solo_in F).channels * voices_in F) (parts_of (ring_len (solo_in F).rate)) F ≡ true
    blocks_are = (λ t. is_whole (voices t) ((solo t).channels * voices t) (parts_of (ring_len (solo t).rate)) F) ∙ parked_whole parked_image w

    verdict : file_verdict F ≡ fine
    unfolding file_verdict check ◌then◌
    verdict =
        rw (
          eq-eqb _ _ (parked_multiple parked_image),
          parked_sums parked_image,
          setup_once parked_image w 0 (omega arith),
          setup_once parked_image w 1 (omega arith),
          clean_word_lem F s n b.cursor fs word_at,
          setup_is,
          blocks_are,
        )

    holds : Holds (parked_file s n b) s n b
    holds = subst (λ (f : List ℕ). Holds f s n b) (sym parked_is) (record { setup = solo; voices = voices; bank = bank; accepted = verdict })

pub parked_holds : (s : SoloSetup) (n : ℕ) (b : Bank) → ParkedHolds s n b
parked_holds s n b ok st two other flat fs fb = holds s n b ok st two other flat fs fb
