-- The setup's checks run in the table's order (document 01, 'A bank is opened'; document 02, C-18): with every number wrong the answer is 1, and as each
-- is put right the next number. The reader's checks run in document 02's order (C-12): whatever a check says that is made later, one that refuses
-- answers. By computation. Assumes nothing.
use Rattle.std.specs.Prelude.{◌≡◌, refl, false, ℕ, List, ◌∷◌, replicate, Float}
use Rattle.std.proofs.Common.{ap}
use Rattle.std.specs.Float.{nan}
use Rattle.std.specs.Float.Ieee.{is_nan, neg, lt, round}
use Rattle.lane.specs.Floats.{whole, zero, one, two}
use Rattle.lines.specs.Lines.{rate_refused}
use Rattle.pole_zero.specs.declared.Table.{Table}
use Rattle.extended.specs.declared.Chord.{Chord}
use Rattle.voices.specs.Calls.{Check, fine, refused, check, ◌then◌, Bank, store_check_of}
use Rattle.setups.specs.Setup.{reference_refused, within, codes_check_of, offset_refused, chord_refused, setup_check_of}
use Rattle.setups.specs.Parked.{solo_in, voices_in, ring_in, damaged_check, head_check, parked_codes, solo_check, blocks_check, file_verdict, restore_verdict}

abbrev checked : (code : ℕ) (rate reference : Float) (voices channels : ℕ) → Table → Chord → Check
checked code rate reference voices channels t c =
    setup_check_of (record { code = code; rate = rate; reference = reference; channels = channels; clean = false; table = t; chord = c }) voices

-- two offsets that are read, and one past them
abbrev chord : (count : ℕ) (first second third : Float) → Chord
chord count a b c = record { count = count; offsets = a ∷ b ∷ c ∷ replicate 5 nan }

in_order : (t : Table)
    → (checked 14 nan nan 17 3 t (chord 0 nan nan nan) ≡ refused 1)
    × (checked 14 (whole 8000) nan 17 3 t (chord 0 nan nan nan) ≡ refused 2)
    × (checked 14 (whole 8000) (whole 1) 17 3 t (chord 0 nan nan nan) ≡ refused 3)
    × (checked 14 (whole 8000) (whole 1) 16 3 t (chord 0 nan nan nan) ≡ refused 4)
    × (checked 14 (whole 8000) (whole 1) 16 2 t (chord 0 nan nan nan) ≡ refused 5)
    × (checked 13 (whole 8000) (whole 1) 16 2 t (chord 0 zero zero zero) ≡ refused 16)
    × (checked 13 (whole 8000) (whole 1) 16 2 t (chord 9 zero zero zero) ≡ refused 16)
    × (checked 13 (whole 8000) (whole 1) 16 2 t (chord 2 zero nan zero) ≡ refused 16)
    × (checked 13 (whole 8000) (whole 1) 16 2 t (chord 2 (neg one) two zero) ≡ refused 16)
    × (checked 13 (whole 8000) (whole 1) 16 2 t (chord 2 (neg zero) two nan) ≡ fine)
    × (checked 12 (whole 8000) (whole 1) 16 2 t (chord 9 nan nan nan) ≡ fine)
unfolding setup_check_of codes_check_of reference_refused offset_refused chord_refused rate_refused check ◌then◌ is_nan lt round neg
in_order t = (refl, refl, refl, refl, refl, refl, refl, refl, refl, refl, refl)

-- the checks after one that passed
passed : (a b c d : Check) → a then b ≡ fine → (b ≡ fine → c ≡ d) → a then c ≡ d
unfolding ◌then◌
passed fine b c d e h = h e
passed (refused k) b c d e h = cc

-- C-18: "in a kind 1 block its code meets 5"
thirteen_in_file : (file : List ℕ) → (solo_in file).code ≡ 13 → codes_check_of 13 (solo_in file) (voices_in file) ≡ fine → solo_check file ≡ refused 5
unfolding codes_check_of check
thirteen_in_file file e ok =
    passed _ _ _ _ ok (λ rate. passed _ _ _ _ rate (λ reference. passed _ _ _ _ reference (λ voices. passed _ _ _ _ voices (λ channels.
    ap (λ (code : ℕ). check (within 1 parked_codes code) 5) e))))

module _ (file : List ℕ) (lent : Bank) where
  abbrev lists : Check
  lists = store_check_of (solo_in file).channels (ring_in file) (voices_in file) lent

  reader_in_order :
      (damaged_check file ≡ refused 12 → restore_verdict file lent ≡ refused 12)
      × (damaged_check file ≡ fine → head_check file ≡ refused 13 → restore_verdict file lent ≡ refused 13)
      × ((k : ℕ) → damaged_check file ≡ fine → head_check file ≡ fine → solo_check file ≡ refused k
      → restore_verdict file lent ≡ refused k)
      × (damaged_check file ≡ fine → head_check file ≡ fine → solo_check file ≡ fine → blocks_check file ≡ refused 13
      → restore_verdict file lent ≡ refused 13)
      × (damaged_check file ≡ fine → head_check file ≡ fine → solo_check file ≡ fine → blocks_check file ≡ fine
      → restore_verdict file lent ≡ lists)
  unfolding restore_verdict file_verdict ◌then◌
  reader_in_order = (
    λ a t. (a t then head_check file then solo_check file then blocks_check file) then lists,
    λ a b t. (a t then b t then solo_check file then blocks_check file) then lists,
    λ k a b c t. (a t then b t then c t then blocks_check file) then lists,
    λ a b c d t. (a t then b t then c t then d t) then lists,
    λ a b c d t. (a t then b t then c t then d t) then lists,
  )
