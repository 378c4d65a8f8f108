-- Restoring what was parked (document 02, C-12: "Restoring what was parked gives the same bank bit by bit"): the statement. Of the table the face
-- that is not heard comes back as 0 (C-17), as does the chord (C-18). Proved in proofs/Back.antt (`parked_holds`). Assumes nothing.
use Rattle.std.specs.Prelude.{◌≡◌, true, false, ℕ, T, length}
use Rattle.std.proofs.Math.Dec.{eqb}
use Rattle.std.specs.Float.{binary32}
use Rattle.std.specs.Float.Ieee.{fits}
use Rattle.lines.specs.Lines.{ring_len}
use Rattle.voices.specs.Calls.{fine, Bank, is_flat, store_check_of}
use Rattle.rows.specs.Asks.{F32s}
use Rattle.setups.specs.Setup.{SoloSetup, setup_check_of}
use Rattle.setups.specs.Parked.{parked_file}
use Rattle.setups.specs.Parked.{Holds}

-- numbers that are f32s, as every slice's and struct's in the code are; a table has 320
pub record F32Setup (s : SoloSetup) : Type 0 where
  pub rate : T (fits binary32 s.rate)
  pub reference : T (fits binary32 s.reference)
  pub gain : T (fits binary32 s.table.gain)
  pub sections : F32s s.table.sections
  pub length_sections : length s.table.sections ≡ 320

pub record F32Bank (b : Bank) : Type 0 where
  pub targets : F32s b.targets
  pub records : F32s b.records
  pub delay : F32s b.delay

-- What parking writes of an accepted setup of two axes (C-17) whose code is not 13 (C-18), and of lists as long as it asks whose z numbers have no bit
-- set, holds that setup as it is heard and that bank.
abbrev pub ParkedHolds : SoloSetup → (n : ℕ) → Bank → Type 0
ParkedHolds s n b =
    setup_check_of s n ≡ fine → store_check_of s.channels (ring_len s.rate) n b ≡ fine
    → s.table.three ≡ false → eqb s.code 13 ≡ false → is_flat s.channels n b ≡ true → F32Setup s → F32Bank b
    → Holds (parked_file s n b) s n b
