-- What parking writes, and that it holds the bank. Assumes nothing.
use mathlib.Core.Path.{◌≡◌, sym, ap, ◌∙◌, subst}
use Prim.Native.Nat.{ℕ, ◌+◌, ◌*◌, ◌/◌}
use native.Mathlib.Omega.{arith}
use mathlib.Core.Bool.{true, not, ◌&&◌}
use mathlib.Core.List.{List}
use lib.Dec.{eqb}
use lib.ListN.{length}
use Rattle.lines.specs.Lines.{ring_len}
use Rattle.voices.specs.Calls.{Check, fine, refused, ◌then◌, Bank, is_flat, store_check, file_length, file_check, words_check}
use Rattle.voices.specs.Accepted.{check_fine, then_fine, and-true}
use borrow.Author.Tests.{eqb-true, not-true}
use Rattle.blocks.specs.Blocks.{parts_of}
use Rattle.files.specs.Image.{Image, image_file}
use Rattle.files.specs.Asks.{image_of, Room}
use Rattle.setups.specs.Setup.{setup_check_of}
use Rattle.setups.proofs.Accepted.{SetupAccepted, setup_accepted}
use Rattle.setups.specs.Parked.{setup_words, parked_file}
use Rattle.setups.specs.Parked.{Holds}
use Rattle.setups.specs.Back.{F32Setup, F32Bank}
use Rattle.setups.proofs.Back.{image_whole, parked_is, parked_holds}
use Rattle.checks.specs.declared.Setup.{Setup}
use Rattle.checks.specs.Setup.{solo_of, engine}
use Rattle.parking.specs.Parking.{park_verdict, written_by}
use Rattle.parking.proofs.Surveying.{not_both}

pub not_accepted : {X : Type 0} (v : Check) (k : ℕ) → v ≡ refused k → v ≡ fine → X
not_accepted v k r e = absurd (not_both k (sym e ∙ r))

module _ (s : Setup) (b : Bank) (list : List ℕ) (ok : park_verdict s b list ≡ fine) where
  setup_fine : setup_check_of (solo_of s) s.voices ≡ fine
  setup_fine = (then_fine _ _ ok).0

  after_setup_lem : store_check (engine s) s.voices b then file_check (engine s) s.voices (length list) then words_check (engine s) s.voices b ≡ fine
  after_setup_lem = (then_fine (setup_check_of (solo_of s) s.voices) _ ok).1

  store_fine : store_check (engine s) s.voices b ≡ fine
  store_fine = (then_fine _ _ after_setup_lem).0

  after_store : file_check (engine s) s.voices (length list) then words_check (engine s) s.voices b ≡ fine
  after_store = (then_fine (store_check (engine s) s.voices b) _ after_setup_lem).1

  as_long : length list ≡ file_length (engine s) s.voices
  as_long = eqb-true _ _ (check_fine _ _ (then_fine _ _ after_store).0)

  -- a setup that a file has words for, and no bit of z set
  flat : (not s.table.three && not (eqb s.code 13) ≡ true) × (is_flat s.channels s.voices b ≡ true)
  flat = and-true _ _ (check_fine _ _ (then_fine (file_check (engine s) s.voices (length list)) _ after_store).1)

  -- two axes, and a code without a chord
  plain : (not s.table.three ≡ true) × (not (eqb s.code 13) ≡ true)
  plain = and-true _ _ flat.0

  pub known : SetupAccepted (solo_of s) s.voices
  known = setup_accepted (solo_of s) s.voices setup_fine

  -- the image by the numbers that the code works out
  module _ (words : List ℕ) (w : words ≡ setup_words (solo_of s) s.voices b.cursor) (len : ℕ) (l : len ≡ ring_len s.rate) where
    abbrev im : Image
    im = image_of s.voices (s.channels * s.voices) len ((len + 125) / 126) words b.targets b.records b.delay

    image_is : im ≡ image_of s.voices (s.channels * s.voices) (ring_len s.rate) (parts_of (ring_len s.rate)) (setup_words (solo_of s) s.voices b.cursor) b.targets b.records b.delay
    image_is = λ t. image_of s.voices (s.channels * s.voices) (l t) (parts_of (l t)) (w t) b.targets b.records b.delay

    pub room_for : Room im (length list)
    room_for =
        subst (λ (x : Image). Room x (length list)) (sym image_is)
        (record {
          whole = image_whole (solo_of s) s.voices b setup_fine store_fine;
          some_part = let h = (image_whole (solo_of s) s.voices b setup_fine store_fine).some in omega arith;
          parts = omega (arith, known.parts);
          room = as_long;
        })

    module _ (file : List ℕ) (e : file ≡ image_file im) where
      is_parked : file ≡ parked_file (solo_of s) s.voices b
      is_parked = e ∙ ap image_file image_is ∙ sym (parked_is (solo_of s) s.voices b)

      pub written : file ≡ written_by (park_verdict s b list) s b list
      written = is_parked ∙ ap (λ (v : Check). written_by v s b list) (sym ok)

      pub holds : F32Setup (solo_of s) → F32Bank b → Holds file (solo_of s) s.voices b
      holds fs fb = subst (λ (f : List ℕ). Holds f (solo_of s) s.voices b) (sym is_parked)
          (parked_holds (solo_of s) s.voices b setup_fine store_fine (not-true _ plain.0) (not-true _ plain.1) flat.1 fs fb)
