-- What each test of the reader says of the verdict, up to the setup's. Assumes nothing.
use mathlib.Core.Path.{◌≡◌, refl, sym, ap, ◌∙◌}
use mathlib.Core.Bool.{Bool, true, false, cond, ◌&&◌}
use Prim.Native.Nat.{ℕ, ◌%◌, ◌≤◌, ◌<◌}
use mathlib.Core.List.{List}
use lib.Dec.{leb, eqb}
use lib.ListN.{length}
use borrow.Author.Tests.{lt-leb, le-leb}
use Rattle.std.specs.Prelude.{Option, Some, None, Result, Ok, Err}
use Rattle.std.specs.Option.{ok_or}
use Rattle.voices.specs.Calls.{Check, fine, refused, check, ◌then◌}
use Rattle.blocks.specs.Blocks.{head_of}
use Rattle.places.specs.Places.{count, place_of, blocks_in, head_in, sound_file, is_once}
use Rattle.places.specs.Sole.{sole_of}
use Rattle.setups.specs.Setup.{codes_check_of}
use Rattle.setups.specs.Parked.{setup_word, solo_in, voices_in, cursor_in, head_check, parked_codes, solo_check}
use Rattle.checks.specs.declared.Setup.{Setup}
use Rattle.checks.specs.declared.Refusal.{Refusal}
use Rattle.checks.specs.Checks.{number_of}
use Rattle.checks.specs.Setup.{solo_of}
use Rattle.parking.specs.Parking.{setup_in, told, held_by}
use Rattle.parking.specs.Asks.{SetupAt, setup_verdict, head_verdict}

-- ---- the answer

pub held_refused : (v : Check) (file : List ℕ) (e : Refusal) → v ≡ refused (number_of e) → told (Err e) ≡ held_by v file
unfolding told held_by
held_refused v file e h = ap (λ (x : Check). held_by x file) (sym h)

pub held_fine : (v : Check) (file : List ℕ) (s : Setup) (cursor : ℕ) → s ≡ setup_in file → cursor ≡ cursor_in file → v ≡ fine
    → told (Ok (record { setup = s; cursor = cursor })) ≡ held_by v file
unfolding told held_by
held_fine v file s cursor e d h = (λ t. Ok (record { setup = e t; cursor = d t })) ∙ ap (λ (x : Check). held_by x file) (sym h)

-- ---- 13 of the clean word, then 1 to 5

solo_is : (file : List ℕ) → solo_of (setup_in file) ≡ solo_in file
unfolding setup_in
solo_is file = refl

voices_is : (file : List ℕ) → (setup_in file).voices ≡ voices_in file
unfolding setup_in
voices_is file = refl

pub setup_checked : (file : List ℕ) (s : Setup) → s ≡ setup_in file → codes_check_of parked_codes (solo_of s) s.voices ≡ solo_check file
setup_checked file s e = ap (λ (x : Setup). codes_check_of parked_codes (solo_of x) x.voices) e ∙ (λ t. codes_check_of parked_codes (solo_is file t) (voices_is file t))

pub unclean : (file : List ℕ) (w : ℕ) → w ≡ setup_word file 3 → 1 < w → setup_verdict file ≡ refused 13
unfolding setup_verdict check ◌then◌
unclean file w e h = ap (λ (t : Bool). check t 13 then solo_check file) (ap (λ (x : ℕ). leb x 1) (sym e) ∙ lt-leb w 1 h)

clean : (file : List ℕ) (w : ℕ) → w ≡ setup_word file 3 → w ≤ 1 → setup_verdict file ≡ solo_check file
unfolding setup_verdict check ◌then◌
clean file w e h = ap (λ (t : Bool). check t 13 then solo_check file) (ap (λ (x : ℕ). leb x 1) (sym e) ∙ le-leb w 1 h)

pub setup_says : (file : List ℕ) (w : ℕ) (s : Setup) (v : Check) → w ≡ setup_word file 3 → w ≤ 1 → s ≡ setup_in file → codes_check_of parked_codes (solo_of s) s.voices ≡ v → setup_verdict file ≡ v
setup_says file w s v e h d u = clean file w e h ∙ sym (setup_checked file s d) ∙ u

-- ---- 12, and 13 of the setup's blocks

pub damaged : (file : List ℕ) (r : Bool) → r ≡ eqb (length file % 512) 0 && sound_file file → r ≡ false → head_verdict file ≡ refused 12
unfolding head_verdict check ◌then◌
damaged file r e h = ap (λ (t : Bool). check t 12 then head_check file then solo_check file) (sym e ∙ h)

sound : (file : List ℕ) (r : Bool) → r ≡ eqb (length file % 512) 0 && sound_file file → r ≡ true
    → head_verdict file ≡ head_check file then solo_check file
unfolding head_verdict check ◌then◌
sound file r e h = ap (λ (t : Bool). check t 12 then head_check file then solo_check file) (sym e ∙ h)

-- what `ok_or` answers of no place
pub other_none : {X E : Type 0} (o : Option X) (e d : E) → o ≡ None → ◌≡◌ {A = Result X E} (Err e) (ok_or o d) → e ≡ d
other_none None e d n v = cc
other_none (Some x) e d n v = cc

-- `sole` answers a place just where a head stands once
pub not_once : (file : List ℕ) (head : ℕ) (r : Option ℕ) → r ≡ sole_of file head → r ≡ None → is_once file head ≡ false
unfolding sole_of is_once
not_once file head r e h = go (eqb (count (head_in file) head (blocks_in file)) 1) (sym e ∙ h)
  where
    go : (t : Bool) → ◌≡◌ {A = Option ℕ} (cond t (Some (place_of (head_in file) head (blocks_in file))) None) None → t ≡ false
    go true d = cc
    go false d = refl

pub at_once : (file : List ℕ) (head a : ℕ) (r : Option ℕ) → r ≡ sole_of file head → r ≡ Some a
    → (is_once file head ≡ true) × (a ≡ place_of (head_in file) head (blocks_in file))
unfolding sole_of is_once
at_once file head a r e h = go (eqb (count (head_in file) head (blocks_in file)) 1) (sym e ∙ h)
  where
    go : (t : Bool) → ◌≡◌ {A = Option ℕ} (cond t (Some (place_of (head_in file) head (blocks_in file))) None) (Some a)
        → (t ≡ true) × (a ≡ place_of (head_in file) head (blocks_in file))
    go true d = (refl, (cc))
    go false d = ((cc), (cc))

pub first_head : head_of 1 0 0 ≡ 1
unfolding head_of
first_head = refl

pub second_head : head_of 1 0 1 ≡ 65537
unfolding head_of
second_head = refl

module _ (file : List ℕ) (r : Bool) (e : r ≡ eqb (length file % 512) 0 && sound_file file) (h : r ≡ true) where
  pub first_missing : (p : Option ℕ) → p ≡ sole_of file 1 → p ≡ None → head_verdict file ≡ refused 13
  unfolding check ◌then◌
  first_missing p d n =
      sound file r e h
      ∙ ap (λ (t : Bool). check (t && is_once file (head_of 1 0 1) && leb (setup_word file 3) 1) 13 then solo_check file)
      (ap (is_once file) first_head ∙ not_once file 1 p d n)

  module _ (a : ℕ) (p : Option ℕ) (d : p ≡ sole_of file 1) (n : p ≡ Some a) where
    once0 : is_once file (head_of 1 0 0) ≡ true
    once0 = ap (is_once file) first_head ∙ (at_once file 1 a p d n).0

    pub second_missing : (q : Option ℕ) → q ≡ sole_of file 65537 → q ≡ None → head_verdict file ≡ refused 13
    unfolding check ◌then◌
    second_missing q u m =
        sound file r e h
        ∙ (λ t. check (once0 t && (ap (is_once file) second_head ∙ not_once file 65537 q u m) t && leb (setup_word file 3) 1) 13 then solo_check file)

    module _ (b : ℕ) (q : Option ℕ) (u : q ≡ sole_of file 65537) (m : q ≡ Some b) where
      once1 : is_once file (head_of 1 0 1) ≡ true
      once1 = ap (is_once file) second_head ∙ (at_once file 65537 b q u m).0

      pub setup_at : SetupAt file a b
      setup_at = record {
        once0 = once0;
        once1 = once1;
        first = (at_once file 1 a p d n).1 ∙ ap (λ (x : ℕ). place_of (head_in file) x (blocks_in file)) (sym first_head);
        second = (at_once file 65537 b q u m).1 ∙ ap (λ (x : ℕ). place_of (head_in file) x (blocks_in file)) (sym second_head);
      }

      pub head_is : head_verdict file ≡ setup_verdict file
      unfolding setup_verdict
      head_is = sound file r e h ∙ (λ t. check (once0 t && once1 t && leb (setup_word file 3) 1) 13 then solo_check file)
