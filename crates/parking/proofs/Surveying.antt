-- From the checks up to 5 to the whole verdict of a file, and what the survey says of it. Assumes nothing.
use mathlib.Core.Path.{◌≡◌, refl, sym, ap, ◌∙◌, subst}
use mathlib.Core.Bool.{Bool, true, false}
use Prim.Native.Nat.{ℕ, suc, ◌+◌, ◌*◌, ◌/◌, ◌≤◌, ◌<◌}
use native.Mathlib.Omega.{arith}
use mathlib.Core.List.{List}
use lib.ListN.{length, get_or}
use Rattle.lines.specs.Lines.{ring_len}
use Rattle.std.specs.Prelude.{Result, Ok, Err}
use Rattle.voices.specs.Calls.{Check, fine, refused, check, ◌then◌}
use Rattle.voices.specs.Accepted.{then_fine}
use Rattle.blocks.specs.Blocks.{parts_of, total}
use Rattle.places.specs.Places.{place_of, blocks_in, number_at, is_whole}
use Rattle.places.specs.Survey.{Small, Surveyed}
use Rattle.setups.specs.Setup.{codes_check_of}
use Rattle.setups.proofs.Accepted.{SetupAccepted, codes_accepted}
use Rattle.setups.specs.Parked.{voices_in, cursor_in, slots_in, ring_in, damaged_check, head_check, parked_codes, solo_check, blocks_check, file_verdict}
use Rattle.checks.specs.declared.Setup.{Setup}
use Rattle.checks.specs.declared.Refusal.{Refusal}
use Rattle.checks.specs.declared.Refusal.TheVariants.{Blocks}
use Rattle.checks.specs.Checks.{number_of}
use Rattle.checks.specs.Setup.{solo_of}
use Rattle.parking.specs.declared.Held.{Held}
use Rattle.parking.specs.Parking.{setup_in, told, held_by}
use Rattle.parking.specs.Asks.{head_verdict, ClearTable, FileRead}
use Rattle.parking.proofs.Reading.{held_refused, setup_checked}

pub not_both : (k : ℕ) → fine ≡ refused k → ⊥
not_both k e = let z : ◌≡◌ {A = ℕ} 0 1 = cc in omega arith

-- the checks up to 5, then those of the other blocks
pub file_then : (file : List ℕ) → file_verdict file ≡ head_verdict file then blocks_check file
unfolding file_verdict head_verdict
file_then file = go (damaged_check file) (head_check file)
  where
    go : (d h : Check) → d then h then solo_check file then blocks_check file ≡ (d then h then solo_check file) then blocks_check file
    go (refused k) h = unfold ◌then◌ in refl
    go fine (refused k) = unfold ◌then◌ in refl
    go fine fine = unfold ◌then◌ in refl

-- an answer's refusal is that of the verdict that it was made by
pub says_refused : (v : Check) (file : List ℕ) (e : Refusal) (r : Result Held Refusal) → told r ≡ held_by v file → r ≡ Err e → v ≡ refused (number_of e)
unfolding told held_by
says_refused v file e r t d = go v (sym (ap told d) ∙ t)
  where
    go : (v : Check) → told (Err e) ≡ held_by v file → v ≡ refused (number_of e)
    go fine x = cc
    go (refused k) x = cc

-- an answer that was accepted is the file's
pub says_fine : (v : Check) (file : List ℕ) (h : Held) (r : Result Held Refusal) → told r ≡ held_by v file → r ≡ Ok h
    → (v ≡ fine) × (h ≡ record { setup = setup_in file; cursor = cursor_in file })
unfolding told held_by
says_fine v file h r t d = go v (sym (ap told d) ∙ t)
  where
    go : (v : Check) → told (Ok h) ≡ held_by v file → (v ≡ fine) × (h ≡ record { setup = setup_in file; cursor = cursor_in file })
    go fine x = (refl, (cc))
    go (refused k) x = ((cc), (cc))

pub read_again : (v : Check) (file : List ℕ) (h : Held) → v ≡ fine → h ≡ record { setup = setup_in file; cursor = cursor_in file } → told (Ok h) ≡ held_by v file
unfolding told held_by
read_again v file h e d = ap (λ (x : Held). Ok x) d ∙ ap (λ (x : Check). held_by x file) (sym e)

module _ (file : List ℕ) (r : Result Held Refusal) (e : told r ≡ held_by (head_verdict file) file) where
  pub read_refused : (pos : List ℕ) (k : Refusal) → r ≡ Err k → FileRead file pos (Err k)
  read_refused pos k d =
      let v : head_verdict file ≡ refused (number_of k) = says_refused (head_verdict file) file k r e d in
      let f : file_verdict file ≡ refused (number_of k) = file_then file ∙ ap (λ (x : Check). x then blocks_check file) v ∙ (unfold ◌then◌ in refl) in
      record {
        held = held_refused (file_verdict file) file k f;
        places = λ g. absurd (not_both (number_of k) (sym g ∙ f));
      }

  module _ (h : Held) (d : r ≡ Ok h) where
    head_fine : head_verdict file ≡ fine
    head_fine = (says_fine (head_verdict file) file h r e d).0

    held_is : h ≡ record { setup = setup_in file; cursor = cursor_in file }
    held_is = (says_fine (head_verdict file) file h r e d).1

    setup_is : h.setup ≡ setup_in file
    setup_is = ap (λ (x : Held). x.setup) held_is

    checked : codes_check_of parked_codes (solo_of h.setup) h.setup.voices ≡ fine
    unfolding head_verdict
    checked =
        setup_checked file h.setup setup_is
        ∙ (then_fine (head_check file) (solo_check file)
        (then_fine (damaged_check file) (head_check file then solo_check file) head_fine).1).1

    pub known : SetupAccepted (solo_of h.setup) h.setup.voices
    known = codes_accepted parked_codes (solo_of h.setup) h.setup.voices checked

    module _ (len : ℕ) (l : len ≡ ring_len h.setup.rate) where
      abbrev v : ℕ
      v = h.setup.voices

      abbrev s : ℕ
      s = h.setup.channels * h.setup.voices

      abbrev p : ℕ
      p = (len + 125) / 126

      parts_is : p ≡ parts_of (ring_len h.setup.rate)
      parts_is = ap parts_of l

      pub small : Small v s p
      small = record {
        voices = known.voices;
        slots = known.slots;
        parts = subst (λ (x : ℕ). x ≤ 521) (sym parts_is) known.parts;
        ring = subst (λ (x : ℕ). s * x ≤ 16672) (sym parts_is) known.blocks;
      }

      pub room : (pos : List ℕ) → ClearTable pos → total v s p ≤ length pos
      room pos z = let a = small in omega (arith, a.voices, a.slots, a.ring, z.size)

      pub none : (pos : List ℕ) → ClearTable pos → (k : ℕ) → k < total v s p → get_or pos k 0 ≡ 0
      none pos z k q = z.clear k (omega (arith, room pos z, z.size))

      -- the sizes are those that the file's setup asks for
      sizes_are : (P : ℕ → ℕ → ℕ → Type 0) → P v s p → P (voices_in file) (slots_in file) (parts_of (ring_in file))
      unfolding setup_in
      sizes_are P x = subst (λ (y : Setup). P y.voices (y.channels * y.voices) (parts_of (ring_len y.rate))) setup_is (subst (λ (y : ℕ). P v s y) parts_is x)

      module _ (pos : List ℕ) (found : Bool) (q : Surveyed v s p file pos found) where
        whole_is : found ≡ is_whole (voices_in file) (slots_in file) (parts_of (ring_in file)) file
        whole_is = sizes_are (λ a b c. found ≡ is_whole a b c file) q.decides

        file_is : file_verdict file ≡ check found 13
        file_is = file_then file ∙ ap (λ (x : Check). x then blocks_check file) head_fine ∙ (unfold ◌then◌ in ap (λ (t : Bool). check t 13) (sym whole_is))

        pub read_missing : found ≡ false → FileRead file pos (Err Blocks)
        read_missing t =
            let f : file_verdict file ≡ refused 13 = file_is ∙ ap (λ (x : Bool). check x 13) t ∙ (unfold check in refl) in
            record {
              held = held_refused (file_verdict file) file Blocks f;
              places = λ g. absurd (not_both 13 (sym g ∙ f));
            }

        pub read_whole : found ≡ true → FileRead file pos (Ok h)
        read_whole t =
            let f : file_verdict file ≡ fine = file_is ∙ ap (λ (x : Bool). check x 13) t ∙ (unfold check in refl) in
            record {
              held = read_again (file_verdict file) file h f held_is;
              places = λ g. sizes_are (λ a b c. (k : ℕ) → k < total a b c → get_or pos k 0 ≡ suc (place_of (number_at a b c file) k (blocks_in file))) (q.places t);
            }
