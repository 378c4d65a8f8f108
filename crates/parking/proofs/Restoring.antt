-- The reader's last steps: the lists are measured, then filled. Assumes nothing.
use mathlib.Core.Path.{◌≡◌, refl, sym, ap, ◌∙◌, subst}
use mathlib.Core.Bool.{true}
use Prim.Native.Nat.{ℕ, suc, ◌+◌, ◌*◌, ◌/◌, ◌≤◌, ◌<◌}
use native.Mathlib.Omega.{arith}
use mathlib.Core.List.{List}
use lib.Ieee.{Float}
use lib.ListN.{length, get_or}
use Rattle.lines.specs.Lines.{ring_len}
use Rattle.lines.specs.View.{length_of}
use Rattle.std.specs.Prelude.{Result, Ok, Err}
use Rattle.voices.specs.Calls.{targets_width, record_width, Check, fine, refused, ◌then◌, Bank, store_check_of, open_verdict}
use Rattle.voices.specs.Accepted.{check_fine, then_fine, OpenAccepted, open_accepted}
use Rattle.blocks.specs.Blocks.{parts_of, total}
use Rattle.places.specs.Places.{place_of, blocks_in, number_at, is_whole}
use Rattle.rows.specs.Rows.{numbers_in}
use Rattle.files.specs.File.{parked_targets, parked_record}
use Rattle.rows.proofs.Back.{parts_hold}
use Rattle.files.specs.Asks.{Ready, Restored}
use Rattle.setups.specs.Setup.{setup_check_of}
use Rattle.setups.proofs.Accepted.{SetupAccepted, setup_accepted, file_accepted}
use Rattle.setups.specs.Parked.{solo_in, voices_in, slots_in, ring_in, cursor_in, bank_in, damaged_check, head_check, solo_check, blocks_check, file_verdict, restore_verdict}
use Rattle.checks.specs.declared.Setup.{Setup}
use Rattle.checks.specs.declared.Refusal.{Refusal}
use Rattle.checks.specs.Setup.{solo_of, engine}
use Rattle.checks.specs.Checks.{number_of, bank_of}
use Rattle.parking.specs.declared.Held.{Held}
use Rattle.parking.specs.Parking.{setup_in, restored_by, RestoreDoes}
use Rattle.parking.specs.Asks.{FileRead}
use Rattle.parking.proofs.Reading.{held_refused, setup_checked}
use Rattle.parking.proofs.Surveying.{says_refused, says_fine, read_again}

-- a refusal: its number, and the lists as they were
stopped : (file : List ℕ) (e : Refusal) (tg rs ds : List Float) → restore_verdict file (bank_of tg rs ds 0) ≡ refused (number_of e)
    → RestoreDoes file (bank_of tg rs ds 0) (Err e) tg rs ds
stopped file e tg rs ds d = record {
  answer = held_refused (restore_verdict file (bank_of tg rs ds 0)) file e d;
  lists = ap (λ (x : Check). restored_by x file (bank_of tg rs ds 0)) (sym d);
}

module _ (file pos : List ℕ) (r : Result Held Refusal) (f : FileRead file pos r) (tg rs ds : List Float) where
  abbrev lent : Bank
  lent = bank_of tg rs ds 0

  pub file_refused : (e : Refusal) → r ≡ Err e → RestoreDoes file lent (Err e) tg rs ds
  unfolding restore_verdict ◌then◌
  file_refused e d =
      let v : file_verdict file ≡ refused (number_of e) = says_refused (file_verdict file) file e r f.held d in
      stopped file e tg rs ds (ap (λ (x : Check). x then store_check_of (solo_in file).channels (ring_in file) (voices_in file) lent) v)

  module _ (h : Held) (d : r ≡ Ok h) where
    file_fine : file_verdict file ≡ fine
    file_fine = (says_fine (file_verdict file) file h r f.held d).0

    held_is : h ≡ record { setup = setup_in file; cursor = cursor_in file }
    held_is = (says_fine (file_verdict file) file h r f.held d).1

    setup_is : h.setup ≡ setup_in file
    setup_is = ap (λ (x : Held). x.setup) held_is

    passed : (solo_check file ≡ fine) × (blocks_check file ≡ fine)
    unfolding file_verdict
    passed =
        let a = then_fine (damaged_check file) (head_check file then solo_check file then blocks_check file) file_fine in
        let b = then_fine (head_check file) (solo_check file then blocks_check file) a.1 in
        then_fine (solo_check file) (blocks_check file) b.1

    checked : setup_check_of (solo_of h.setup) h.setup.voices ≡ fine
    checked = file_accepted (solo_of h.setup) h.setup.voices (setup_checked file h.setup setup_is ∙ passed.0)

    pub accepted : SetupAccepted (solo_of h.setup) h.setup.voices
    accepted = setup_accepted (solo_of h.setup) h.setup.voices checked

    -- what is left is 6
    store_decides : restore_verdict file lent ≡ open_verdict (engine h.setup) h.setup.voices lent
    unfolding restore_verdict ◌then◌ setup_in
    store_decides =
        (λ t. file_fine t then store_check_of (solo_in file).channels (ring_in file) (voices_in file) lent)
        ∙ sym (λ t. store_check_of (setup_is t).channels (ring_len (setup_is t).rate) (setup_is t).voices lent)
        ∙ sym (λ t. checked t then store_check_of h.setup.channels (ring_len h.setup.rate) h.setup.voices lent)

    pub store_refused : (e : Refusal) → open_verdict (engine h.setup) h.setup.voices lent ≡ refused (number_of e) → RestoreDoes file lent (Err e) tg rs ds
    store_refused e u = stopped file e tg rs ds (store_decides ∙ u)

    module _ (ok : open_verdict (engine h.setup) h.setup.voices lent ≡ fine) (len : ℕ) (l : len ≡ ring_len h.setup.rate) where
      abbrev v : ℕ
      v = h.setup.voices

      abbrev s : ℕ
      s = h.setup.channels * h.setup.voices

      abbrev p : ℕ
      p = (len + 125) / 126

      -- the sizes are those that the file's setup asks for
      as_read : (P : ℕ → ℕ → ℕ → Type 0) → P (voices_in file) (slots_in file) (ring_in file) → P v s len
      unfolding setup_in
      as_read P x =
          subst (λ (y : ℕ). P v s y) (sym l)
          (subst (λ (y : Setup). P y.voices (y.channels * y.voices) (ring_len y.rate)) (sym setup_is) x)

      pub ready : length pos ≡ 16722 → Ready v s len p file pos (length tg) (length rs) (length ds)
      ready z =
          let o : OpenAccepted (engine h.setup) h.setup.voices lent = open_accepted (engine h.setup) h.setup.voices lent ok in
          let k = accepted in
          let b : s * p ≤ 16672 = subst (λ (y : ℕ). s * parts_of y ≤ 16672) (sym l) k.blocks in
          record {
            voices = omega (arith, k.voices);
            slots = omega (arith, k.slots);
            once = as_read (λ a c d. is_whole a c (parts_of d) file ≡ true) (check_fine _ _ passed.1);
            places = as_read (λ a c d. (k : ℕ) → k < total a c (parts_of d) → get_or pos k 0 ≡ suc (place_of (number_at a c (parts_of d) file) k (blocks_in file))) (f.places file_fine);
            table = omega (arith, k.voices, k.slots, b, z);
            some = subst (λ (y : ℕ). 0 < y) (sym l) (let m = (length_of (ring_len h.setup.rate) k.good).least in omega arith);
            hold = parts_hold len;
            targets_length = o.lengths.targets;
            records_length = o.lengths.records;
            delay_length = o.lengths.delay ∙ ap (λ (y : ℕ). s * y) (sym l);
          }

      pub filled : (tg' rs' ds' : List Float) → Restored v s len file tg' rs' ds' → RestoreDoes file lent (Ok h) tg' rs' ds'
      unfolding bank_in
      filled tg' rs' ds' q =
          let w : restore_verdict file lent ≡ fine = store_decides ∙ ok in
          record {
            answer = read_again (restore_verdict file lent) file h w held_is;
            lists =
                (λ t. bank_of (q.targets_are t) (q.records_are t) (q.delay_are t) (held_is t).cursor)
                ∙ sizes
                ∙ ap (λ (x : Check). restored_by x file lent) (sym w);
          }
        where
          sizes : bank_of (numbers_in file 2 parked_targets targets_width (v * targets_width)) (numbers_in file 3 parked_record record_width (s * record_width)) (numbers_in file 4 len len (s * len)) (cursor_in file)
              ≡ bank_of (numbers_in file 2 parked_targets targets_width (voices_in file * targets_width)) (numbers_in file 3 parked_record record_width (slots_in file * record_width)) (numbers_in file 4 (ring_in file) (ring_in file) (slots_in file * ring_in file)) (cursor_in file)
          sizes = as_read (λ a c d.
              bank_of (numbers_in file 2 parked_targets targets_width (a * targets_width)) (numbers_in file 3 parked_record record_width (c * record_width)) (numbers_in file 4 d d (c * d)) (cursor_in file)
              ≡ bank_of (numbers_in file 2 parked_targets targets_width (voices_in file * targets_width)) (numbers_in file 3 parked_record record_width (slots_in file * record_width)) (numbers_in file 4 (ring_in file) (ring_in file) (slots_in file * ring_in file)) (cursor_in file)) refl
