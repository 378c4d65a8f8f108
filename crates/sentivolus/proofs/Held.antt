-- What park and the reader leave, in the numbers that the exported calls answer. By the cases of the verdict. Assumes nothing.
use mathlib.Core.Path.{◌≡◌, refl, sym, ap, ◌∙◌}
use Prim.Native.Nat.{ℕ}
use mathlib.Core.List.{List}
use lib.Ieee.{Float}
use lib.ListN.{length}
use Rattle.std.specs.Prelude.{Result, Ok, Err}
use Rattle.voices.specs.Calls.{Check, fine, refused, Bank, call_park, perform, call}
use Rattle.setups.specs.Parked.{restore_verdict}
use Rattle.checks.specs.declared.Setup.{Setup}
use Rattle.checks.specs.declared.Refusal.{Refusal}
use Rattle.checks.specs.Setup.{engine}
use Rattle.checks.specs.Checks.{number_of}
use Rattle.bank.specs.Bank.{before}
use Rattle.parking.specs.declared.Held.{Held}
use Rattle.parking.specs.Parking.{park_verdict, ParkDoes, told, held_by, RestoreDoes}
use Rattle.parking.proofs.Surveying.{says_fine, says_refused}
use Rattle.sentivolus.specs.Calls.{number_in, number_by, ParkLeft, setup_by, cursor_by, SetupLeft, RestoreLeft}
use Rattle.sentivolus.specs.Answers.{answer_number}
use Rattle.sentivolus.proofs.Left.{lists_left}

park_number : (s : Setup) (b : Bank) (list : List ℕ) (v : Check) → number_in (perform (engine s) s.voices v (call_park (length list)) (before b)).log ≡ number_by v
park_number s b list fine = refl
park_number s b list (refused k) = refl

pub park_left : (s : Setup) (b : Bank) (list list' : List ℕ) (r : Result ℕ Refusal) (n : ℕ) → n ≡ answer_number r → ParkDoes s b list r list' → ParkLeft s b list n list'
park_left s b list list' r n e d = record {
  answer = (lists_left (call (engine s) s.voices (call_park (length list)) (before b)) r n b.cursor b.targets b.records b.delay e d.does).answer
      ∙ park_number s b list (park_verdict s b list);
  written = d.written;
  holds = d.holds;
}

module _ (v : Check) (file : List ℕ) (given : Setup) (at : ℕ) (r : Result Held Refusal) (t : told r ≡ held_by v file) where
  pub setup_done : (h : Held) (s : Setup) → r ≡ Ok h → s ≡ h.setup → SetupLeft v file given at 0 s h.cursor
  setup_done h s e es =
      let p = says_fine v file h r t e in
      record {
        answer = ap number_by (sym p.0);
        setup' = es ∙ ap (λ (x : Held). x.setup) p.1 ∙ ap (λ (x : Check). setup_by x file given) (sym p.0);
        cursor' = ap (λ (x : Held). x.cursor) p.1 ∙ ap (λ (x : Check). cursor_by x file at) (sym p.0);
      }

  pub setup_refused : (k : Refusal) (n : ℕ) → r ≡ Err k → n ≡ number_of k → SetupLeft v file given at n given at
  setup_refused k n e en =
      let p = says_refused v file k r t e in
      record {
        answer = en ∙ ap number_by (sym p);
        setup' = ap (λ (x : Check). setup_by x file given) (sym p);
        cursor' = ap (λ (x : Check). cursor_by x file at) (sym p);
      }

pub restore_left : (file : List ℕ) (lent : Bank) (given : Setup) (at : ℕ) (r : Result Held Refusal) (n : ℕ) (s : Setup) (c : ℕ) (tg rs ds : List Float)
    → RestoreDoes file lent r tg rs ds → SetupLeft (restore_verdict file lent) file given at n s c → RestoreLeft file lent given at n s c tg rs ds
restore_left file lent given at r n s c tg rs ds d left = record {
  left = left;
  targets' = ap (λ (b : Bank). b.targets) d.lists;
  records' = ap (λ (b : Bank). b.records) d.lists;
  delay' = ap (λ (b : Bank). b.delay) d.lists;
}
