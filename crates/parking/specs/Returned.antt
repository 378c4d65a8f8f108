-- What follows from the contracts of park and restore alone (document 02, C-12, C-17, C-18): the round trip, blocks in any order, and what demand 3 asks of
-- a restore in a list of calls. The statements, then their proofs from setups/specs/Back and AnyOrder. Assumes nothing.
use Rattle.std.specs.Prelude.{◌≡◌, List, [], ◌∷◌, ℕ, Float, Result, Ok, Err, get_or}
use Rattle.std.proofs.Math.Path.{refl}
use Rattle.std.proofs.Common.{sym, ap, ◌∙◌, arith}
use Rattle.lines.specs.Lines.{ring_len}
use Rattle.voices.specs.Calls.{Check, fine, refused, ◌then◌, Bank, Run, refused_call, kept, call_restore, store_check, store_check_of, perform, call, Returned}
use Rattle.places.specs.ByHead.{Shuffled}
use Rattle.setups.specs.Setup.{heard_table, heard_chord, heard}
use Rattle.setups.specs.Parked.{solo_in, voices_in, cursor_in, bank_in, restore_verdict}
use Rattle.setups.specs.Parked.{Holds}
use Rattle.setups.proofs.AnyOrder.{any_order}
use Rattle.slots.specs.Heard.{heard_engine}
use Rattle.checks.specs.declared.Setup.{Setup}
use Rattle.checks.specs.declared.Refusal.{Refusal}
use Rattle.checks.specs.declared.Refusal.TheVariants.{Rate, Tuning, Polyphony, Layout, Structure, Store, Voice, Knob, Frames, Buffer}
use Rattle.checks.specs.declared.Refusal.TheVariants.{Damaged, Blocks, Scratch, Unparkable, Chord}
use Rattle.checks.specs.Setup.{solo_of, engine}
use Rattle.checks.specs.Checks.{number_of, bank_of}
use Rattle.parking.specs.declared.Held.{Held}
use Rattle.parking.specs.Parking.{park_verdict, ParkDoes, setup_in, told, held_by, cursor_or, restored_by, RestoreDoes}

-- ---- the round trip

-- a setup as it is heard: of a two-axis table the z = 1 face is ignored (C-17), of a code but 13 the chord (C-18), here 0
abbrev pub heard_setup : Setup → Setup
heard_setup s = record {
  code = s.code;
  rate = s.rate;
  reference = s.reference;
  voices = s.voices;
  channels = s.channels;
  clean = s.clean;
  table = heard_table s.table;
  chord = heard_chord s.code s.chord;
}

-- the setup s as it is heard, which has the same engine, and the bank b, from restore's answer and lists
pub record SameBank (s : Setup) (b : Bank) (r : Result Held Refusal) (targets records delay : List Float) : Type 1 where
  pub held : Held
  pub verdict : r ≡ Ok held
  pub setup : held.setup ≡ heard_setup s
  pub heard_as : engine held.setup ≡ engine s
  pub bank : bank_of targets records delay held.cursor ≡ b

-- Restoring what was parked, into any lent lists of the right lengths, gives the same setup, cursor and lists.
abbrev pub RoundTrip : Setup → Bank → Type 1
RoundTrip s b =
    (list file : List ℕ) (a : Result ℕ Refusal) → ParkDoes s b list a file → park_verdict s b list ≡ fine
    → (lent : Bank) (r : Result Held Refusal) (targets records delay : List Float) → RestoreDoes file lent r targets records delay
    → store_check (engine s) s.voices lent ≡ fine
    → SameBank s b r targets records delay

-- ---- any order

-- A file and any rearrangement of its blocks give the same answer and lists.
abbrev pub SameRestored : (file other : List ℕ) → Type 0
SameRestored file other =
    Shuffled file other → (lent : Bank) (r q : Result Held Refusal) (tg rs ds tg' rs' ds' : List Float)
    → RestoreDoes file lent r tg rs ds → RestoreDoes other lent q tg' rs' ds'
    → (q ≡ r) × (bank_of tg' rs' ds' (cursor_or q lent.cursor) ≡ bank_of tg rs ds (cursor_or r lent.cursor))

-- ---- in a list of calls

-- the run that restore's answer and lists make: where it refuses, the caller goes on as before
abbrev pub goes_on : Result Held Refusal → (targets records delay : List Float) → Run → Run
goes_on (Ok h) tg rs ds r = record { bank = bank_of tg rs ds h.cursor; log = kept h.cursor ∷ r.log }
goes_on (Err e) tg rs ds r = record { bank = r.bank; log = refused_call (number_of e) ∷ r.log }

-- Restore does what the list of calls says of it, on any run.
abbrev pub RestoresInList : (file : List ℕ) → Bank → Type 0
RestoresInList file lent =
    (h : Result Held Refusal) (tg rs ds : List Float) → RestoreDoes file lent h tg rs ds
    → (s : Setup) (r : Run) → goes_on h tg rs ds r ≡ call (engine s) s.voices (call_restore file lent) r

-- What demand 3 asks of an accepted restore holds of every file that park wrote of the bank as it stands.
abbrev pub ParkedReturns : Setup → Run → Type 0
ParkedReturns s r =
    (list file : List ℕ) (a : Result ℕ Refusal) → ParkDoes s r.bank list a file → park_verdict s r.bank list ≡ fine
    → (lent : Bank) → Returned (engine s) s.voices (call_restore file lent) r

-- ---- proofs

pub parked_returns : (s : Setup) (r : Run) → ParkedReturns s r
parked_returns s r list file a d e lent = let h = d.holds e in ((h.setup, h.voices), h.bank)

-- a file that holds s and b is refused for the lists alone
lists_decide : (file : List ℕ) (s : Setup) (b lent : Bank) → Holds file (solo_of s) s.voices b
    → restore_verdict file lent ≡ store_check (engine s) s.voices lent
unfolding restore_verdict ◌then◌
lists_decide file s b lent h =
    (λ t. h.accepted t then store_check_of (h.setup t).channels (ring_len (h.setup t).rate) (h.voices t) lent)

setup_same : (file : List ℕ) (s : Setup) → solo_in file ≡ heard (solo_of s) → voices_in file ≡ s.voices → setup_in file ≡ heard_setup s
unfolding setup_in
setup_same file s e v = λ t. record {
  code = (e t).code;
  rate = (e t).rate;
  reference = (e t).reference;
  voices = v t;
  channels = (e t).channels;
  clean = (e t).clean;
  table = (e t).table;
  chord = (e t).chord;
}

held_fine : (v : Check) (file : List ℕ) (lent : Bank) → v ≡ fine → (held_by v file ≡ held_by fine file) × (restored_by v file lent ≡ bank_in file)
held_fine v file lent e = (ap (λ (x : Check). held_by x file) e, ap (λ (x : Check). restored_by x file lent) e)

held_is : (r : Result Held Refusal) (h : Held) → told r ≡ Ok h → r ≡ Ok h
unfolding told
held_is (Ok g) h e = cc
held_is (Err k) h e = cc

pub round_trip : (s : Setup) (b : Bank) → RoundTrip s b
round_trip s b list file a d e lent r tg rs ds q l =
    let h = d.holds e in
    let f = held_fine (restore_verdict file lent) file lent (lists_decide file s b lent h ∙ l) in
    let g : Held = record { setup = setup_in file; cursor = cursor_in file } in
    let v : r ≡ Ok g = held_is r g (q.answer ∙ f.0 ∙ (unfold held_by in refl)) in
    let same : setup_in file ≡ heard_setup s = setup_same file s h.setup h.voices in
    record {
      held = g;
      verdict = v;
      setup = same;
      heard_as = ap engine same ∙ heard_engine (solo_of s);
      bank = sym (ap (λ (x : Result Held Refusal). bank_of tg rs ds (cursor_or x lent.cursor)) v) ∙ q.lists ∙ f.1 ∙ h.bank;
    }

-- refusals that have one number are one, so that an answer is known by what it tells
abbrev numbered : ℕ → Refusal
numbered k =
    get_or
    (Rate
    ∷ Rate
    ∷ Tuning
    ∷ Polyphony
    ∷ Layout
    ∷ Structure
    ∷ Store
    ∷ Voice
    ∷ Knob
    ∷ Frames
    ∷ Buffer
    ∷ Rate
    ∷ Damaged
    ∷ Blocks
    ∷ Scratch
    ∷ Unparkable
    ∷ Chord
    ∷ [])
    k Rate

numbered_again : (e : Refusal) → numbered (number_of e) ≡ e
numbered_again Rate = refl
numbered_again Tuning = refl
numbered_again Polyphony = refl
numbered_again Layout = refl
numbered_again Structure = refl
numbered_again Store = refl
numbered_again Voice = refl
numbered_again Knob = refl
numbered_again Frames = refl
numbered_again Buffer = refl
numbered_again Damaged = refl
numbered_again Blocks = refl
numbered_again Scratch = refl
numbered_again Unparkable = refl
numbered_again Chord = refl

abbrev refusal_of : Result Held ℕ → Result Held Refusal
refusal_of (Ok h) = Ok h
refusal_of (Err k) = Err (numbered k)

told_again : (r : Result Held Refusal) → refusal_of (told r) ≡ r
unfolding told
told_again (Ok h) = refl
told_again (Err e) = ap (λ (x : Refusal). Err x) (numbered_again e)

one_told : (q r : Result Held Refusal) → told q ≡ told r → q ≡ r
one_told q r e = sym (told_again q) ∙ ap refusal_of e ∙ told_again r

pub same_restored : (file other : List ℕ) → SameRestored file other
same_restored file other sh lent r q tg rs ds tg' rs' ds' d p =
    let o = any_order file other sh lent in
    let g = go (restore_verdict file lent) refl in (
      one_told q r (p.answer ∙ ap (λ (v : Check). held_by v other) o.0 ∙ g.0 ∙ sym d.answer),
      p.lists ∙ ap (λ (v : Check). restored_by v other lent) o.0 ∙ g.1 ∙ sym d.lists,
    )
  where
    go : (v : Check) → restore_verdict file lent ≡ v → (held_by v other ≡ held_by v file) × (restored_by v other lent ≡ restored_by v file lent)
    go fine e =
        let f = (any_order file other sh lent).1 e in (
          unfold held_by setup_in cursor_in bank_in in (λ t. Ok (record {
            setup = record {
              code = (f.setup t).code;
              rate = (f.setup t).rate;
              reference = (f.setup t).reference;
              voices = f.voices t;
              channels = (f.setup t).channels;
              clean = (f.setup t).clean;
              table = (f.setup t).table;
              chord = (f.setup t).chord;
            };
            cursor = (f.bank t).cursor;
          })),
          f.bank,
        )
    go (refused k) e = (unfold held_by in refl, refl)

told_apart : (e : Refusal) (file : List ℕ) → told (Err e) ≡ held_by fine file → ◌≡◌ {A = ℕ} 0 1
unfolding told held_by
told_apart e file h = cc

fine_apart : (h : Held) (k : ℕ) (file : List ℕ) → told (Ok h) ≡ held_by (refused k) file → ◌≡◌ {A = ℕ} 0 1
unfolding told held_by
fine_apart h k file e = cc

told_number : (e : Refusal) (k : ℕ) (file : List ℕ) → told (Err e) ≡ held_by (refused k) file → number_of e ≡ k
unfolding told held_by
told_number e k file h = cc

pub restores_in_list : (file : List ℕ) (lent : Bank) → RestoresInList file lent
restores_in_list file lent h tg rs ds d s r = go h (restore_verdict file lent) d.answer d.lists
  where
    go : (h : Result Held Refusal) (v : Check) → told h ≡ held_by v file → bank_of tg rs ds (cursor_or h lent.cursor) ≡ restored_by v file lent
        → goes_on h tg rs ds r ≡ perform (engine s) s.voices v (call_restore file lent) r
    go (Ok g) fine e l = λ t. record { bank = l t; log = kept (l t).cursor ∷ r.log }
    go (Ok g) (refused k) e l = let z = fine_apart g k file e in absurd (omega arith)
    go (Err k) fine e l = let z = told_apart k file e in absurd (omega arith)
    go (Err k) (refused j) e l = let y = told_number k j file e in λ t. record { bank = r.bank; log = refused_call (y t) ∷ r.log }
