-- The bank's calls on flat lists (document 01, 'A bank is opened' and 'One block goes through'; document 02, C-11, C-12, C-15 to C-18). Definitions only.
-- What the layers below make of a setup (its checks, targets_of, one tick) is an `Engine`; polyphony is the number n.
use Rattle.std.specs.Prelude.{◌≡◌, ℕ, ◌+◌, ◌*◌, ◌%◌, ◌^◌, ◌<◌, Bool, true, false, cond, ◌&&◌, List, [], ◌∷◌, ◌++◌, Float, ltb, leb, eqb, length, set, take, replicate}
use Rattle.std.proofs.Math.Option.{Option, none, some}
use Rattle.lane.specs.Floats.{◌‼◌, zero}
use Rattle.parts.specs.Parts.{upto, piece, patch}
use Rattle.text.specs.Text.{bits_of}
use Rattle.blocks.specs.Blocks.{parts_of, total}
use Rattle.places.specs.Places.{every}

-- ---- widths of the lent lists (A bank is opened)

-- numbers that a slot's record begins with: 8 smoothed and 2 morph
abbrev pub smoothed_width : ℕ
smoothed_width = 10

-- numbers a voice in targets: 8 of targets_of, 2 of morph_targets_of, and z (C-17)
abbrev pub targets_width : ℕ
targets_width = smoothed_width + 1

-- numbers of state a slot
abbrev pub states_width : ℕ
states_width = 20

-- numbers a slot in records: 8 smoothed and 2 morph, the states, the peak (C-15) and the smoothed z (C-17)
abbrev pub record_width : ℕ
record_width = smoothed_width + states_width + 2

-- where z stands (C-17): a voice's eleventh target, a record's thirty-second number
abbrev pub target_z : ℕ
target_z = smoothed_width

abbrev pub record_z : ℕ
record_z = smoothed_width + states_width + 1

-- frames of a block
abbrev pub least_frames : ℕ
least_frames = 1

abbrev pub most_frames : ℕ
most_frames = 4096

-- ---- checks

pub data Check : Type 0 where
  fine : Check
  refused : ℕ → Check

-- refusal k unless b holds
unfoldable pub check : Bool → ℕ → Check
check true k = fine
check false k = refused k

infixr 30 ◌then◌
-- checks in order: the first that fails gives its number
unfoldable pub ◌then◌ : Check → Check → Check
fine then c = c
refused k then c = refused k

-- ---- the lists

-- the lent lists, by voice or slot, and the cursor
pub record Bank : Type 0 where
  pub targets : List Float
  pub records : List Float
  pub delay : List Float
  pub cursor : ℕ

-- the lists of n voices are as long as the widths, channels and ring length ask
abbrev pub are_long : (channels ring_length n : ℕ) → Bank → Bool
are_long channels ring_length n b =
    eqb (length b.targets) (n * targets_width)
    && eqb (length b.records) (channels * n * record_width)
    && eqb (length b.delay) (channels * n * ring_length)

-- the number at one place of each of so many rows has no bit set: it is +0, not -0
unfoldable pub is_clear : (width place rows : ℕ) → List Float → Bool
is_clear width place rows xs = every (λ i. eqb (bits_of (xs ‼ (i * width + place))) 0) rows

-- so of z (C-17), of every voice's targets and of every slot's record
abbrev pub is_flat : (channels n : ℕ) → Bank → Bool
is_flat channels n b = is_clear targets_width target_z n b.targets && is_clear record_width record_z (channels * n) b.records

-- 6
abbrev pub store_check_of : (channels ring_length n : ℕ) → Bank → Check
store_check_of channels ring_length n b = check (are_long channels ring_length n b) 6

-- ---- the engine: the setup without its polyphony, as the layers below read it

-- x and y of a steered frame; none where the block is unsteered
abbrev pub Steering : Type 0
Steering = Option (Float × Float)

-- what one tick of a slot leaves: its record, its ring and the sample, and how often it judged a ratio greater than its cap (C-11)
pub record Tick : Type 0 where
  pub rec : List Float
  pub ring : List Float
  pub out : Float
  pub over : ℕ

pub record Engine : Type 1 where
  -- a voice's settings (VoiceParams), their defaults, whether no knob is NaN, and their eleven targets
  pub S : Type 0
  pub defaults : S
  pub knobs : S → Bool
  pub targets_of : S → List Float
  pub channels : ℕ
  -- cells in a slot's ring, and the structure's mark LINES
  pub ring_length : ℕ
  pub lines : Bool
  -- refusals 1 to 5 of the setup with n voices, then 16 (C-18)
  pub setup_check : (n : ℕ) → Check
  -- whether a parked file has words for the setup: its table has two axes (C-17), and it has no chord (C-18)
  pub parkable : Bool
  -- of a parked file (C-12): what the reader's checks come to with the lists that it is lent, the bank that it holds, and that its setup is this one,
  -- as it is heard (C-17, C-18), with n voices
  pub restore_verdict : (file : List ℕ) (lent : Bank) → Check
  pub bank_in : (file : List ℕ) → Bank
  pub OwnSetup : (n : ℕ) (file : List ℕ) → Type 0
  -- points 1 to 5 of 'One block goes through', for one frame of one channel
  pub tick : (channel : ℕ) (targets : List Float) (cursor : ℕ) (pitch input : Float) (steering : Steering) (rec ring : List Float) → Tick

-- all that demand 3 asks of an engine: targets, records and rings keep their lengths
pub record Laws (E : Engine) : Type 0 where
  pub targets_length : (s : E.S) → length (E.targets_of s) ≡ targets_width
  pub rec_length : (c : ℕ) (tg : List Float) (cur : ℕ) (p i : Float) (st : Steering) (r d : List Float)
      → c < E.channels → length tg ≡ targets_width → length r ≡ record_width → length d ≡ E.ring_length
      → length (E.tick c tg cur p i st r d).rec ≡ record_width
  pub ring_length_lem : (c : ℕ) (tg : List Float) (cur : ℕ) (p i : Float) (st : Steering) (r d : List Float)
      → c < E.channels → length tg ≡ targets_width → length r ≡ record_width → length d ≡ E.ring_length
      → length (E.tick c tg cur p i st r d).ring ≡ E.ring_length

-- ---- what the calls take, leave and answer

-- what block is given beside the bank; `counts` is C-11's list, one number a slot
pub record Block : Type 0 where
  pub frames : ℕ
  pub pitch : List Float
  pub steered : Bool
  pub x : List Float
  pub y : List Float
  pub audio : List Float
  pub counts : List ℕ

pub data Call (S : Type 0) : Type 0 where
  call_set : (voice : ℕ) → S → Call S
  call_start : (voice : ℕ) → Call S
  call_block : Block → Call S
  -- C-12: park is lent a list to write to, restore a file and lists, which may hold anything
  call_park : (written : ℕ) → Call S
  call_restore : (file : List ℕ) (lent : Bank) → Call S
  -- C-16: audition is lent what block is, and scratch lists, which may hold anything
  call_audition : Block → (scratch : Bank) → Call S

-- a refusal's number; of set, start and park the cursor they were given; of restore the file's; of block the new cursor and the frames
-- rendered, here with the audio and the counts that it left; of audition (C-16) the same, the cursor and the lists being the scratch's
pub data Answer : Type 0 where
  refused_call : ℕ → Answer
  kept : (cursor : ℕ) → Answer
  rendered : (cursor frames : ℕ) → (audio : List Float) → (counts : List ℕ) → Answer
  auditioned : (scratch : Bank) → (frames : ℕ) → (audio : List Float) → (counts : List ℕ) → Answer

-- a bank and its answers so far, the newest first
pub record Run : Type 0 where
  pub bank : Bank
  pub log : List Answer

-- while a block goes on: the lists that it writes; and the same with one slot's record and count in hand
pub record BlockRun : Type 0 where
  pub records : List Float
  pub delay : List Float
  pub audio : List Float
  pub counts : List ℕ

pub record SlotRun : Type 0 where
  pub rec : List Float
  pub delay : List Float
  pub audio : List Float
  pub count : ℕ

module _ (E : Engine) where
  open E use {S, defaults, knobs, targets_of, channels, ring_length, lines, setup_check, parkable, restore_verdict, bank_in, OwnSetup, tick}

  -- the cursor k frames on: wraps at the machine word if LINES, else stays
  unfoldable pub cursor_after : ℕ → ℕ → ℕ
  cursor_after cur k = cond lines ((cur + k) % 2 ^ 64) cur

  -- a slot started: targets as smoothed and morph numbers, states +0, the peak cleared to +0 (C-15), z copied too (C-17)
  abbrev pub start_record : List Float → List Float
  start_record tg = take smoothed_width tg ++ replicate states_width zero ++ zero ∷ tg ‼ target_z ∷ []

  abbrev pub start_ring : List Float
  start_ring = replicate ring_length zero

  module _ (n : ℕ) where
    -- ---- places in the flat lists: the stride is n

    abbrev pub slot : (channel voice : ℕ) → ℕ
    slot c v = c * n + v

    abbrev pub pitch_index : (frame voice : ℕ) → ℕ
    pitch_index k v = k * n + v

    abbrev pub audio_index : (frame channel voice : ℕ) → ℕ
    audio_index k c v = k * (channels * n) + slot c v

    -- ---- the refusals of the calls, in the order of the table (A bank is opened); 1 to 5 and 16 are `setup_check`

    -- 6, of set, which takes targets alone
    abbrev pub targets_check : List Float → Check
    targets_check tg = check (eqb (length tg) (n * targets_width)) 6

    -- 6, of open, start and block
    abbrev pub store_check : Bank → Check
    store_check b = store_check_of channels ring_length n b

    -- 6, of park, which measures the list to be written too: exactly as long as the blocks (C-12)
    abbrev pub file_length : ℕ
    file_length = total n (channels * n) (parts_of ring_length) * 512

    abbrev pub file_check : (written : ℕ) → Check
    file_check written = check (eqb written file_length) 6

    -- 7
    abbrev pub voice_check : ℕ → Check
    voice_check v = check (ltb v n) 7

    -- 8
    abbrev pub knob_check : S → Check
    knob_check s = check (knobs s) 8

    -- 9
    abbrev pub frames_check : Block → Check
    frames_check q = check (leb least_frames q.frames && leb q.frames most_frames) 9

    -- 10: a steered block has x and y of pitch's length, an unsteered one empty x and y; counts has one number a slot (C-11)
    abbrev pub steering_length : Block → ℕ
    steering_length q = cond q.steered (q.frames * n) 0

    abbrev pub buffer_check : Block → Check
    buffer_check q =
        check
        (eqb (length q.pitch) (q.frames * n)
        && eqb (length q.x) (steering_length q)
        && eqb (length q.y) (steering_length q)
        && eqb (length q.audio) (q.frames * (channels * n))
        && eqb (length q.counts) (channels * n))
        10

    -- 14, of audition: a scratch list of the wrong length (C-16)
    abbrev pub scratch_check : Bank → Check
    scratch_check scratch = check (are_long channels ring_length n scratch) 14

    -- 15, of park: a three-axis table, or a z number whose bits are not all zero (C-17), or code 13 (C-18)
    abbrev pub words_check : Bank → Check
    words_check b = check (parkable && is_flat channels n b) 15

    -- each call makes the checks whose values it takes, in that order; audition and park have one of their own after them
    abbrev pub open_verdict : Bank → Check
    open_verdict b = setup_check n then store_check b

    abbrev pub block_verdict : Block → Bank → Check
    block_verdict q b = setup_check n then store_check b then frames_check q then buffer_check q

    abbrev pub verdict : Call S → Bank → Check
    verdict (call_set v s) b = setup_check n then targets_check b.targets then voice_check v then knob_check s
    verdict (call_start v) b = setup_check n then store_check b then voice_check v
    verdict (call_block q) b = block_verdict q b
    verdict (call_park written) b = setup_check n then store_check b then file_check written then words_check b
    verdict (call_restore file lent) b = restore_verdict file lent
    verdict (call_audition q scratch) b = block_verdict q b then scratch_check scratch

    -- ---- set writes one voice's targets

    unfoldable pub set_of : ℕ → S → Bank → Bank
    set_of v s b = record { targets = patch targets_width v (targets_of s) b.targets; records = b.records; delay = b.delay; cursor = b.cursor }

    -- ---- start copies a voice's targets to its records, zeroes its states and rings and clears its peaks, on every channel

    unfoldable pub start_slot : (voice channel : ℕ) → Bank → Bank
    start_slot v c b = record {
      targets = b.targets;
      records = patch record_width (slot c v) (start_record (piece targets_width v b.targets)) b.records;
      delay = patch ring_length (slot c v) start_ring b.delay;
      cursor = b.cursor;
    }

    unfoldable pub start_of : ℕ → Bank → Bank
    start_of v b = upto (start_slot v) channels b

    -- ---- open: the lent lists with any content, every voice set to the defaults and started, cursor 0

    unfoldable pub open_of : Bank → Bank
    open_of b = upto (λ v x. start_of v (set_of v defaults x)) n (record { targets = b.targets; records = b.records; delay = b.delay; cursor = 0 })

    -- ---- block (One block goes through): for each channel and voice, frame by frame

    abbrev pub steering_at : Block → (frame voice : ℕ) → Steering
    steering_at q k v = cond q.steered (some (q.x ‼ pitch_index k v, q.y ‼ pitch_index k v)) none

    -- the tick of frame k, channel c and voice v, with the voice's targets tg and the cursor before the block
    abbrev pub tick_at : Block → (tg : List Float) (cursor c v k : ℕ) (audio rec ring : List Float) → Tick
    tick_at q tg cur c v k audio r d = tick c tg (cursor_after cur k) (q.pitch ‼ pitch_index k v) (audio ‼ audio_index k c v) (steering_at q k v) r d

    -- what it leaves: the record in hand, the slot's ring and the frame's sample, and the count with this tick's
    unfoldable pub frame_of : Block → (tg : List Float) (cursor c v k : ℕ) → SlotRun → SlotRun
    frame_of q tg cur c v k w =
        let s = slot c v in
        let t = tick_at q tg cur c v k w.audio w.rec (piece ring_length s w.delay) in
        record {
          rec = t.rec;
          delay = patch ring_length s t.ring w.delay;
          audio = set w.audio (audio_index k c v) t.out;
          count = w.count + t.over;
        }

    -- the first k frames of a slot, whose count begins at 0
    unfoldable pub frames_of : Block → (tg : List Float) (cursor c v k : ℕ) → BlockRun → SlotRun
    frames_of q tg cur c v k w =
        upto (frame_of q tg cur c v) k
        (record { rec = piece record_width (slot c v) w.records; delay = w.delay; audio = w.audio; count = 0 })

    -- the slot's record and count are written
    unfoldable pub slot_of : Block → (tg : List Float) (cursor c v : ℕ) → BlockRun → BlockRun
    slot_of q tg cur c v w =
        let l = frames_of q tg cur c v q.frames w in
        record {
          records = patch record_width (slot c v) l.rec w.records;
          delay = l.delay;
          audio = l.audio;
          counts = set w.counts (slot c v) l.count;
        }

    unfoldable pub block_of : Block → Bank → BlockRun
    block_of q b =
        upto (λ c. upto (λ v. slot_of q (piece targets_width v b.targets) b.cursor c v) n) channels
        (record { records = b.records; delay = b.delay; audio = q.audio; counts = q.counts })

    -- the bank that it leaves, with the new cursor
    abbrev pub after_block : Block → Bank → Bank
    after_block q b = record {
      targets = b.targets;
      records = (block_of q b).records;
      delay = (block_of q b).delay;
      cursor = cursor_after b.cursor q.frames;
    }

    -- ---- the calls, whole: what they leave and answer

    abbrev pub accepted : Call S → Run → Run
    accepted (call_set v s) r = record { bank = set_of v s r.bank; log = kept r.bank.cursor ∷ r.log }
    accepted (call_start v) r = record { bank = start_of v r.bank; log = kept r.bank.cursor ∷ r.log }
    accepted (call_block q) r =
        let w = block_of q r.bank in
        let b = after_block q r.bank in
        record { bank = b; log = rendered b.cursor q.frames w.audio w.counts ∷ r.log }
    accepted (call_park written) r = record { bank = r.bank; log = kept r.bank.cursor ∷ r.log }
    accepted (call_restore file lent) r = record { bank = bank_in file; log = kept (bank_in file).cursor ∷ r.log }
    -- C-16: the block on a copy, which the scratch holds afterwards; the bank stays
    accepted (call_audition q scratch) r =
        let w = block_of q r.bank in
        record { bank = r.bank; log = auditioned (after_block q r.bank) q.frames w.audio w.counts ∷ r.log }

    -- a refusal answers its number alone; lists and cursor keep their values
    abbrev pub perform : Check → Call S → Run → Run
    perform fine x r = accepted x r
    perform (refused k) x r = record { bank = r.bank; log = refused_call k ∷ r.log }

    abbrev pub call : Call S → Run → Run
    call x r = perform (verdict x r.bank) x r

    -- a list of calls, each given lists and cursor as the last one left them
    abbrev pub run : List (Call S) → Run → Run
    run [] r = r
    run (x ∷ xs) r = run xs (call x r)

    -- every restore that is accepted is "of a bank just parked" (C-12): its file holds this setup and the bank as it stands
    abbrev pub Returned : Call S → Run → Type 0
    Returned (call_set v s) r = Unit {0}
    Returned (call_start v) r = Unit {0}
    Returned (call_block q) r = Unit {0}
    Returned (call_park written) r = Unit {0}
    Returned (call_restore file lent) r = OwnSetup n file × (bank_in file ≡ r.bank)
    Returned (call_audition q scratch) r = Unit {0}

    abbrev pub Returning : List (Call S) → Run → Type 0
    Returning [] r = Unit {0}
    Returning (x ∷ xs) r = (verdict x r.bank ≡ fine → Returned x r) × Returning xs (call x r)

    -- a bank fresh from an accepted open
    abbrev pub opened : Bank → Run
    opened b = record { bank = open_of b; log = [] }
