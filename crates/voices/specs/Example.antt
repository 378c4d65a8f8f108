-- A small made-up engine: engines with their laws exist, open is accepted, a list with a refused call has a feed that computes,
-- and one voice stands beside its plain voice with all numbers worked out. By computation, no float opened but z. Assumes nothing.
use Rattle.std.specs.Prelude.{◌≡◌, refl, ℕ, ◌+◌, ◌*◌, ◌%◌, true, false, List, [], ◌∷◌, ◌++◌, Float, ltb, eqb, length, get_or, set, replicate}
use Rattle.std.proofs.Common.{◌∙◌, length-set}
use Rattle.std.proofs.Math.Option.{none}
use Rattle.std.specs.Float.{nan, binary32}
use Rattle.std.specs.Float.Ieee.{add, of_bits, is_nan, to_bits, round}
use Rattle.lane.specs.Floats.{zero}
use Rattle.parts.specs.Parts.{tab, flat, piece, patch}
use Rattle.text.specs.Text.{bits_of}
use Rattle.places.specs.Places.{every}
use Rattle.voices.specs.Calls.{is_clear, smoothed_width, targets_width, record_width}
use Rattle.voices.specs.Calls.{fine, refused, check, ◌then◌, Engine, Laws, Bank, Block, Call, call_set, call_start}
use Rattle.voices.specs.Calls.{call_block, cursor_after, set_of, start_slot, start_of, open_of, frame_of, frames_of, slot_of, block_of, slot}
use Rattle.voices.specs.Calls.{open_verdict, start_record}
use Rattle.voices.specs.Calls.{verdict, Run, run, opened, call_park, call_restore, call_audition, file_length, Returning}
use Rattle.voices.specs.Feed.{Frame, Event, event_start, event_frame, started, fresh, tick_channel, advance, voice_of, feed, samples_of, count_of}

-- two channels, rings of four; a file of one byte holds three voices at the defaults, started; a tick sums the pitches in the record, adds to its
-- input that of three frames ago and counts by channel and cursor
unfoldable pub example_engine : Engine
example_engine = record {
  S = Float;
  defaults = nan;
  knobs = λ s. true;
  targets_of = λ s. replicate smoothed_width s ++ zero ∷ [];
  channels = 2;
  ring_length = 4;
  lines = true;
  setup_check = λ n. check (ltb n 17) 3;
  parkable = true;
  restore_verdict = λ f l. check (eqb (length f) 1) 12;
  bank_in = λ f. record {
    targets = flat (λ k. replicate 10 nan ++ zero ∷ []) 3;
    records = flat (λ k. replicate 10 nan ++ replicate 22 zero) 6;
    delay = replicate 24 zero;
    cursor = 0;
  };
  OwnSetup = λ n f. Unit {0};
  tick = λ c tg cur p i st r d. record {
    rec = set r 0 (add binary32 (get_or r 0 nan) p);
    ring = set d (cur % 4) i;
    out = add binary32 i (get_or d ((cur + 1) % 4) nan);
    over = c + 1 + cur;
  };
}

pub example_laws : Laws example_engine
unfolding example_engine
example_laws = record {
  targets_length = λ s. refl;
  rec_length = λ c tg cur p i st r d hc ht hr hd. length-set r 0 _ ∙ hr;
  ring_length_lem = λ c tg cur p i st r d hc ht hr hd. length-set d (cur % 4) _ ∙ hd;
}

-- lists for three voices, with any content
lists : Bank
lists = record { targets = replicate (3 * targets_width) nan; records = replicate (6 * record_width) nan; delay = replicate (6 * 4) nan; cursor = 7 }

open_is_accepted : open_verdict example_engine 3 lists ≡ fine
unfolding example_engine check ◌then◌ lists
open_is_accepted = refl

-- the float of each bit pattern, to tell numbers apart
abbrev number : ℕ → Float
number k = of_bits binary32 k

-- start copies z with the other targets
start_copies : start_record example_engine (tab number 11) ≡ tab number 10 ++ replicate 21 zero ++ number 10 ∷ []
unfolding example_engine
start_copies = refl

block : Block
block = record { frames = 2; pitch = tab number 6; steered = false; x = []; y = []; audio = tab number 12; counts = tab (λ k. 90 + k) 6 }

-- no scratch
no_lists : Bank
no_lists = record { targets = []; records = []; delay = []; cursor = 0 }

calls : List (Call example_engine.S)
unfolding example_engine
calls =
    call_start 3
    ∷ call_set 0 nan
    ∷ call_park (file_length example_engine 3)
    ∷ call_restore (1 ∷ []) lists
    ∷ call_restore [] lists
    ∷ call_audition block lists
    ∷ call_block block
    ∷ call_start 1
    ∷ call_audition block no_lists
    ∷ call_block block
    ∷ []

voice_is_refused : verdict example_engine 3 (call_start 3) lists ≡ refused 7
unfolding example_engine check ◌then◌ lists
voice_is_refused = refl

-- the restore that is accepted is of the bank as it stands, and the other one is refused
damaged_is_refused : verdict example_engine 3 (call_restore [] lists) lists ≡ refused 12
unfolding example_engine check
damaged_is_refused = refl

-- z of the bank that opened is +0, so that park is accepted; of lists whose z is NaN it is refused
park_is_accepted : verdict example_engine 3 (call_park (file_length example_engine 3)) (open_of example_engine 3 lists) ≡ fine
unfolding example_engine check ◌then◌ lists open_of start_of start_slot set_of piece patch is_clear every bits_of is_nan to_bits round
park_is_accepted = refl

z_is_refused : verdict example_engine 3 (call_park (file_length example_engine 3)) lists ≡ refused 15
unfolding example_engine check ◌then◌ lists is_clear every bits_of is_nan
z_is_refused = refl

-- of the auditions one is accepted, the other has no scratch
audition_is_accepted : verdict example_engine 3 (call_audition block lists) lists ≡ fine
unfolding example_engine check ◌then◌ lists block
audition_is_accepted = refl

scratch_is_refused : verdict example_engine 3 (call_audition block no_lists) lists ≡ refused 14
unfolding example_engine check ◌then◌ lists no_lists block
scratch_is_refused = refl

returning : Returning example_engine 3 calls (opened example_engine 3 lists)
unfolding example_engine check ◌then◌ lists no_lists block calls open_of start_of start_slot set_of block_of slot_of frames_of frame_of piece patch cursor_after
    is_clear every bits_of is_nan to_bits round
returning = (λ e. tt, (λ e. tt, (λ e. tt, (λ e. (tt, refl), (λ e. (tt, refl), (λ e. tt, (λ e. tt, (λ e. tt, (λ e. tt, (λ e. tt, tt))))))))))

after : Run
after = run example_engine 3 calls (opened example_engine 3 lists)

feed_of_one : List (Event example_engine.S)
feed_of_one = feed example_engine 3 1 calls (opened example_engine 3 lists)

frame0 : Frame
frame0 = record { pitch = number 1; inputs = number 1 ∷ number 4 ∷ []; steering = none }

frame1 : Frame
frame1 = record { pitch = number 4; inputs = number 7 ∷ number 10 ∷ []; steering = none }

feed_computes : feed_of_one ≡ event_frame frame0 ∷ event_frame frame1 ∷ event_start ∷ event_frame frame0 ∷ event_frame frame1 ∷ []
unfolding example_engine check ◌then◌ lists no_lists block calls feed_of_one frame0 frame1
    open_of start_of start_slot set_of block_of slot_of frames_of frame_of piece patch cursor_after is_clear every bits_of is_nan to_bits round
feed_computes = refl

-- voice 1 and the plain voice of its feed, on the second channel
side_by_side :
    (piece record_width (slot example_engine 3 1 1) after.bank.records ≡ ((voice_of example_engine feed_of_one).channel 1).rec)
    × (piece 4 (slot example_engine 3 1 1) after.bank.delay ≡ ((voice_of example_engine feed_of_one).channel 1).ring)
    × (samples_of example_engine 3 1 1 after.log ≡ ((voice_of example_engine feed_of_one).channel 1).samples)
    × (count_of example_engine 3 1 1 after.log ≡ 14)
    × (((voice_of example_engine feed_of_one).channel 1).count ≡ 14)
    × (after.bank.cursor ≡ (voice_of example_engine feed_of_one).cursor)
unfolding example_engine check ◌then◌ lists no_lists block calls after feed_of_one fresh started tick_channel advance
    open_of start_of start_slot set_of block_of slot_of frames_of frame_of piece patch cursor_after is_clear every bits_of is_nan to_bits round
side_by_side = (refl, refl, refl, refl, refl, refl)
