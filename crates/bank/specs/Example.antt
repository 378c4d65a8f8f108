-- The statements of Demand3 speak of something: a setup whose open is accepted, a list of calls with refused ones in it, and a
-- feed that computes to what one expects. By computation; no tick is opened. Assumes nothing.
use Rattle.std.specs.Prelude.{◌≡◌, refl, ℕ, ◌*◌, Bool, true, false, List, [], ◌∷◌, ◌++◌, Float, replicate}
use Rattle.std.proofs.Math.Option.{some}
use Rattle.std.specs.Float.{nan, binary32}
use Rattle.std.specs.Float.Ieee.{of_bits, is_nan, to_bits, lt, round, size, mul, to_unsigned}
use Rattle.lane.specs.Floats.{whole, zero}
use Rattle.lane.specs.Lane.{clamp_of}
use Rattle.lines.specs.Lines.{rate_refused, next_power, ring_len}
use Rattle.filter.specs.declared.VoiceParams.{VoiceParams}
use Rattle.filter.specs.Voice.{default_params, unit_or_nan, targets_of, morph_of, morph_targets_of, voice_targets, nan_knob}
use Rattle.pole_zero.specs.declared.Table.{Table}
use Rattle.parts.specs.Parts.{tab, flat, piece, patch}
use Rattle.text.specs.Text.{bits_of}
use Rattle.places.specs.Places.{count, every, sound_file, is_once}
use Rattle.setups.specs.Setup.{reference_refused, codes_check_of, offset_refused, chord_refused, setup_check_of}
use Rattle.setups.specs.Parked.{no_chord, file_verdict, restore_verdict}
use Rattle.voices.specs.Calls.{is_clear, fine, refused, check, ◌then◌, Bank, Block, Call, call_set, call_start, call_block}
use Rattle.voices.specs.Calls.{call_park, call_restore, call_audition, set_of, start_slot, start_of, open_of, open_verdict, verdict, opened}
use Rattle.voices.specs.Feed.{Frame, event_set, event_start, event_frame, feed}
use Rattle.checks.specs.declared.Setup.{Setup}
use Rattle.checks.specs.Setup.{engine}

-- two mono voices of DjSweep at a rate of 8,000, with any table
setup : Table → Setup
setup t = record { code = 2; rate = whole 8000; reference = whole 440; voices = 2; channels = 1; clean = false; table = t; chord = no_chord }

-- the same of the chord comb with so many teeth
comb : (count : ℕ) → Table → Setup
comb count t = record {
  code = 13;
  rate = whole 8000;
  reference = whole 440;
  voices = 2;
  channels = 1;
  clean = false;
  table = t;
  chord = record { count = count; offsets = replicate 8 zero };
}

-- any numbers in a table of two axes, or of three
table : (three : Bool) (sections : List Float) → Table
table three sections = record { active = 3; three = three; sections = sections; gain = nan }

-- lists for them, with any content but z, which is +0
lists : Bank
lists = record {
  targets = flat (λ v. replicate 10 nan ++ zero ∷ []) 2;
  records = flat (λ s. replicate 31 nan ++ zero ∷ []) 2;
  delay = replicate (2 * 1024) nan;
  cursor = 7;
}

open_is_accepted : (t : Table) → open_verdict (engine (setup t)) 2 lists ≡ fine
unfolding setup lists setup_check_of codes_check_of chord_refused reference_refused rate_refused ring_len next_power check ◌then◌ is_nan lt round size mul to_unsigned
open_is_accepted t = refl

-- the float of each bit pattern, to tell numbers apart
abbrev number : ℕ → Float
number k = of_bits binary32 k

block : Block
block = record { frames = 2; pitch = tab number 4; steered = true; x = tab number 4; y = replicate 4 nan; audio = tab number 4; counts = 8 ∷ 9 ∷ [] }

-- no scratch
no_lists : Bank
no_lists = record { targets = []; records = []; delay = []; cursor = 0 }

calls : List (Call VoiceParams)
calls =
    call_start 2
    ∷ call_set 0 default_params
    ∷ call_park 12288
    ∷ call_restore [] lists
    ∷ call_set 1 default_params
    ∷ call_start 1
    ∷ call_audition block lists
    ∷ call_audition block no_lists
    ∷ call_block block
    ∷ []

voice_is_refused : (t : Table) → verdict (engine (setup t)) 2 (call_start 2) lists ≡ refused 7
unfolding setup lists setup_check_of codes_check_of chord_refused reference_refused rate_refused ring_len next_power check ◌then◌ is_nan lt round size mul to_unsigned
voice_is_refused t = refl

-- 24 blocks: two of the setup, two of targets, two of records, nine of each ring
park_is_accepted : (xs : List Float) → verdict (engine (setup (table false xs))) 2 (call_park 12288) lists ≡ fine
unfolding setup table lists setup_check_of codes_check_of chord_refused reference_refused rate_refused ring_len next_power check ◌then◌ is_clear every bits_of is_nan
    to_bits lt round size mul to_unsigned
park_is_accepted xs = refl

axes_are_refused : (xs : List Float) → verdict (engine (setup (table true xs))) 2 (call_park 12288) lists ≡ refused 15
unfolding setup table lists setup_check_of codes_check_of chord_refused reference_refused rate_refused ring_len next_power check ◌then◌ is_nan lt round
    size mul to_unsigned
axes_are_refused xs = refl

-- 16 comes before 6, and 15 is parking's (C-18)
teeth_are_refused : (t : Table) → open_verdict (engine (comb 9 t)) 2 no_lists ≡ refused 16
unfolding comb no_lists setup_check_of codes_check_of offset_refused chord_refused reference_refused rate_refused check ◌then◌ is_nan lt round
teeth_are_refused t = refl

comb_is_not_parked : (xs : List Float) → verdict (engine (comb 8 (table false xs))) 2 (call_park 12288) lists ≡ refused 15
unfolding comb table lists setup_check_of codes_check_of offset_refused chord_refused reference_refused rate_refused ring_len next_power check ◌then◌ is_nan lt round
    size mul to_unsigned
comb_is_not_parked xs = refl

audition_is_accepted : (t : Table) → verdict (engine (setup t)) 2 (call_audition block lists) lists ≡ fine
unfolding setup lists block setup_check_of codes_check_of chord_refused reference_refused rate_refused ring_len next_power check ◌then◌ is_nan lt round
    size mul to_unsigned
audition_is_accepted t = refl

scratch_is_refused : (t : Table) → verdict (engine (setup t)) 2 (call_audition block no_lists) lists ≡ refused 14
unfolding setup lists no_lists block setup_check_of codes_check_of chord_refused reference_refused rate_refused ring_len next_power check ◌then◌ is_nan lt round
    size mul to_unsigned
scratch_is_refused t = refl

empty_is_refused : (t : Table) → verdict (engine (setup t)) 2 (call_restore [] lists) lists ≡ refused 13
unfolding restore_verdict file_verdict sound_file every is_once count check ◌then◌
empty_is_refused t = refl

frame0 : Frame
frame0 = record { pitch = number 1; inputs = number 1 ∷ []; steering = some (number 1, nan) }

frame1 : Frame
frame1 = record { pitch = number 3; inputs = number 3 ∷ []; steering = some (number 3, nan) }

-- the refused calls, the other voice's set, the park and the audition add nothing
feed_computes : (xs : List Float)
    → feed (engine (setup (table false xs))) 2 1 calls (opened (engine (setup (table false xs))) 2 lists)
    ≡ event_set default_params ∷ event_start ∷ event_frame frame0 ∷ event_frame frame1 ∷ []
unfolding setup table lists setup_check_of codes_check_of chord_refused reference_refused rate_refused ring_len next_power check ◌then◌ is_nan lt round
    size mul to_unsigned
    is_clear bits_of to_bits morph_of unit_or_nan clamp_of
    restore_verdict file_verdict sound_file every is_once count block no_lists calls frame0 frame1 open_of start_of start_slot set_of piece patch
    nan_knob default_params voice_targets targets_of morph_targets_of
feed_computes xs = refl
