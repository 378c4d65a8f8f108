-- The engine of a setup: what the layers below make of the setup without its polyphony (document 01, 'A bank is opened'; document 02, C-12, C-17, C-18).
-- Definitions only.
use Rattle.std.specs.Prelude.{◌≡◌, ℕ, not, ◌&&◌, List, ◌==◌, Float}
use Rattle.lines.specs.Lines.{ring_len}
use Rattle.filter.specs.declared.VoiceParams.{VoiceParams}
use Rattle.filter.specs.Voice.{default_params, voice_targets, nan_knob}
use Rattle.extended.specs.Extended.{lines_mark}
use Rattle.run.specs.Run.{constants_of, sign_of, tick_with}
use Rattle.setups.specs.Setup.{SoloSetup, heard, setup_check_of}
use Rattle.setups.specs.Parked.{solo_in, voices_in, bank_in, restore_verdict}
use Rattle.voices.specs.Calls.{Steering, Tick, Engine}

-- points 1 to 5 of 'One block goes through', for one frame of one channel
unfoldable pub tick_of : SoloSetup → (channel : ℕ) (targets : List Float) (cursor : ℕ) (pitch input : Float)
    → Steering → (rec ring : List Float) → Tick
tick_of s c tg cur pitch input st rec ring =
    tick_with s.code (constants_of s.rate s.reference s.clean s.chord) s.table (ring_len s.rate) (sign_of s.channels c)
    tg cur pitch input st rec ring

-- refusal 8 names a NaN knob; 15 a third axis (C-17) and code 13 (C-18)
abbrev pub engine_of : SoloSetup → Engine
engine_of s = record {
  S = VoiceParams;
  defaults = default_params;
  knobs = λ p. not (nan_knob p);
  targets_of = voice_targets;
  channels = s.channels;
  ring_length = ring_len s.rate;
  lines = lines_mark s.code;
  setup_check = setup_check_of s;
  parkable = not s.table.three && not (s.code == 13);
  restore_verdict = restore_verdict;
  bank_in = bank_in;
  OwnSetup = λ n file. (solo_in file ≡ heard s) × (voices_in file ≡ n);
  tick = tick_of s;
}
