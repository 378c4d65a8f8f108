-- For the proofs: nothing here must be believed.
-- What demand 3 asks of an engine: targets, records and rings keep their lengths. From the laws of a tick. Assumes nothing.
use Rattle.std.specs.Prelude.{◌≡◌, length, refl}
use Rattle.filter.specs.declared.VoiceParams.{VoiceParams}
use Rattle.filter.specs.Voice.{targets_of, morph_targets_of, voice_targets}
use Rattle.run.specs.Laws.{rec_length, ring_length_lem}
use Rattle.voices.specs.Calls.{targets_width, Laws}
use Rattle.slots.specs.Engine.{tick_of, engine_of}
use Rattle.setups.specs.Setup.{SoloSetup}

pub targets_length : (p : VoiceParams) → length (voice_targets p) ≡ targets_width
unfolding voice_targets targets_of morph_targets_of
targets_length p = refl

pub engine_laws : (s : SoloSetup) → Laws (engine_of s)
unfolding tick_of
engine_laws s = record {
  targets_length = targets_length;
  rec_length = λ c tg cur p i st r d hc ht hr hd. rec_length _ _ _ _ _ _ _ _ _ _ r d hr;
  ring_length_lem = λ c tg cur p i st r d hc ht hr hd. ring_length_lem _ _ _ _ _ _ _ _ _ _ r d hd;
}
