-- For the proofs: nothing here must be believed.
-- C-17, C-18: setups of which the same is heard have one engine: no field of it tells ignored numbers. So a setup that came back from a parked file, which is
-- the setup as it is heard, goes on as the parked one. Assumes nothing.
use Rattle.std.specs.Prelude.{◌≡◌, ℕ, cond, not, ◌&&◌, List, replicate, ◌==◌, nat_lt, refl, Float}
use Rattle.std.proofs.Common.{sym, ap, ◌∙◌, arith, lt-ltb}
use Rattle.std.proofs.Math.Path.{subst}
use Rattle.std.specs.Float.{nan}
use Rattle.parts.specs.Laws.{tab_at}
use Rattle.lane.specs.Floats.{◌‼◌, zero}
use Rattle.lines.specs.Lines.{ring_len}
use Rattle.filter.specs.declared.VoiceParams.{VoiceParams}
use Rattle.filter.specs.Voice.{default_params, voice_targets, nan_knob}
use Rattle.extended.specs.declared.Chord.{Chord}
use Rattle.extended.specs.Extended.{lines_mark}
use Rattle.teeth.specs.Teeth.{teeth_of}
use Rattle.kernels.specs.Heard.{SameTeeth}
use Rattle.run.specs.Heard.{tick_heard, tick_chord}
use Rattle.setups.specs.Setup.{SoloSetup, heard_table, heard_chord, heard}
use Rattle.setups.specs.Parked.{solo_in, voices_in, bank_in, restore_verdict}
use Rattle.setups.proofs.Heard.{heard_twice, same_check}
use Rattle.voices.specs.Calls.{Steering}
use Rattle.slots.specs.Engine.{tick_of, engine_of}

-- code 13 has the teeth of the chord as it is heard
teeth_heard : (c : Chord) → SameTeeth (heard_chord 13 c) c
unfolding heard_chord teeth_of
teeth_heard c = record {
  teeth = refl;
  octaves = λ j l.
      tab_at (λ k. cond (nat_lt k c.count) (c.offsets ‼ k) zero) 8 j nan (omega arith)
      ∙ ap (λ b. cond b (c.offsets ‼ j) zero) (lt-ltb j c.count (omega arith));
}

module _ (c : ℕ) (tg : List Float) (cur : ℕ) (pitch input : Float) (st : Steering) (rec ring : List Float) where
  of_heard : (s : SoloSetup) → tick_of (heard s) c tg cur pitch input st rec ring ≡ tick_of s c tg cur pitch input st rec ring
  unfolding tick_of heard_table
  of_heard s =
      tick_heard s.code _ s.table (replicate 160 zero) _ _ tg cur pitch input st rec ring
      ∙ tick_chord s.code s.rate s.reference s.clean (heard_chord s.code s.chord) s.chord
      (λ k. subst (λ (n : ℕ). SameTeeth (heard_chord n s.chord) s.chord) (sym k) (teeth_heard s.chord))
      s.table _ _ tg cur pitch input st rec ring

  pub same_tick : (s t : SoloSetup) → heard s ≡ heard t → tick_of s c tg cur pitch input st rec ring ≡ tick_of t c tg cur pitch input st rec ring
  same_tick s t e = sym (of_heard s) ∙ ap (λ (o : SoloSetup). tick_of o c tg cur pitch input st rec ring) e ∙ of_heard t

-- opened where a proof must see that the settings' type stays
unfoldable pub same_engine : (s t : SoloSetup) → heard s ≡ heard t → engine_of s ≡ engine_of t
unfolding heard_table
same_engine s t e = λ i. record {
  S = VoiceParams;
  defaults = default_params;
  knobs = λ p. not (nan_knob p);
  targets_of = voice_targets;
  channels = (e i).channels;
  ring_length = ring_len (e i).rate;
  lines = lines_mark (e i).code;
  setup_check = λ n. same_check s t e n i;
  parkable = not (e i).table.three && not ((e i).code == 13);
  restore_verdict = restore_verdict;
  bank_in = bank_in;
  OwnSetup = λ n file. (solo_in file ≡ e i) × (voices_in file ≡ n);
  tick = λ c tg cur pitch input st rec ring. same_tick c tg cur pitch input st rec ring s t e i;
}

pub heard_engine : (s : SoloSetup) → engine_of (heard s) ≡ engine_of s
heard_engine s = same_engine (heard s) s (heard_twice s)
