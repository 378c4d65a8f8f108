-- A bank's setup and its polyphony apart (document 01, 'A bank is opened'). Definitions only.
use Rattle.slots.specs.Engine.{engine_of}
use Rattle.setups.specs.Setup.{SoloSetup}
use Rattle.voices.specs.Calls.{Engine}
use Rattle.checks.specs.declared.Setup.{Setup}

-- the setup without its voices
abbrev pub solo_of : Setup → SoloSetup
solo_of s = record {
  code = s.code;
  rate = s.rate;
  reference = s.reference;
  channels = s.channels;
  clean = s.clean;
  table = s.table;
  chord = s.chord;
}

-- what the calls make of it
abbrev pub engine : Setup → Engine
engine s = engine_of (solo_of s)
