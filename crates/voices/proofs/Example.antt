-- The corollary of Voice for the made-up engine. Assumes nothing.
use Rattle.voices.specs.Voice.{TwoBanks}
use Rattle.voices.proofs.Voice.{corollary}
use Rattle.voices.specs.Example.{example_engine, example_laws}

sixteen_and_one : TwoBanks example_engine 16 1
sixteen_and_one = corollary example_engine example_laws 16 1
