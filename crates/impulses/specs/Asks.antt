-- For the proofs: nothing here must be believed.
-- What `render` asks of its caller. Definitions only. Assumes nothing.
use Rattle.std.specs.Prelude.{◌≡◌, ℕ, List, length, Ok, Float}
use Rattle.lines.specs.Lines.{ring_len}
use Rattle.impulses.specs.Impulse.{rate_of, verdict_of}

-- the request is fine, the delay is a ring of the rate's length, and each frame of the audio has a pitch
pub record Renderable (code rate : ℕ) (delay pitch audio : List Float) : Type 0 where
  pub accepted : verdict_of code rate (length audio) ≡ Ok tt
  pub ring : length delay ≡ ring_len (rate_of rate)
  pub pitches : length pitch ≡ length audio
