-- Impulse (document 01, 'Checked figures'): which request a line makes, what is answered, and the text printed, as lists of bytes. 32 is the
-- blank, 10 the newline. Definitions only. Assumes nothing.
use Rattle.std.specs.Prelude.{◌≡◌, ℕ, ◌+◌, ◌-◌, ◌≤◌, false, cond, ◌&&◌, List, [], ◌∷◌, ◌++◌, length, take, replicate, ◌==◌, nat_le, nat_lt, Option, None, Some, Result, Ok, Err, Float}
use Rattle.lane.specs.Floats.{whole, zero, one}
use Rattle.lines.specs.Lines.{ring_len}
use Rattle.extended.specs.declared.Chord.{Chord}
use Rattle.pole_zero.specs.PoleZero.{default_design, table_of}
use Rattle.setups.specs.Setup.{within, setup_check_of}
use Rattle.voices.specs.Calls.{Check, fine, refused, least_frames, most_frames, targets_width, record_width, open_of, block_of}
use Rattle.checks.specs.declared.Setup.{Setup}
use Rattle.checks.specs.Setup.{solo_of, engine}
use Rattle.checks.specs.Checks.{bank_of, block_from}
use Rattle.text.specs.declared.Span.{Span}
use Rattle.text.specs.Text.{word_at, line_end, bytes_of, decimal_of, bits_of, buffer, puts, decimal_text, hex_text}
use Rattle.impulses.specs.declared.Asked.{Asked}
use Rattle.impulses.specs.declared.Reason.{Reason}
use Rattle.impulses.specs.declared.Reason.TheVariants.{Large, Refused}

-- ---- "a line that is not three unsigned decimals of 1 to 9 digits, one blank between, prints `line`"

abbrev pub most_digits : ℕ
most_digits = 9

-- a word of 1 to 9 digits (a decimal has one at least)
unfoldable pub short_decimal : List ℕ → Span → Option ℕ
short_decimal s w = cond (nat_le (w.end - w.start) most_digits) (decimal_of (bytes_of s w)) None

unfoldable pub asked : Option ℕ → Option ℕ → Option ℕ → Option Asked
asked (Some code) (Some rate) (Some frames) = Some (record { code = code; rate = rate; frames = frames })
asked (Some code) (Some rate) None = None
asked (Some code) None frames = None
asked None rate frames = None

-- a line's first and second word end at a blank, its third ends the line
unfoldable pub line_request : List ℕ → Option Asked
line_request l =
    let a = word_at l 0 in
    let b = word_at l (a.end + 1) in
    let c = word_at l (b.end + 1) in
    cond (nat_lt a.end (length l) && nat_lt b.end (length l) && c.end == length l) (asked (short_decimal l a) (short_decimal l b) (short_decimal l c)) None

-- "The line ends at its newline or at the input's end; later bytes are ignored."
unfoldable pub request_of : List ℕ → Option Asked
request_of s = line_request (take (line_end s 0) s)

-- ---- "opens one mono voice, reference 440, not clean, all-bypass table"

-- the rate as f32, nearest
abbrev pub rate_of : ℕ → Float
rate_of rate = whole rate

-- C-18, of code 13: "Impulse gives it one offset, 0"
abbrev pub one_tooth : Chord
one_tooth = record { count = 1; offsets = replicate 8 zero }

unfoldable pub impulse_setup : (code rate : ℕ) → Setup
impulse_setup code rate = record {
  code = code;
  rate = rate_of rate;
  reference = whole 440;
  voices = 1;
  channels = 1;
  clean = false;
  table = table_of default_design;
  chord = one_tooth;
}

-- ---- "an accepted rate above 131,015 prints `large`, after the setup's refusals and before 9"

-- the ring cells that the program has, and the highest rate whose ring they hold (`ring_fits` of specs/Cells)
abbrev pub cells : ℕ
cells = 16384

abbrev pub highest_rate : ℕ
highest_rate = 131015

-- why no frame is rendered, or that all are
abbrev pub Verdict : Type 0
Verdict = Result (Unit {0}) Reason

unfoldable pub after_setup : (rate frames : ℕ) → Verdict
after_setup rate frames = cond (nat_lt highest_rate rate) (Err Large) (cond (within least_frames most_frames frames) (Ok tt) (Err (Refused 9)))

abbrev pub checked : Check → Verdict → Verdict
checked fine v = v
checked (refused k) v = Err (Refused k)

unfoldable pub verdict_of : (code rate frames : ℕ) → Verdict
verdict_of code rate frames = checked (setup_check_of (solo_of (impulse_setup code rate)) 1) (after_setup rate frames)

-- ---- "feeds pitch 69 and audio 1, 0, 0, .. unsteered, in one block"

unfoldable pub steady_pitch : ℕ → List Float
steady_pitch frames = replicate frames (whole 69)

unfoldable pub silence : ℕ → List Float
silence n = replicate n zero

unfoldable pub impulse_of : ℕ → List Float
impulse_of frames = one ∷ silence (frames - 1)

-- the audio that a bank of one voice leaves, opened on zeroed lists with the given delay; its one count (C-11) is not printed
unfoldable pub rendered_of : (code rate : ℕ) (delay pitch audio : List Float) → List Float
rendered_of code rate delay pitch audio =
    let s = impulse_setup code rate in
    let opened = open_of (engine s) 1 (bank_of (silence targets_width) (silence record_width) delay 0) in
    (block_of (engine s) 1 (block_from (length audio) pitch false [] [] audio (0 ∷ [])) opened).audio

unfoldable pub response_of : (code rate frames : ℕ) → List Float
response_of code rate frames = rendered_of code rate (silence (ring_len (rate_of rate))) (steady_pitch frames) (impulse_of frames)

-- ---- the text printed

-- "Frame in decimal, then the sample's bits in eight hexadecimal digits; NaN as 7fc00000."
unfoldable pub sample_text : ℕ → Float → List ℕ
sample_text frame x = decimal_text frame ++ 32 ∷ hex_text (bits_of x) ++ 10 ∷ []

unfoldable pub samples_text : (frame : ℕ) → List Float → List ℕ
samples_text frame [] = []
samples_text frame (x ∷ xs) = sample_text frame x ++ samples_text (frame + 1) xs

-- `line`
unfoldable pub line_text : List ℕ
line_text = 108 ∷ 105 ∷ 110 ∷ 101 ∷ 10 ∷ []

-- `large`
unfoldable pub large_text : List ℕ
large_text = 108 ∷ 97 ∷ 114 ∷ 103 ∷ 101 ∷ 10 ∷ []

-- "A refusal prints `refused n`"
unfoldable pub refused_text : ℕ → List ℕ
refused_text n = 114 ∷ 101 ∷ 102 ∷ 117 ∷ 115 ∷ 101 ∷ 100 ∷ 32 ∷ decimal_text n ++ 10 ∷ []

abbrev pub answered : Verdict → List Float → List ℕ
answered (Ok u) samples = samples_text 0 samples
answered (Err Large) samples = large_text
answered (Err (Refused n)) samples = refused_text n

unfoldable pub answer_text : Option Asked → List ℕ
answer_text None = line_text
answer_text (Some a) = answered (verdict_of a.code a.rate a.frames) (response_of a.code a.rate a.frames)

-- the whole output of an input
unfoldable pub impulse_text : List ℕ → List ℕ
impulse_text s = answer_text (request_of s)

-- What `put_impulse` promises: `after` is `before` with the input's output written at its start, and r, where that output ends, is within it.
-- Of an output that is longer, the bytes that have no room are left out.
abbrev pub Prints : (input before after : List ℕ) (r : ℕ) → Type 0
Prints input before after r = (buffer after r ≡ puts (impulse_text input) (buffer before 0)) × (r ≤ length after)
