-- For the proofs: nothing here must be believed.
-- What the code of a block holds, read as the definitions' setup, block and lists, and what its functions promise each other.
-- Definitions only. Assumes nothing.
use Rattle.std.specs.Prelude.{◌≡◌, ℕ, suc, ◌+◌, ◌*◌, ◌<◌, ◌≤◌, Bool, true, false, cond, List, [], length, Float}
use Rattle.std.proofs.Math.Option.{none, some}
use Rattle.parts.specs.Parts.{upto, piece}
use Rattle.lane.specs.Floats.{◌‼◌}
use Rattle.lines.specs.Lines.{ring_len, is_length}
use Rattle.extended.specs.Extended.{lines_mark}
use Rattle.run.specs.Run.{constants_of, sign_of}
use Rattle.run.specs.declared.Record.{Record}
use Rattle.run.specs.Promises.{table_for, held_record}
use Rattle.voices.specs.Calls.{targets_width, record_width, least_frames, most_frames, Engine, Steering, Bank, Block, BlockRun, SlotRun, frame_of, slot_of}
use Rattle.abreast.specs.Rest.{AtRest}
use Rattle.slots.specs.declared.Prepared.{Prepared}
use Rattle.slots.specs.declared.Slot.{Slot}
use Rattle.slots.specs.Engine.{engine_of}
use Rattle.setups.specs.Setup.{SoloSetup}

-- ---- the setup, the block and the lists

-- the setup without its voices, of a block's numbers and its table's sections
abbrev pub solo_at : Prepared → (sections : List Float) → SoloSetup
solo_at e sections = record {
  code = e.m.code;
  rate = e.rate;
  reference = e.reference;
  channels = e.channels;
  clean = e.clean;
  table = table_for e.m sections;
  chord = e.chord;
}

abbrev pub engine_at : Prepared → (sections : List Float) → Engine
engine_at e sections = engine_of (solo_at e sections)

abbrev pub block_on : Prepared → (pitch x y audio : List Float) (counts : List ℕ) → Block
block_on e pitch x y audio counts =
    record { frames = e.frames; pitch = pitch; steered = e.steered; x = x; y = y; audio = audio; counts = counts }

-- the block without its audio and counts, which stand in the lists that it writes
abbrev pub block_at : Prepared → (pitch x y : List Float) → Block
block_at e pitch x y = block_on e pitch x y [] []

abbrev pub bank_at : Prepared → (targets records delay : List Float) → Bank
bank_at e tg rs ds = record { targets = tg; records = rs; delay = ds; cursor = e.cursor }

abbrev pub block_run : (records delay audio : List Float) (counts : List ℕ) → BlockRun
block_run rs ds a counts = record { records = rs; delay = ds; audio = a; counts = counts }

-- a slot's record in hand, by its parts, p in the place of the peak b that the block began with; and its count
abbrev pub slot_run : (params state : List Float) (b p : Float) (delay audio : List Float) (count : ℕ) → SlotRun
slot_run params state b p ds a count = record { rec = held_record params state b p; delay = ds; audio = a; count = count }

-- ---- what the functions ask

-- what was worked out once, of numbers that were accepted
pub record Worked (e : Prepared) : Type 0 where
  pub voices : e.voices ≤ 16
  pub channels : e.channels ≤ 2
  pub some : least_frames ≤ e.frames
  pub frames : e.frames ≤ most_frames
  pub slots : e.slots ≡ e.channels * e.voices
  pub len : e.len ≡ ring_len e.rate
  pub good : is_length e.len ≡ true
  pub constants : e.m.k ≡ constants_of e.rate e.reference e.clean e.chord

-- a slot's number and sign
pub record Placed (e : Prepared) (p : Slot) : Type 0 where
  pub channel : p.channel < e.channels
  pub voice : p.voice < e.voices
  pub number : p.number ≡ p.channel * e.voices + p.voice
  pub below : p.number < e.slots
  pub sign : p.sign ≡ sign_of e.channels p.channel

-- the lists of a block are as long as they should be
pub record Buffers (e : Prepared) (ps xs ys ds au : List Float) : Type 0 where
  pub pitch : length ps ≡ e.frames * e.voices
  pub x : e.steered ≡ true → length xs ≡ e.frames * e.voices
  pub y : e.steered ≡ true → length ys ≡ e.frames * e.voices
  pub delay : length ds ≡ e.slots * e.len
  pub audio : length au ≡ e.frames * e.slots

-- those of them that bring a frame its numbers
pub record Signals (e : Prepared) (ps xs ys au : List Float) : Type 0 where
  pub pitch : length ps ≡ e.frames * e.voices
  pub x : e.steered ≡ true → length xs ≡ e.frames * e.voices
  pub y : e.steered ≡ true → length ys ≡ e.frames * e.voices
  pub audio : length au ≡ e.frames * e.slots

pub record Lists (e : Prepared) (tg rs : List Float) (ks : List ℕ) : Type 0 where
  pub targets : length tg ≡ e.voices * targets_width
  pub records : length rs ≡ e.slots * record_width
  pub counts : length ks ≡ e.slots

-- ---- what they do

-- frame f of a slot
abbrev pub frame_in : Prepared → (sections targets pitch x y : List Float) → Slot → (f : ℕ) → SlotRun → SlotRun
frame_in e sections tg pitch x y p = frame_of (engine_at e sections) e.voices (block_at e pitch x y) tg e.cursor p.channel p.voice

-- the slot of a channel and a voice
abbrev pub slot_in : Prepared → (sections targets pitch x y : List Float) (channel voice : ℕ) → BlockRun → BlockRun
slot_in e sections tg pitch x y c v = slot_of (engine_at e sections) e.voices (block_at e pitch x y) (piece targets_width v tg) e.cursor c v

-- every voice of a channel
abbrev pub channel_in : Prepared → (sections targets pitch x y : List Float) (channel : ℕ) → BlockRun → BlockRun
channel_in e sections tg pitch x y c w = upto (slot_in e sections tg pitch x y c) e.voices w

-- ---- a loop over the voices, or over the channels

-- after i of n turns of g the lists are those that the turns make, each as long as at the start
pub record Swept (g : ℕ → BlockRun → BlockRun) (n : ℕ) (start : BlockRun) (i : ℕ) (w : BlockRun) : Type 0 where
  pub within : i ≤ n
  pub lists : w ≡ upto g i start
  pub records : length w.records ≡ length start.records
  pub delay : length w.delay ≡ length start.delay
  pub audio : length w.audio ≡ length start.audio
  pub counts : length w.counts ≡ length start.counts

-- ---- a slot at rest

-- the pitch and the steering that frame f brings a slot
abbrev pub pitch_in : Prepared → (pitch : List Float) → Slot → (f : ℕ) → Float
pitch_in e ps p f = ps ‼ (f * e.voices + p.voice)

abbrev pub steering_in : Prepared → (x y : List Float) → Slot → (f : ℕ) → Steering
steering_in e xs ys p f = cond e.steered (some (xs ‼ (f * e.voices + p.voice), ys ‼ (f * e.voices + p.voice))) none

-- frame f brings what frame 0 did, whose input was i
pub record SameFrame (e : Prepared) (ps xs ys au : List Float) (p : Slot) (i : Float) (f : ℕ) : Type 0 where
  pub pitch : pitch_in e ps p f ≡ pitch_in e ps p 0
  pub input : au ‼ (f * e.slots + p.number) ≡ i
  pub steering : steering_in e xs ys p f ≡ steering_in e xs ys p 0

-- with the record r and its slot's ring in `delay` the slot is at rest for what frame 0 brought; `out` is the sample, `over` what a frame counts
abbrev pub RestsAt : Prepared → (sections targets pitch x y : List Float) → Slot
    → (i : Float) (r delay : List Float) (out : Float) (over : ℕ) → Type 0
RestsAt e sections tg ps xs ys p i r ds out over =
    AtRest (engine_at e sections) p.channel tg e.cursor (pitch_in e ps p 0) i (steering_in e xs ys p 0) r
    (piece (ring_len e.rate) (p.channel * e.voices + p.voice) ds) out over

-- a record in hand as it is
abbrev pub rest_run : (rec delay audio : List Float) (count : ℕ) → SlotRun
rest_run r ds a count = record { rec = r; delay = ds; audio = a; count = count }

-- of a slot at rest with the sample that `before` has, frames 1 to m make `after` of `before`, count m times as much and leave the rest
abbrev pub RestFrames : Prepared → (pitch x y : List Float) → Slot → (i : Float) (before after : List Float) (m : ℕ) → Type 0
RestFrames e ps xs ys p i before after m =
    (sections tg r ds : List Float) (count over : ℕ) → lines_mark e.m.code ≡ false
    → RestsAt e sections tg ps xs ys p i r ds (before ‼ p.number) over
    → rest_run r ds after (count + m * over) ≡ upto (λ j. frame_in e sections tg ps xs ys p (suc j)) m (rest_run r ds before count)

-- so do the frames from 1 on that come before frame f
pub record Rested (e : Prepared) (ps xs ys : List Float) (p : Slot) (i : Float) (before after : List Float) (f : ℕ) : Type 0 where
  pub least : 1 ≤ f
  pub most : f ≤ e.frames
  pub long : length after ≡ length before
  pub frames : (m : ℕ) → suc m ≡ f → RestFrames e ps xs ys p i before after m

-- ---- a slot's frames after frame 0

-- frame 0 worked no delay line and left the record as it was
pub record AsBefore (code : ℕ) (was rec : Record) : Type 0 where
  pub still : lines_mark code ≡ false
  pub same : rec ≡ was

-- it did, and the frames before next' have its sample and count
pub record Rests (e : Prepared) (ps xs ys : List Float) (p : Slot) (i : Float) (was rec : Record) (before after : List Float)
    (count count' next' : ℕ) : Type 0 where
  pub as_before : AsBefore e.m.code was rec
  pub rested : Rested e ps xs ys p i before after next'
  pub counted : count' ≡ next' * count

-- they have, or all is as it was
pub record Settled (e : Prepared) (ps xs ys : List Float) (p : Slot) (i : Float) (was rec : Record) (before after : List Float)
    (count count' next next' : ℕ) (r : Bool) : Type 0 where
  pub stays : r ≡ false → (after ≡ before) × (count' ≡ count) × (next' ≡ next)
  pub rests : r ≡ true → Rests e ps xs ys p i was rec before after count count' next'
