-- The feed of a voice, the plain voice, and what is compared (document 01, 'A voice from its feed'; document 02, C-11, C-12, C-16). Definitions only.
-- 'Feed' and 'plain voice' are that section's terms: what a list of calls tells one voice, and one voice worked from that alone.
use Rattle.std.specs.Prelude.{◌≡◌, ℕ, suc, ◌+◌, ◌<◌, cond, List, [], ◌∷◌, ◌++◌, Float, eqb, get_or}
use Rattle.lane.specs.Floats.{◌‼◌}
use Rattle.parts.specs.Parts.{tab, piece}
use Rattle.voices.specs.Calls.{targets_width, record_width, Check, fine, refused, Steering, Engine, Block, Call, call_set, call_start, call_block}
use Rattle.voices.specs.Calls.{call_park, call_restore, call_audition}
use Rattle.voices.specs.Calls.{Answer, refused_call, kept, rendered, auditioned, Run, cursor_after, start_record, start_ring, slot, pitch_index, audio_index}
use Rattle.voices.specs.Calls.{steering_at, verdict, call}

-- one frame: the voice's pitch, its input sample on each channel, and its x and y or that it is unsteered
pub record Frame : Type 0 where
  pub pitch : Float
  pub inputs : List Float
  pub steering : Steering

pub data Event (S : Type 0) : Type 0 where
  event_set : S → Event S
  event_start : Event S
  event_frame : Frame → Event S

-- frames in a feed
abbrev pub frame_count : {S : Type 0} → List (Event S) → ℕ
frame_count [] = 0
frame_count (event_set s ∷ es) = frame_count es
frame_count (event_start ∷ es) = frame_count es
frame_count (event_frame f ∷ es) = suc (frame_count es)

-- the sum of frames rendered; an audition's (C-16) are heard only
abbrev pub frames_rendered : List Answer → ℕ
frames_rendered [] = 0
frames_rendered (refused_call k ∷ l) = frames_rendered l
frames_rendered (kept cur ∷ l) = frames_rendered l
frames_rendered (rendered cur f a counts ∷ l) = frames_rendered l + f
frames_rendered (auditioned sc f a counts ∷ l) = frames_rendered l

-- the plain voice keeps targets, a cursor and, for each channel, a record and a ring; with them the samples that it has given, and how
-- often it judged a ratio greater than its cap (C-11)
pub record Channel : Type 0 where
  pub rec : List Float
  pub ring : List Float
  pub samples : List Float
  pub count : ℕ

pub record PlainVoice : Type 0 where
  pub targets : List Float
  pub cursor : ℕ
  pub channel : ℕ → Channel

module _ (E : Engine) where
  open E use {S, defaults, targets_of, channels, ring_length, tick}

  -- ---- the plain voice

  unfoldable pub started : (targets samples : List Float) (count : ℕ) → Channel
  started tg out count = record { rec = start_record E tg; ring = start_ring E; samples = out; count = count }

  -- it begins with the targets of the defaults, started, and cursor 0
  unfoldable pub fresh : PlainVoice
  fresh = record { targets = targets_of defaults; cursor = 0; channel = λ c. started (targets_of defaults) [] 0 }

  -- one tick of channel c
  unfoldable pub tick_channel : Frame → (c : ℕ) (targets : List Float) (cursor : ℕ) → Channel → Channel
  tick_channel f c tg cur w =
      let t = tick c tg cur f.pitch (f.inputs ‼ c) f.steering w.rec w.ring in
      record { rec = t.rec; ring = t.ring; samples = w.samples ++ t.out ∷ []; count = w.count + t.over }

  -- a set replaces the targets; a start starts every channel; a frame ticks every channel once, then the cursor moves on by one
  unfoldable pub advance : Event S → PlainVoice → PlainVoice
  advance (event_set s) p = record { targets = targets_of s; cursor = p.cursor; channel = p.channel }
  advance event_start p = record { targets = p.targets; cursor = p.cursor; channel = λ c. started p.targets (p.channel c).samples (p.channel c).count }
  advance (event_frame f) p = record {
    targets = p.targets;
    cursor = cursor_after E p.cursor 1;
    channel = λ c. tick_channel f c p.targets p.cursor (p.channel c);
  }

  abbrev pub play : List (Event S) → PlainVoice → PlainVoice
  play [] p = p
  play (e ∷ es) p = play es (advance e p)

  -- the plain voice of a feed
  abbrev pub voice_of : List (Event S) → PlainVoice
  voice_of es = play es fresh

  module _ (n : ℕ) where
    -- ---- the feed of voice v

    abbrev pub frame_at : Block → (v k : ℕ) → Frame
    frame_at q v k = record {
      pitch = q.pitch ‼ pitch_index E n k v;
      inputs = tab (λ c. q.audio ‼ audio_index E n k c v) channels;
      steering = steering_at E n q k v;
    }

    -- what one call with its verdict adds: a refused call, or a set or start of another voice, nothing; nor do park and restore (C-12)
    -- and audition (C-16)
    abbrev pub events : Check → (v : ℕ) → Call S → List (Event S)
    events (refused k) v x = []
    events fine v (call_set u s) = cond (eqb u v) (event_set s ∷ []) []
    events fine v (call_start u) = cond (eqb u v) (event_start ∷ []) []
    events fine v (call_block q) = tab (λ k. event_frame (frame_at q v k)) q.frames
    events fine v (call_park written) = []
    events fine v (call_restore file lent) = []
    events fine v (call_audition q scratch) = []

    -- of a list of calls on the run r, in the order of the calls
    abbrev pub feed : (v : ℕ) → List (Call S) → Run → List (Event S)
    feed v [] r = []
    feed v (x ∷ xs) r = events (verdict E n x r.bank) v x ++ feed v xs (call E n x r)

    -- ---- what is compared

    -- voice v's samples on channel c from all accepted blocks, in order of frames
    abbrev pub samples_of : (v c : ℕ) → List Answer → List Float
    samples_of v c [] = []
    samples_of v c (refused_call k ∷ l) = samples_of v c l
    samples_of v c (kept cur ∷ l) = samples_of v c l
    samples_of v c (rendered cur f a counts ∷ l) = samples_of v c l ++ tab (λ k. a ‼ audio_index E n k c v) f
    samples_of v c (auditioned sc f a counts ∷ l) = samples_of v c l

    -- voice v's counts on channel c, added up over all accepted blocks (C-11)
    abbrev pub count_of : (v c : ℕ) → List Answer → ℕ
    count_of v c [] = 0
    count_of v c (refused_call k ∷ l) = count_of v c l
    count_of v c (kept cur ∷ l) = count_of v c l
    count_of v c (rendered cur f a counts ∷ l) = count_of v c l + get_or counts (slot E n c v) 0
    count_of v c (auditioned sc f a counts ∷ l) = count_of v c l

    -- after the run r, voice v is the plain voice of the feed es
    pub record Same (v : ℕ) (r : Run) (es : List (Event S)) : Type 0 where
      pub targets : piece targets_width v r.bank.targets ≡ (voice_of es).targets
      pub cursor : r.bank.cursor ≡ (voice_of es).cursor
      pub rec : (c : ℕ) → c < channels → piece record_width (slot E n c v) r.bank.records ≡ ((voice_of es).channel c).rec
      pub ring : (c : ℕ) → c < channels → piece ring_length (slot E n c v) r.bank.delay ≡ ((voice_of es).channel c).ring
      pub samples : (c : ℕ) → c < channels → samples_of v c r.log ≡ ((voice_of es).channel c).samples
      pub count : (c : ℕ) → c < channels → count_of v c r.log ≡ ((voice_of es).channel c).count
      pub frames : frames_rendered r.log ≡ frame_count es

  -- voice v after the run r of a bank of n voices, and voice u after the run q of a bank of m, agree in all that is compared
  pub record Alike (n m v u : ℕ) (r q : Run) : Type 0 where
    pub targets : piece targets_width v r.bank.targets ≡ piece targets_width u q.bank.targets
    pub cursor : r.bank.cursor ≡ q.bank.cursor
    pub rec : (c : ℕ) → c < channels → piece record_width (slot E n c v) r.bank.records ≡ piece record_width (slot E m c u) q.bank.records
    pub ring : (c : ℕ) → c < channels → piece ring_length (slot E n c v) r.bank.delay ≡ piece ring_length (slot E m c u) q.bank.delay
    pub samples : (c : ℕ) → c < channels → samples_of n v c r.log ≡ samples_of m u c q.log
    pub count : (c : ℕ) → c < channels → count_of n v c r.log ≡ count_of m u c q.log
    pub frames : frames_rendered r.log ≡ frames_rendered q.log
