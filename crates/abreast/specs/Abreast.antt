-- For the proofs: nothing here must be believed.
-- Two slots in one frame loop: what they hold in hand, how it is loaded and stored, and how far each has come. And what is claimed of them: their frames in
-- any order that keeps each slot's own leave what the frames of the one and then those of the other leave. Definitions only; the claims are proved in
-- proofs/Abreast.antt (`in_step_holds`, `by_voice`).
use Rattle.std.specs.Prelude.{◌≡◌, ◌≢◌, ℕ, ◌+◌, ◌*◌, ◌<◌, List, length, set, Float}
use Rattle.parts.specs.Parts.{upto, piece, patch}
use Rattle.voices.specs.Calls.{targets_width, record_width, Engine, Block, BlockRun, SlotRun, slot, frame_of, slot_of}

-- two slots' records and counts in hand, and the lists
pub record Two : Type 0 where
  pub first : List Float
  pub second : List Float
  pub delay : List Float
  pub audio : List Float
  pub first_count : ℕ
  pub second_count : ℕ

abbrev pub run_first : Two → SlotRun
run_first x = record { rec = x.first; delay = x.delay; audio = x.audio; count = x.first_count }

abbrev pub run_second : Two → SlotRun
run_second x = record { rec = x.second; delay = x.delay; audio = x.audio; count = x.second_count }

abbrev pub put_first : Two → SlotRun → Two
put_first x l = record {
  first = l.rec;
  second = x.second;
  delay = l.delay;
  audio = l.audio;
  first_count = l.count;
  second_count = x.second_count;
}

abbrev pub put_second : Two → SlotRun → Two
put_second x l = record {
  first = x.first;
  second = l.rec;
  delay = l.delay;
  audio = l.audio;
  first_count = x.first_count;
  second_count = l.count;
}

-- a slot: its channel, its voice and the voice's targets
pub record Lane (E : Engine) (n : ℕ) : Type 0 where
  pub channel : ℕ
  pub voice : ℕ
  pub targets : List Float
  pub below : channel < E.channels
  pub within : voice < n
  pub wide : length targets ≡ targets_width

-- a slot's number
abbrev pub at : {E : Engine} {n : ℕ} → Lane E n → ℕ
at {E} {n} s = slot E n s.channel s.voice

module _ (E : Engine) (n : ℕ) where
  open E use {channels, ring_length}

  -- as long as the widths and the ring length ask
  pub record Good (x : Two) : Type 0 where
    pub first : length x.first ≡ record_width
    pub second : length x.second ≡ record_width
    pub delay : length x.delay ≡ channels * n * ring_length

  -- the first slot's record and count stored
  abbrev pub store_first : Lane E n → BlockRun → Two → BlockRun
  store_first a w x = record {
    records = patch record_width (at a) x.first w.records;
    delay = x.delay;
    audio = x.audio;
    counts = set w.counts (at a) x.first_count;
  }

  module _ (a b : Lane E n) where
    -- both records loaded, and stored with the counts
    abbrev pub load_two : BlockRun → Two
    load_two w = record {
      first = piece record_width (at a) w.records;
      second = piece record_width (at b) w.records;
      delay = w.delay;
      audio = w.audio;
      first_count = 0;
      second_count = 0;
    }

    abbrev pub store_two : BlockRun → Two → BlockRun
    store_two w x = record {
      records = patch record_width (at b) x.second (patch record_width (at a) x.first w.records);
      delay = x.delay;
      audio = x.audio;
      counts = set (set w.counts (at a) x.first_count) (at b) x.second_count;
    }

  module _ (q : Block) (cur : ℕ) where
    -- a slot's frame k
    abbrev pub frame : Lane E n → ℕ → SlotRun → SlotRun
    frame s = frame_of E n q s.targets cur s.channel s.voice

    module _ (a b : Lane E n) where
      abbrev pub step_first : ℕ → Two → Two
      step_first k x = put_first x (frame a k (run_first x))

      abbrev pub step_second : ℕ → Two → Two
      step_second k x = put_second x (frame b k (run_second x))

      -- k frames of the first slot, then j of the second
      abbrev pub reached : (start : Two) (k j : ℕ) → Two
      reached start k j = upto step_second j (upto step_first k start)

      -- ---- the claims

      -- of two slots: the first slot's next m frames may come after j of the second; a block through both slots in one loop is a block through the one and
      -- then through the other
      pub record InStep : Type 0 where
        pub first_more : at a ≢ at b → (start : Two) → Good start → (k j m : ℕ)
            → put_first (reached start k j) (upto (λ i. frame a (k + i)) m (run_first (reached start k j))) ≡ reached start (k + m) j
        pub slots_abreast : at a ≢ at b → (w : BlockRun)
            → length w.records ≡ channels * n * record_width → length w.delay ≡ channels * n * ring_length
            → store_two a b w (reached (load_two a b w) q.frames q.frames)
            ≡ slot_of E n q b.targets cur b.channel b.voice (slot_of E n q a.targets cur a.channel a.voice w)

    -- of two channels: both of each voice in turn are what a block does channel by channel
    pub record ByVoice : Type 0 where
      pub both_channels : (tg : List Float) → length tg ≡ n * targets_width → channels ≡ 2 → (w : BlockRun)
          → length w.records ≡ channels * n * record_width → length w.delay ≡ channels * n * ring_length
          → upto (λ v y. slot_of E n q (piece targets_width v tg) cur 1 v (slot_of E n q (piece targets_width v tg) cur 0 v y)) n w
          ≡ upto (λ v. slot_of E n q (piece targets_width v tg) cur 1 v) n (upto (λ v. slot_of E n q (piece targets_width v tg) cur 0 v) n w)
