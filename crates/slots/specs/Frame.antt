-- For the proofs: nothing here must be believed.
-- The code's ticks and slots are those of the definitions: the numbers that the code worked out are those of the setup. Assumes nothing.
use Rattle.std.specs.Prelude.{◌≡◌, ℕ, ◌+◌, ◌*◌, ◌<◌, ◌≤◌, Bool, true, false, cond, List, length, take, drop, slice_set, refl, Float}
use Rattle.std.proofs.Common.{sym, ◌∙◌, zero-le, arith, add-one}
use Rattle.std.proofs.Math.Path.{ap}
use Rattle.std.proofs.Math.Option.{none, some}
use Rattle.parts.specs.Parts.{upto, piece, patch}
use Rattle.lane.specs.Floats.{◌‼◌, zero}
use Rattle.lines.specs.declared.Ring.{Ring}
use Rattle.lines.specs.Lines.{ring_len}
use Rattle.pole_zero.specs.declared.Table.{Table}
use Rattle.run.specs.declared.Constants.{Constants}
use Rattle.run.specs.declared.FrameInput.{FrameInput}
use Rattle.run.specs.declared.Sample.{Sample}
use Rattle.run.specs.Run.{tick_with}
use Rattle.run.specs.Unsteered.{unsteered}
use Rattle.run.specs.Promises.{table_for, tick_on, TickLeaves}
use Rattle.voices.specs.Calls.{targets_width, record_width, Tick, Engine, Block, BlockRun, SlotRun}
use Rattle.voices.specs.Calls.{cursor_after, tick_at, frame_of, frames_of, slot_of, block_of}
use Rattle.slots.specs.declared.Prepared.{Prepared}
use Rattle.slots.specs.declared.Slot.{Slot}
use Rattle.slots.specs.Engine.{tick_of}
use Rattle.slots.specs.Slots.{engine_at, block_on, block_at, bank_at, block_run, Worked, Placed, Buffers, Lists}
use Rattle.slots.specs.Slots.{frame_in, channel_in, Swept}

-- an unsteered frame is steered by zeros
steering_is : (steered : Bool) (code : ℕ) (k : Constants) (table : Table) (len : ℕ) (sign : Float) (targets : List Float) (cursor : ℕ)
    (pitch input x y : Float) (rec ring : List Float)
    → tick_with code k table len sign targets cursor pitch input (some (cond steered x zero, cond steered y zero)) rec ring
    ≡ tick_with code k table len sign targets cursor pitch input (cond steered (some (x, y)) none) rec ring
steering_is true code k table len sign targets cursor pitch input x y rec ring = refl
steering_is false code k table len sign targets cursor pitch input x y rec ring =
    sym (unsteered code k table len sign targets cursor pitch input rec ring)

module _ (e : Prepared) (sections tg ps xs ys : List Float) (p : Slot) (f : ℕ) (w : SlotRun) (g : Worked e) (h : Placed e p) where
  abbrev E : Engine
  E = engine_at e sections

  abbrev q : Block
  q = block_at e ps xs ys

  -- what a frame brings, read where the code reads it
  abbrev input : (from at : ℕ) (px py : Float) → FrameInput
  input from at px py =
      record { sign = p.sign; pitch = record { 0 = ps ‼ from }; input = w.audio ‼ at; x = px; y = py }

  abbrev ring : (cursor : ℕ) → Ring
  ring cursor = record { len = e.len; cursor = cursor; slot = p.number }

  tick_is : (at from cur : ℕ) (px py : Float)
      → at ≡ f * (e.channels * e.voices) + (p.channel * e.voices + p.voice)
      → from ≡ f * e.voices + p.voice
      → cur ≡ cursor_after E e.cursor f
      → px ≡ cond e.steered (xs ‼ from) zero
      → py ≡ cond e.steered (ys ‼ from) zero
      → tick_on e.m sections (ring cur) (input from at px py) tg w.rec w.delay
      ≡ tick_at E e.voices q tg e.cursor p.channel p.voice f w.audio w.rec
      (piece (ring_len e.rate) (p.channel * e.voices + p.voice) w.delay)
  unfolding tick_of
  tick_is at from cur px py ha hf hc hx hy =
      (λ i. tick_with e.m.code (g.constants i) (table_for e.m sections) (g.len i) (h.sign i) tg (hc i) (ps ‼ hf i) (w.audio ‼ ha i)
      (some ((hx ∙ ap (λ (j : ℕ). cond e.steered (xs ‼ j) zero) hf) i, (hy ∙ ap (λ (j : ℕ). cond e.steered (ys ‼ j) zero) hf) i))
      w.rec
      (piece (g.len i) (h.number i) w.delay))
      ∙ steering_is e.steered _ _ _ _ _ _ _ _ _ _ _ _ _

  pub frame_is : (at from cur : ℕ) (px py : Float) (s : Sample) (rec delay : List Float)
      → at ≡ f * e.slots + p.number
      → from ≡ f * e.voices + p.voice
      → cur ≡ cursor_after E e.cursor f
      → px ≡ cond e.steered (xs ‼ from) zero
      → py ≡ cond e.steered (ys ‼ from) zero
      → TickLeaves (tick_on e.m sections (ring cur) (input from at px py) tg w.rec w.delay) w.delay (ring cur) s rec delay
      → record { rec = rec; delay = delay; audio = slice_set w.audio at s.out; count = w.count + s.over } ≡ frame_in e sections tg ps xs ys p f w
  unfolding frame_of
  frame_is at from cur px py s rec delay ha hf hc hx hy l =
      let place : at ≡ f * (e.channels * e.voices) + (p.channel * e.voices + p.voice) = ha ∙ (λ i. f * g.slots i + h.number i) in
      let t = tick_is at from cur px py place hf hc hx hy in
      λ i. record {
        rec = (l.numbers ∙ ap (λ (x : Tick). x.rec) t) i;
        delay = (l.cells ∙ (λ j. patch (g.len j) (h.number j) (t j).ring w.delay)) i;
        audio = slice_set w.audio (place i) ((l.sample ∙ ap (λ (x : Tick). x.out) t) i);
        count = w.count + (l.judged ∙ ap (λ (x : Tick). x.over) t) i;
      }

-- A slot's frames on its loaded record, and the record stored, are the definitions' slot.
pub slot_is : (E : Engine) (n : ℕ) (q : Block) (tg : List Float) (cur c v : ℕ) (w : BlockRun) (s : ℕ) (goals start : List Float) (l : SlotRun)
    (records : List Float) (counts : List ℕ)
    → s ≡ c * n + v
    → goals ≡ tg
    → start ≡ piece record_width s w.records
    → l ≡ upto (frame_of E n q goals cur c v) q.frames (record { rec = start; delay = w.delay; audio = w.audio; count = 0 })
    → records ≡ patch record_width s l.rec w.records
    → counts ≡ slice_set w.counts s l.count
    → record { records = records; delay = l.delay; audio = l.audio; counts = counts } ≡ slot_of E n q tg cur c v w
unfolding slot_of frames_of
slot_is E n q tg cur c v w s goals start l records counts hs hg hr hl hp hk =
    let loaded : start ≡ piece record_width (c * n + v) w.records = hr ∙ ap (λ (k : ℕ). piece record_width k w.records) hs in
    let z : l ≡ frames_of E n q tg cur c v q.frames w
    = hl ∙ (λ i. upto (frame_of E n q (hg i) cur c v) q.frames (record { rec = loaded i; delay = w.delay; audio = w.audio; count = 0 })) in
    λ i. record {
      records = (hp ∙ (λ j. patch record_width (hs j) (z j).rec w.records)) i;
      delay = (z i).delay;
      audio = (z i).audio;
      counts = (hk ∙ (λ j. slice_set w.counts (hs j) (z j).count)) i;
    }

-- the numbers where voice v's targets stand are its piece
pub targets_piece : (v from : ℕ) (xs goals : List Float)
    → from ≡ v * targets_width → goals ≡ take targets_width (drop from xs) → goals ≡ piece targets_width v xs
unfolding piece
targets_piece v from xs goals e h = h ∙ ap (λ (k : ℕ). take targets_width (drop k xs)) e

-- The channels' loop is the definitions' block: a frame reads its input in the lists, not in the block's audio.
pub block_is : (e : Prepared) (sections tg pitch x y rs ds audio : List Float) (counts : List ℕ)
    → upto (channel_in e sections tg pitch x y) e.channels (block_run rs ds audio counts)
    ≡ block_of (engine_at e sections) e.voices (block_on e pitch x y audio counts) (bank_at e tg rs ds)
unfolding block_of slot_of frames_of frame_of
block_is e sections tg pitch x y rs ds audio counts = refl

-- ---- one turn more of a loop over the voices or the channels

module _ (g : ℕ → BlockRun → BlockRun) (n : ℕ) (start : BlockRun) where
  pub swept_start : Swept g n start 0 start
  swept_start = record { within = zero-le; lists = refl; records = refl; delay = refl; audio = refl; counts = refl }

  pub swept_again : (i : ℕ) (w w' : BlockRun) → Swept g n start i w → i < n → w' ≡ g i w
      → length w'.records ≡ length w.records → length w'.delay ≡ length w.delay → length w'.audio ≡ length w.audio
      → length w'.counts ≡ length w.counts
      → Swept g n start (i + 1) w'
  swept_again i w w' s h e r d a k = record {
    within = omega arith;
    lists = e ∙ ap (g i) s.lists ∙ ap (λ (k : ℕ). upto g k start) (sym (add-one i));
    records = r ∙ s.records;
    delay = d ∙ s.delay;
    audio = a ∙ s.audio;
    counts = k ∙ s.counts;
  }

  pub swept_end : (i : ℕ) (w : BlockRun) → Swept g n start i w → n ≤ i → w ≡ upto g n start
  swept_end i w s h =
      let e : i ≡ n = omega (arith, s.within) in
      s.lists ∙ ap (λ (k : ℕ). upto g k start) e

-- the lists that a turn begins with are as long as they should be
pub swept_lists : {e : Prepared} {tg : List Float} (g : ℕ → BlockRun → BlockRun) (n i : ℕ) (start w : BlockRun) → Swept g n start i w
    → Lists e tg start.records start.counts → Lists e tg w.records w.counts
swept_lists g n i start w s l = record { targets = l.targets; records = s.records ∙ l.records; counts = s.counts ∙ l.counts }

pub swept_buffers : {e : Prepared} {ps xs ys : List Float} (g : ℕ → BlockRun → BlockRun) (n i : ℕ) (start w : BlockRun) → Swept g n start i w
    → Buffers e ps xs ys start.delay start.audio → Buffers e ps xs ys w.delay w.audio
swept_buffers g n i start w s b = record { pitch = b.pitch; x = b.x; y = b.y; delay = s.delay ∙ b.delay; audio = s.audio ∙ b.audio }
