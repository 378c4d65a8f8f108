-- For the proofs: nothing here must be believed.
-- A slot at rest: a tick that leaves the record and the ring as they were gives, at the same pitch, input and steering, the same sample and count
-- again. Over any engine without LINES, whose cursor stays. Assumes nothing.
use Rattle.std.specs.Prelude.{◌≡◌, false, ℕ, ◌+◌}
use Rattle.std.proofs.Math.Path.{sym, ap}
use Rattle.std.proofs.Common.{◌∙◌}
use mathlib.Core.List.{List}
use Rattle.std.proofs.Math.ListN.{set}
use Rattle.std.specs.Float.Ieee.{Float}
use Rattle.parts.specs.Parts.{piece, patch}
use Rattle.parts.specs.Laws.{patch_piece}
use Rattle.lane.specs.Floats.{◌‼◌}
use Rattle.voices.specs.Calls.{Engine, Tick, Steering, Block, SlotRun, cursor_after, pitch_index, audio_index, slot, steering_at, tick_at, frame_of}

module _ (E : Engine) where
  open E use {ring_length, lines, tick}

  -- with the record r and the ring d a tick at pitch p, input i and steering st leaves both as they are, gives `out` and counts `over`
  pub record AtRest (c : ℕ) (tg : List Float) (cur : ℕ) (p i : Float) (st : Steering) (r d : List Float) (out : Float) (over : ℕ) : Type 0 where
    pub rec : (tick c tg cur p i st r d).rec ≡ r
    pub ring : (tick c tg cur p i st r d).ring ≡ d
    pub sample : (tick c tg cur p i st r d).out ≡ out
    pub judged : (tick c tg cur p i st r d).over ≡ over

  module _ (n : ℕ) (q : Block) (tg : List Float) (cur c v k : ℕ) (w : SlotRun) (still : lines ≡ false) where
    abbrev s : ℕ
    s = slot E n c v

    abbrev pitch : Float
    pitch = q.pitch ‼ pitch_index E n k v

    abbrev input : Float
    input = w.audio ‼ audio_index E n k c v

    abbrev cells : List Float
    cells = piece ring_length s w.delay

    -- the frame's tick
    abbrev t : Tick
    t = tick_at E n q tg cur c v k w.audio w.rec cells

    stays : cursor_after E cur k ≡ cur
    unfolding cursor_after
    stays = rw still

    -- a frame that left the record and the ring as they were is one at rest, for its pitch, input and steering
    pub rest_begins : (frame_of E n q tg cur c v k w).rec ≡ w.rec → t.ring ≡ cells
        → AtRest c tg cur pitch input (steering_at E n q k v) (frame_of E n q tg cur c v k w).rec (piece ring_length s (frame_of E n q tg cur c v k w).delay)
        t.out t.over
    unfolding frame_of
    rest_begins er ed =
        let u : List Float → List Float → Tick = λ r d. tick c tg cur pitch input (steering_at E n q k v) r d in
        let here : t ≡ u w.rec cells = λ j. tick c tg (stays j) pitch input (steering_at E n q k v) w.rec cells in
        let back : patch ring_length s t.ring w.delay ≡ w.delay
        = ap (λ (d : List Float). patch ring_length s d w.delay) ed ∙ patch_piece ring_length s w.delay in
        let ring : piece ring_length s (patch ring_length s t.ring w.delay) ≡ cells = ap (piece ring_length s) back in
        let again : u t.rec (piece ring_length s (patch ring_length s t.ring w.delay)) ≡ t = (λ j. u (er j) (ring j)) ∙ sym here in
        record {
          rec = ap (λ (x : Tick). x.rec) again;
          ring = ap (λ (x : Tick). x.ring) again ∙ ed ∙ sym ring;
          sample = ap (λ (x : Tick). x.out) again;
          judged = ap (λ (x : Tick). x.over) again;
        }

    -- at rest, a frame with that pitch, input and steering stores that sample, counts as much and leaves the rest
    pub rest_frame : (p i : Float) (st : Steering) (out : Float) (over : ℕ) → AtRest c tg cur p i st w.rec cells out over
        → pitch ≡ p → input ≡ i → steering_at E n q k v ≡ st
        → frame_of E n q tg cur c v k w
        ≡ record { rec = w.rec; delay = w.delay; audio = set w.audio (audio_index E n k c v) out; count = w.count + over }
    unfolding frame_of
    rest_frame p i st out over a ep ei es =
        let same : t ≡ tick c tg cur p i st w.rec cells = λ j. tick c tg (stays j) (ep j) (ei j) (es j) w.rec cells in
        let ring : t.ring ≡ cells = ap (λ (x : Tick). x.ring) same ∙ a.ring in
        λ j. record {
          rec = (ap (λ (x : Tick). x.rec) same ∙ a.rec) j;
          delay = (ap (λ (d : List Float). patch ring_length s d w.delay) ring ∙ patch_piece ring_length s w.delay) j;
          audio = set w.audio (audio_index E n k c v) ((ap (λ (x : Tick). x.out) same ∙ a.sample) j);
          count = w.count + (ap (λ (x : Tick). x.over) same ∙ a.judged) j;
        }
