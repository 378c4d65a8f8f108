-- For the proofs: nothing here must be believed.
-- A slot under block: its own frames are the plain voice's, and the frames of every other slot leave its record, ring, audio and count as they were.
-- By induction over the frames of one slot, then over channels and voices (`upto_focus`). A tick is used by its lengths alone. Assumes nothing.
use Rattle.std.specs.Prelude.{◌≡◌, ◌≢◌, ℕ, suc, ◌+◌, ◌*◌, ◌≤◌, ◌<◌, length}
use Rattle.std.proofs.Math.Path.{refl, sym, ap}
use Rattle.std.proofs.Common.{◌∙◌, subst, add_assoc, le_refl, le_of_lt, arith}
use Rattle.std.proofs.Math.Nat.{add-zero}
use mathlib.Core.List.{List, [], ◌∷◌, ◌++◌, append_assoc, append-nil}
use Rattle.std.specs.Float.Ieee.{Float, nan}
use Rattle.std.proofs.Math.ListN.{get_or, set, length-set}
use Rattle.std.proofs.Math.Seq.{get_or-set_same, get_or-set_other}
use Rattle.parts.specs.Parts.{upto, tab, piece}
use Rattle.parts.specs.Laws.{upto_keep, upto_count, upto_focus, tab_at, tab_same, flat_low, flat_high, flat_lt, piece_fits, length_piece}
use Rattle.parts.specs.Laws.{length_patch, piece_patch, piece_other}
use Rattle.voices.specs.Calls.{targets_width, record_width, Tick, Engine, Laws, Bank, Block, BlockRun, SlotRun, cursor_after, slot, pitch_index}
use Rattle.voices.specs.Calls.{audio_index, steering_at, tick_at, frame_of, frames_of, slot_of, block_of}
use Rattle.voices.specs.Feed.{PlainVoice, advance, tick_channel, frame_at}
use Rattle.voices.specs.Accepted.{BlockAccepted}
use Rattle.voices.proofs.Slots.{slot_fits, voices_differ, channels_differ}
use Rattle.voices.proofs.Plain.{after_frames, frames_targets, frames_cursor}

module _ (E : Engine) (laws : Laws E) (n : ℕ) (q : Block) where
  open E use {channels, ring_length, tick}
  open laws use {rec_length, ring_length_lem}

  record BlockLengths (w : BlockRun) : Type 0 where
    records : length w.records ≡ channels * n * record_width
    delay : length w.delay ≡ channels * n * ring_length
    audio : length w.audio ≡ q.frames * (channels * n)
    counts : length w.counts ≡ channels * n

  record SlotLengths (l : SlotRun) : Type 0 where
    rec : length l.rec ≡ record_width
    delay : length l.delay ≡ channels * n * ring_length
    audio : length l.audio ≡ q.frames * (channels * n)

  -- voice u's samples on channel i in the block's audio
  abbrev slot_audio : ℕ → ℕ → List Float → List Float
  slot_audio i u a = tab (λ k. get_or a (audio_index E n k i u) nan) q.frames

  -- while the block goes on, the slot of i and u holds the record r, the ring d, the samples a and the count m
  pub record SlotHolds (i u : ℕ) (r d a : List Float) (m : ℕ) (w : BlockRun) : Type 0 where
    lengths : BlockLengths w
    pub rec : piece record_width (slot E n i u) w.records ≡ r
    pub ring : piece ring_length (slot E n i u) w.delay ≡ d
    pub audio : slot_audio i u w.audio ≡ a
    pub count : get_or w.counts (slot E n i u) 0 ≡ m

  -- ---- the run of one slot
  module _ (tg : List Float) (ht : length tg ≡ targets_width) (cur c v : ℕ) (hc : c < channels) (hv : v < n) where
    abbrev slot_tick : ℕ → SlotRun → Tick
    slot_tick k l = tick_at E n q tg cur c v k l.audio l.rec (piece ring_length (slot E n c v) l.delay)

    slot_within : (l : SlotRun) → SlotLengths l → slot E n c v * ring_length + ring_length ≤ length l.delay
    slot_within l g = rw g.delay (slot_fits E n c v ring_length hc hv)

    ring_kept : (k : ℕ) (l : SlotRun) → SlotLengths l → length (slot_tick k l).ring ≡ ring_length
    ring_kept k l g = ring_length_lem c tg _ _ _ _ l.rec _ hc ht g.rec (length_piece ring_length (slot E n c v) l.delay (slot_within l g))

    frame_lengths : (k : ℕ) (l : SlotRun) → SlotLengths l → SlotLengths (frame_of E n q tg cur c v k l)
    unfolding frame_of
    frame_lengths k l g = record {
      rec = rec_length c tg _ _ _ _ l.rec _ hc ht g.rec (length_piece ring_length (slot E n c v) l.delay (slot_within l g));
      delay = length_patch ring_length (slot E n c v) _ l.delay (slot_within l g) (ring_kept k l g) ∙ g.delay;
      audio = length-set l.audio _ _ ∙ g.audio;
    }

    first_lengths : (w : BlockRun) (m : ℕ) → BlockLengths w
        → SlotLengths (record { rec = piece record_width (slot E n c v) w.records; delay = w.delay; audio = w.audio; count = m })
    first_lengths w m g = record {
      rec = length_piece record_width (slot E n c v) w.records (rw g.records (slot_fits E n c v record_width hc hv));
      delay = g.delay;
      audio = g.audio;
    }

    frames_lengths : (k : ℕ) (w : BlockRun) → BlockLengths w → SlotLengths (frames_of E n q tg cur c v k w)
    unfolding frames_of
    frames_lengths k w g = upto_keep SlotLengths (frame_of E n q tg cur c v) k _ (λ i l h s. frame_lengths i l s) (first_lengths w _ g)

    slot_lengths : (w : BlockRun) → BlockLengths w → BlockLengths (slot_of E n q tg cur c v w)
    unfolding slot_of
    slot_lengths w g =
        let l = frames_lengths q.frames w g in
        record {
          records = length_patch record_width (slot E n c v) _ w.records (rw g.records (slot_fits E n c v record_width hc hv)) (frames_lengths _ w g).rec
              ∙ g.records;
          delay = l.delay;
          audio = l.audio;
          counts = length-set w.counts _ _ ∙ g.counts;
        }

    -- ---- another slot meanwhile
    module _ (i u : ℕ) (hi : i < channels) (hu : u < n) (ne : slot E n i u ≢ slot E n c v) where
      record Untouched (w : BlockRun) (l : SlotRun) : Type 0 where
        lengths : SlotLengths l
        ring : piece ring_length (slot E n i u) l.delay ≡ piece ring_length (slot E n i u) w.delay
        audio : (f : ℕ) → get_or l.audio (audio_index E n f i u) nan ≡ get_or w.audio (audio_index E n f i u) nan

      frames_other : (w : BlockRun) → BlockLengths w → Untouched w (frames_of E n q tg cur c v q.frames w)
      unfolding frames_of frame_of
      frames_other w g =
          upto_keep (Untouched w) (frame_of E n q tg cur c v) q.frames _
          (λ k l h s. record {
            lengths = unfold frame_of in frame_lengths k l s.lengths;
            ring = piece_other ring_length (slot E n i u) (slot E n c v) _ l.delay ne (slot_within l s.lengths) (ring_kept k l s.lengths) ∙ s.ring;
            audio = λ f. get_or-set_other l.audio (audio_index E n k c v) (audio_index E n f i u) _ nan
                (λ z. ne (flat_low (channels * n) f k (slot E n i u) (slot E n c v) (flat_lt channels n i u hi hu) (flat_lt channels n c v hc hv) z))
                ∙ s.audio f;
          })
          (record { lengths = first_lengths w _ g; ring = refl; audio = λ f. refl })

      slot_other : (r d a : List Float) (m : ℕ) (w : BlockRun) → SlotHolds i u r d a m w → SlotHolds i u r d a m (slot_of E n q tg cur c v w)
      unfolding slot_of
      slot_other r d a m w s =
          let g = s.lengths in
          let x = frames_other w g in
          record {
            lengths = unfold slot_of in slot_lengths w g;
            rec = piece_other record_width (slot E n i u) (slot E n c v) _ w.records ne (rw g.records (slot_fits E n c v record_width hc hv))
                (frames_lengths _ w g).rec
                ∙ s.rec;
            ring = x.ring ∙ s.ring;
            audio = tab_same _ _ q.frames (λ f h. x.audio f) ∙ s.audio;
            count = get_or-set_other w.counts (slot E n c v) (slot E n i u) _ 0 ne ∙ s.count;
          }

    -- ---- the slot's own run, beside the plain voice p
    module _ (p : PlainVoice) (et : tg ≡ p.targets) (ec : cur ≡ p.cursor) (ew : cursor_after E cur 0 ≡ cur) where
      abbrev after : ℕ → PlainVoice
      after k = after_frames E (frame_at E n q v) k p

      -- k frames in: samples given so far, inputs still to come, and what the plain voice's count has gained
      record OwnRun (k : ℕ) (l : SlotRun) : Type 0 where
        lengths : SlotLengths l
        rec : l.rec ≡ ((after k).channel c).rec
        ring : piece ring_length (slot E n c v) l.delay ≡ ((after k).channel c).ring
        given : (p.channel c).samples ++ tab (λ f. get_or l.audio (audio_index E n f c v) nan) k ≡ ((after k).channel c).samples
        ahead : (f : ℕ) → k ≤ f → f < q.frames → get_or l.audio (audio_index E n f c v) nan ≡ get_or q.audio (audio_index E n f c v) nan
        count : (p.channel c).count + l.count ≡ ((after k).channel c).count

      frames_differ : (f k : ℕ) → f ≢ k → audio_index E n f c v ≢ audio_index E n k c v
      frames_differ f k ne e = ne (flat_high (channels * n) f k (slot E n c v) (slot E n c v) (flat_lt channels n c v hc hv) (flat_lt channels n c v hc hv) e)

      index_within : (k : ℕ) → k < q.frames → audio_index E n k c v < q.frames * (channels * n)
      index_within k h = flat_lt q.frames (channels * n) k (slot E n c v) h (flat_lt channels n c v hc hv)

      abbrev plain_tick : ℕ → Tick
      plain_tick k =
          tick c (after k).targets (after k).cursor (frame_at E n q v k).pitch (get_or (frame_at E n q v k).inputs c nan) (frame_at E n q v k).steering
          ((after k).channel c).rec ((after k).channel c).ring

      own_tick : (k : ℕ) (l : SlotRun) → k < q.frames → OwnRun k l → slot_tick k l ≡ plain_tick k
      own_tick k l h s =
          let e1 : tg ≡ (after k).targets = et ∙ sym (frames_targets E (frame_at E n q v) k p) in
          let e0 : cursor_after E p.cursor 0 ≡ p.cursor = subst (λ (x : ℕ). cursor_after E x 0 ≡ x) ec ew in
          let e2 : cursor_after E cur k ≡ (after k).cursor = ap (λ (x : ℕ). cursor_after E x k) ec ∙ sym (frames_cursor E (frame_at E n q v) k p e0) in
          let e3 : get_or l.audio (audio_index E n k c v) nan ≡ get_or (frame_at E n q v k).inputs c nan
          = s.ahead k (le_refl k) h ∙ sym (tab_at (λ i. get_or q.audio (audio_index E n k i v) nan) channels c nan hc) in
          λ i. tick c (e1 i) (e2 i) (get_or q.pitch (pitch_index E n k v) nan) (e3 i) (steering_at E n q k v) (s.rec i) (s.ring i)

      own_frame : (k : ℕ) (l : SlotRun) → k < q.frames → OwnRun k l → OwnRun (suc k) (frame_of E n q tg cur c v k l)
      unfolding frame_of advance tick_channel
      own_frame k l h s =
          let t : slot_tick k l ≡ plain_tick k = own_tick k l h s in
          let y : Float = (slot_tick k l).out in
          let new : List Float = set l.audio (audio_index E n k c v) y in
          let old : (p.channel c).samples ++ tab (λ f. get_or new (audio_index E n f c v) nan) k ≡ ((after k).channel c).samples
          = ap (λ (x : List Float). (p.channel c).samples ++ x)
          (tab_same (λ f. get_or new (audio_index E n f c v) nan) (λ f. get_or l.audio (audio_index E n f c v) nan) k
          (λ f b. get_or-set_other l.audio (audio_index E n k c v) (audio_index E n f c v) y nan (frames_differ f k (omega arith)))) ∙ s.given in
          let last : get_or new (audio_index E n k c v) nan ≡ (plain_tick k).out
          = get_or-set_same l.audio (audio_index E n k c v) y nan (rw s.lengths.audio (index_within k h)) ∙ ap (λ (x : Tick). x.out) t in
          record {
            lengths = unfold frame_of in frame_lengths k l s.lengths;
            rec = ap (λ (x : Tick). x.rec) t;
            ring = piece_patch ring_length (slot E n c v) _ l.delay (slot_within l s.lengths) (ring_kept k l s.lengths)
                ∙ ap (λ (x : Tick). x.ring) t;
            given = sym (append_assoc (p.channel c).samples (tab (λ f. get_or new (audio_index E n f c v) nan) k) (get_or new (audio_index E n k c v) nan ∷ []))
                ∙ (λ i. old i ++ last i ∷ []);
            ahead = λ f a b. get_or-set_other l.audio (audio_index E n k c v) (audio_index E n f c v) _ nan (frames_differ f k (omega arith))
                ∙ s.ahead f (le_of_lt a) b;
            count = sym (add_assoc (p.channel c).count l.count (slot_tick k l).over) ∙ (λ i. s.count i + (t i).over);
          }

      abbrev Before : BlockRun → Type 0
      Before w = SlotHolds c v (p.channel c).rec (p.channel c).ring (slot_audio c v q.audio) (get_or q.counts (slot E n c v) 0) w

      abbrev pub After : BlockRun → Type 0
      After w =
          (a : List Float)
          × (m : ℕ)
          × SlotHolds c v ((after q.frames).channel c).rec ((after q.frames).channel c).ring a m w
          × ((p.channel c).samples ++ a ≡ ((after q.frames).channel c).samples)
          × ((p.channel c).count + m ≡ ((after q.frames).channel c).count)

      own_frames : (w : BlockRun) → Before w → OwnRun q.frames (frames_of E n q tg cur c v q.frames w)
      unfolding frames_of
      own_frames w s =
          upto_count OwnRun (frame_of E n q tg cur c v) q.frames _ own_frame
          (record {
            lengths = first_lengths w _ s.lengths;
            rec = s.rec;
            ring = s.ring;
            given = append-nil (p.channel c).samples;
            ahead = λ f a b. sym (tab_at (λ k. get_or w.audio (audio_index E n k c v) nan) q.frames f nan b)
                ∙ ap (λ (x : List Float). get_or x f nan) s.audio ∙ tab_at (λ k. get_or q.audio (audio_index E n k c v) nan) q.frames f nan b;
            count = add-zero (p.channel c).count;
          })

      slot_own : (w : BlockRun) → Before w → After (slot_of E n q tg cur c v w)
      unfolding slot_of
      slot_own w s =
          let g = s.lengths in
          let r = own_frames w s in (
            slot_audio c v (frames_of E n q tg cur c v q.frames w).audio,
            (frames_of E n q tg cur c v q.frames w).count,
            record {
              lengths = slot_lengths w g;
              rec = piece_patch record_width (slot E n c v) _ w.records (rw g.records (slot_fits E n c v record_width hc hv)) r.lengths.rec ∙ r.rec;
              ring = r.ring;
              audio = refl;
              count = get_or-set_same w.counts (slot E n c v) _ 0 (rw g.counts (flat_lt channels n c v hc hv));
            },
            r.given,
            r.count,
          )

  -- ---- the whole block, at the slot of c and v
  module _ (b : Bank) (ok : BlockAccepted E n q b) (v : ℕ) (hv : v < n) where
    abbrev pub targets_at : ℕ → List Float
    targets_at u = piece targets_width u b.targets

    pub targets_at_length : (u : ℕ) → u < n → length (targets_at u) ≡ targets_width
    targets_at_length u hu = length_piece targets_width u b.targets (rw ok.lengths.targets (piece_fits targets_width u n hu))

    module _ (p : PlainVoice) (et : targets_at v ≡ p.targets) (ec : b.cursor ≡ p.cursor) (ew : cursor_after E b.cursor 0 ≡ b.cursor) where
      pub block_slot : (c : ℕ) (hc : c < channels)
          → piece record_width (slot E n c v) b.records ≡ (p.channel c).rec
          → piece ring_length (slot E n c v) b.delay ≡ (p.channel c).ring
          → After (targets_at v) (targets_at_length v hv) b.cursor c v hc hv p et ec ew (block_of E n q b)
      unfolding block_of
      block_slot c hc er ed =
          upto_focus B A (λ i. upto (λ u. slot_of E n q (targets_at u) b.cursor i u) n) channels c _
          (λ i y hi ne h. upto_keep B _ n y (λ u z hu s. other i u hi hu (channels_differ E n c v i u hv hu (λ e. ne (sym e))) _ _ _ _ z s) h)
          (λ y h. upto_focus B A _ n v y
          (λ u z hu ne s. other c u hc hu (voices_differ E n c v c u hv hu (λ e. ne (sym e))) _ _ _ _ z s)
          (λ z s. slot_own (targets_at v) (targets_at_length v hv) b.cursor c v hc hv p et ec ew z s)
          (λ u z hu ne s. (s.0, s.1, other c u hc hu (voices_differ E n c v c u hv hu (λ e. ne (sym e))) _ _ _ _ z s.2, s.3, s.4))
          hv h)
          (λ i y hi ne h. upto_keep A _ n y
          (λ u z hu s. (s.0, s.1, other i u hi hu (channels_differ E n c v i u hv hu (λ e. ne (sym e))) _ _ _ _ z s.2, s.3, s.4)) h)
          hc
          (record {
            lengths = record { records = ok.lengths.records; delay = ok.lengths.delay; audio = ok.audio; counts = ok.counts };
            rec = er;
            ring = ed;
            audio = refl;
            count = refl;
          })
        where
          B : BlockRun → Type 0
          B = Before (targets_at v) (targets_at_length v hv) b.cursor c v hc hv p et ec ew

          A : BlockRun → Type 0
          A = After (targets_at v) (targets_at_length v hv) b.cursor c v hc hv p et ec ew

          other : (i u : ℕ) → i < channels → (hu : u < n) → slot E n c v ≢ slot E n i u
              → (r d a : List Float) (m : ℕ) (z : BlockRun)
              → SlotHolds c v r d a m z → SlotHolds c v r d a m (slot_of E n q (targets_at u) b.cursor i u z)
          other i u hi hu ne r d a m z s = slot_other (targets_at u) (targets_at_length u hu) b.cursor i u hi hu c v hc hv ne r d a m z s
