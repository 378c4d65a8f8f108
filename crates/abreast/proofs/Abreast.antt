-- For the proofs: nothing here must be believed.
-- Two slots in one frame loop: their frames in any order that keeps each slot's own leave what the frames of the one and then those of the other leave.
-- Frames of different slots commute, since they touch different records, rings, samples and counts; so do slots. Assumes nothing.
use Rattle.std.specs.Prelude.{◌≡◌, refl, ◌≢◌}
use Rattle.std.proofs.Common.{sym, ◌∙◌, subst, add-zero, add-suc, arith, get_or-set_other}
use Rattle.std.proofs.Math.Path.{ap}
use Prim.Native.Nat.{ℕ, zero, suc, ◌+◌, ◌*◌, ◌<◌, ◌≤◌}
use mathlib.Core.List.{List}
use Rattle.std.specs.Float.Ieee.{Float, nan}
use Rattle.std.proofs.Math.ListN.{length, set}
use Rattle.std.proofs.Math.Seq.{set_comm}
use Rattle.lane.specs.Floats.{◌‼◌}
use Rattle.parts.specs.Parts.{upto, piece, patch}
use Rattle.parts.specs.Laws.{upto_keep, length_piece, length_patch, piece_other, piece_fits, flat_lt, flat_low}
use Rattle.parts.proofs.Turns.{slide, in_step, patch_comm}
use Rattle.voices.specs.Calls.{targets_width, record_width, Tick, Engine, Laws, Block, BlockRun, SlotRun, cursor_after, pitch_index, audio_index}
use Rattle.voices.specs.Calls.{steering_at, frame_of, frames_of, slot_of}
use Rattle.voices.proofs.Slots.{slot_fits, channels_differ}
use Rattle.abreast.specs.Abreast.{Two, run_first, run_second, put_first, put_second, Lane, at, Good, store_first, load_two, store_two, InStep, ByVoice}
use Rattle.abreast.specs.Abreast as two

-- the two exchanged
abbrev swap : Two → Two
swap x = record {
  first = x.second;
  second = x.first;
  delay = x.delay;
  audio = x.audio;
  first_count = x.second_count;
  second_count = x.first_count;
}

module _ (E : Engine) (n : ℕ) where
  open E use {channels, ring_length, tick}

  at_below : (s : Lane E n) → at s < channels * n
  at_below s = flat_lt channels n s.channel s.voice s.below s.within

  fits : (s : Lane E n) (m : ℕ) → at s * m + m ≤ channels * n * m
  fits s m = slot_fits E n s.channel s.voice m s.below s.within

  record Long (w : BlockRun) : Type 0 where
    records : length w.records ≡ channels * n * record_width
    delay : length w.delay ≡ channels * n * ring_length

  module _ (a b : Lane E n) where
    load_good : (w : BlockRun) → Long w → Good E n (load_two E n a b w)
    load_good w g = record {
      first = length_piece record_width (at a) w.records (rw g.records (fits a record_width));
      second = length_piece record_width (at b) w.records (rw g.records (fits b record_width));
      delay = g.delay;
    }

  -- stored in either order
  store_swap : (a b : Lane E n) → at a ≢ at b → (w : BlockRun) → Long w → (x : Two) → Good E n x → store_two E n a b w x ≡ store_two E n b a w (swap x)
  store_swap a b ne w g x h =
      let fa : at a * record_width + record_width ≤ length w.records = rw g.records (fits a record_width) in
      let fb : at b * record_width + record_width ≤ length w.records = rw g.records (fits b record_width) in
      let er = patch_comm nan record_width (at b) (at a) x.second x.first w.records (λ e. ne (sym e)) fb fa h.second h.first in
      let ec = set_comm w.counts (at a) (at b) x.first_count x.second_count ne in
      λ i. record { records = er i; delay = x.delay; audio = x.audio; counts = ec i }

  module _ (q : Block) (cur : ℕ) where
    abbrev frame : Lane E n → ℕ → SlotRun → SlotRun
    frame = two.frame E n q cur

    -- where a frame's sample stands
    abbrev place : Lane E n → ℕ → ℕ
    place s k = audio_index E n k s.channel s.voice

    -- the tick of a frame, from what it reads: the input, the record and the ring
    abbrev ticked : Lane E n → ℕ → Float → List Float → List Float → Tick
    ticked s k i r d = tick s.channel s.targets (cursor_after E cur k) (q.pitch ‼ pitch_index E n k s.voice) i (steering_at E n q k s.voice) r d

    places_differ : (s t : Lane E n) (k j : ℕ) → at s ≢ at t → place s k ≢ place t j
    places_differ s t k j ne e = ne (flat_low (channels * n) k j (at s) (at t) (at_below s) (at_below t) e)

    -- another slot's frame changes nothing that this slot's tick reads
    tick_same : (s t : Lane E n) (k j : ℕ) (r ring delay audio : List Float) (out : Float) → at s ≢ at t
        → length delay ≡ channels * n * ring_length → length ring ≡ ring_length
        → ticked s k (set audio (place t j) out ‼ place s k) r (piece ring_length (at s) (patch ring_length (at t) ring delay))
        ≡ ticked s k (audio ‼ place s k) r (piece ring_length (at s) delay)
    tick_same s t k j r ring delay audio out ne ld lr =
        let g = get_or-set_other audio (place t j) (place s k) out nan (places_differ s t k j ne) in
        let p = piece_other ring_length (at s) (at t) ring delay ne (rw ld (fits t ring_length)) lr in
        λ i. ticked s k (g i) r (p i)

    module _ (a b : Lane E n) where
      abbrev step_first : ℕ → Two → Two
      step_first = two.step_first E n q cur a b

      abbrev step_second : ℕ → Two → Two
      step_second = two.step_second E n q cur a b

      abbrev reached : (start : Two) (k j : ℕ) → Two
      reached = two.reached E n q cur a b

      -- the first slot's next m frames, before any of the second
      pub first_alone : (start : Two) (k m : ℕ)
          → put_first (reached start k 0) (upto (λ i. frame a (k + i)) m (run_first (reached start k 0))) ≡ reached start (k + m) 0
      first_alone start k zero = ap (λ (i : ℕ). reached start i 0) (sym (add-zero k))
      first_alone start k (suc m) = ap (step_first (k + m)) (first_alone start k m) ∙ ap (λ (i : ℕ). reached start i 0) (sym (add-suc k m))

      -- the second slot's next m frames
      pub second_more : (start : Two) (k j m : ℕ)
          → put_second (reached start k j) (upto (λ i. frame b (j + i)) m (run_second (reached start k j))) ≡ reached start k (j + m)
      second_more start k j zero = ap (λ (i : ℕ). reached start k i) (sym (add-zero j))
      second_more start k j (suc m) = ap (step_second (j + m)) (second_more start k j m) ∙ ap (λ (i : ℕ). reached start k i) (sym (add-suc j m))

      -- frames from 0 on, without the other slot's record and count
      frames_first : (m : ℕ) (x : Two) → upto step_first m x ≡ put_first x (upto (frame a) m (run_first x))
      frames_first zero x = refl
      frames_first (suc m) x = ap (step_first m) (frames_first m x)

      frames_second : (m : ℕ) (x : Two) → upto step_second m x ≡ put_second x (upto (frame b) m (run_second x))
      frames_second zero x = refl
      frames_second (suc m) x = ap (step_second m) (frames_second m x)

      -- a block through the first slot alone
      pub slot_alone : (w : BlockRun) → store_first E n a w (reached (load_two E n a b w) q.frames 0) ≡ slot_of E n q a.targets cur a.channel a.voice w
      unfolding slot_of frames_of
      slot_alone w = ap (store_first E n a w) (frames_first q.frames (load_two E n a b w))

    -- what is the first of one pair is the second of the other
    swap_first : (a b : Lane E n) (m : ℕ) (x : Two) → upto (step_first b a) m (swap x) ≡ swap (upto (step_second a b) m x)
    swap_first a b zero x = refl
    swap_first a b (suc m) x = ap (step_first b a m) (swap_first a b m x)

    swap_second : (a b : Lane E n) (m : ℕ) (x : Two) → upto (step_second b a) m (swap x) ≡ swap (upto (step_first a b) m x)
    swap_second a b zero x = refl
    swap_second a b (suc m) x = ap (step_second b a m) (swap_second a b m x)

    module _ (laws : Laws E) where
      module _ (s : Lane E n) (k : ℕ) (i : Float) (r delay : List Float)
          (lr : length r ≡ record_width) (ld : length delay ≡ channels * n * ring_length) where
        ring_kept : length (ticked s k i r (piece ring_length (at s) delay)).ring ≡ ring_length
        ring_kept =
            laws.ring_length_lem s.channel s.targets _ _ i _ r (piece ring_length (at s) delay) s.below s.wide lr
            (length_piece ring_length (at s) delay (rw ld (fits s ring_length)))

        rec_kept : length (ticked s k i r (piece ring_length (at s) delay)).rec ≡ record_width
        rec_kept =
            laws.rec_length s.channel s.targets _ _ i _ r (piece ring_length (at s) delay) s.below s.wide lr
            (length_piece ring_length (at s) delay (rw ld (fits s ring_length)))

        delay_kept : length (patch ring_length (at s) (ticked s k i r (piece ring_length (at s) delay)).ring delay) ≡ channels * n * ring_length
        delay_kept = length_patch ring_length (at s) _ delay (rw ld (fits s ring_length)) ring_kept ∙ ld

      good_first : (a b : Lane E n) (k : ℕ) (x : Two) → Good E n x → Good E n (step_first a b k x)
      unfolding frame_of
      good_first a b k x g = record {
        first = rec_kept a k _ x.first x.delay g.first g.delay;
        second = g.second;
        delay = delay_kept a k _ x.first x.delay g.first g.delay;
      }

      good_second : (a b : Lane E n) (k : ℕ) (x : Two) → Good E n x → Good E n (step_second a b k x)
      unfolding frame_of
      good_second a b k x g = record {
        first = g.first;
        second = rec_kept b k _ x.second x.delay g.second g.delay;
        delay = delay_kept b k _ x.second x.delay g.second g.delay;
      }

      module _ (a b : Lane E n) where
        good_reached : (start : Two) (k j : ℕ) → Good E n start → Good E n (reached a b start k j)
        good_reached start k j g =
            upto_keep (Good E n) (step_second a b) j _ (λ i y l. good_second a b i y) (upto_keep (Good E n) (step_first a b) k start (λ i y l. good_first a b i y) g)

        -- frames of two slots commute
        commute : at a ≢ at b → (k j : ℕ) (x : Two) → Good E n x → step_first a b k (step_second a b j x) ≡ step_second a b j (step_first a b k x)
        unfolding frame_of
        commute ne k j x g =
            let d = g.delay in
            let ta : Tick = ticked a k (x.audio ‼ place a k) x.first (piece ring_length (at a) x.delay) in
            let tb : Tick = ticked b j (x.audio ‼ place b j) x.second (piece ring_length (at b) x.delay) in
            let la : length ta.ring ≡ ring_length = ring_kept a k _ x.first x.delay g.first d in
            let lb : length tb.ring ≡ ring_length = ring_kept b j _ x.second x.delay g.second d in
            let fa : at a * ring_length + ring_length ≤ length x.delay = rw d (fits a ring_length) in
            let fb : at b * ring_length + ring_length ≤ length x.delay = rw d (fits b ring_length) in
            let ea = tick_same a b k j x.first tb.ring x.delay x.audio tb.out ne d lb in
            let eb = tick_same b a j k x.second ta.ring x.delay x.audio ta.out (λ e. ne (sym e)) d la in
            λ i. record {
              first = (ea i).rec;
              second = (sym eb i).rec;
              delay = (ap (λ (t : Tick). patch ring_length (at a) t.ring (patch ring_length (at b) tb.ring x.delay)) ea
                  ∙ patch_comm nan ring_length (at a) (at b) ta.ring tb.ring x.delay ne fa fb la lb
                  ∙ ap (λ (t : Tick). patch ring_length (at b) t.ring (patch ring_length (at a) ta.ring x.delay)) (sym eb)) i;
              audio = (ap (λ (t : Tick). set (set x.audio (place b j) tb.out) (place a k) t.out) ea
                  ∙ set_comm x.audio (place b j) (place a k) tb.out ta.out (places_differ b a j k (λ e. ne (sym e)))
                  ∙ ap (λ (t : Tick). set (set x.audio (place a k) ta.out) (place b j) t.out) (sym eb)) i;
              first_count = x.first_count + (ea i).over;
              second_count = x.second_count + (sym eb i).over;
            }

        -- a frame more of the first slot, after j of the second
        one_more : at a ≢ at b → (start : Two) → Good E n start → (k j : ℕ) → step_first a b k (reached a b start k j) ≡ reached a b start (suc k) j
        one_more ne start g k j =
            slide (Good E n) (step_first a b k) (step_second a b) j (upto (step_first a b) k start) (λ i y l. commute ne k i y) (λ i y l. good_second a b i y)
            (good_reached start k 0 g)

        -- the first slot's next m frames
        pub first_more : at a ≢ at b → (start : Two) → Good E n start → (k j m : ℕ)
            → put_first (reached a b start k j) (upto (λ i. frame a (k + i)) m (run_first (reached a b start k j))) ≡ reached a b start (k + m) j
        first_more ne start g k j zero = ap (λ (i : ℕ). reached a b start i j) (sym (add-zero k))
        first_more ne start g k j (suc m) =
            ap (step_first a b (k + m)) (first_more ne start g k j m)
            ∙ one_more ne start g (k + m) j
            ∙ ap (λ (i : ℕ). reached a b start i j) (sym (add-suc k m))

        -- a block through both slots in one loop is a block through the one and then through the other
        pub slots_abreast : at a ≢ at b → (w : BlockRun)
            → length w.records ≡ channels * n * record_width → length w.delay ≡ channels * n * ring_length
            → store_two E n a b w (reached a b (load_two E n a b w) q.frames q.frames)
            ≡ slot_of E n q b.targets cur b.channel b.voice (slot_of E n q a.targets cur a.channel a.voice w)
        unfolding slot_of frames_of
        slots_abreast ne w lr ld =
            let m : ℕ = q.frames in
            let x : Two = load_two E n a b w in
            let l : SlotRun = upto (frame a) m (run_first x) in
            let e : upto (step_first a b) m x ≡ put_first x l = frames_first a b m x in
            let g : Good E n (upto (step_first a b) m x) = good_reached x m 0 (load_good a b w (record { records = lr; delay = ld })) in
            let ll : length l.rec ≡ record_width = ap (λ (y : Two). length y.first) (sym e) ∙ g.first in
            let p : piece record_width (at b) (patch record_width (at a) l.rec w.records) ≡ piece record_width (at b) w.records
            = piece_other record_width (at b) (at a) l.rec w.records (λ i. ne (sym i)) (rw lr (fits a record_width)) ll in
            let end : List Float → BlockRun
            = λ r.
            let u : SlotRun = upto (frame b) m (record { rec = r; delay = l.delay; audio = l.audio; count = 0 }) in
            record {
              records = patch record_width (at b) u.rec (patch record_width (at a) l.rec w.records);
              delay = u.delay;
              audio = u.audio;
              counts = set (set w.counts (at a) l.count) (at b) u.count;
            } in
            ap (store_two E n a b w) (ap (upto (step_second a b) m) e ∙ frames_second a b m (put_first x l)) ∙ ap end (sym p)

      -- slots of two places commute
      pub slots_commute : (a b : Lane E n) → at a ≢ at b → (w : BlockRun)
          → length w.records ≡ channels * n * record_width → length w.delay ≡ channels * n * ring_length
          → slot_of E n q b.targets cur b.channel b.voice (slot_of E n q a.targets cur a.channel a.voice w)
          ≡ slot_of E n q a.targets cur a.channel a.voice (slot_of E n q b.targets cur b.channel b.voice w)
      slots_commute a b ne w lr ld =
          let m : ℕ = q.frames in
          let x : Two = load_two E n a b w in
          let long : Long w = record { records = lr; delay = ld } in
          let g : Good E n x = load_good a b w long in
          let other : upto (step_first a b) m (upto (step_second a b) m x) ≡ reached a b x m m
          = slide (Good E n) (upto (step_first a b) m) (step_second a b) m x
          (λ j y l h. sym (slide (Good E n) (step_second a b j) (step_first a b) m y (λ k z i o. sym (commute a b ne k j z o)) (λ k z i. good_first a b k z) h))
          (λ j y l. good_second a b j y) g in
          let back : reached b a (swap x) m m ≡ swap (reached a b x m m)
          = ap (upto (step_second b a) m) (swap_first a b m x) ∙ swap_second a b m (upto (step_second a b) m x) ∙ ap swap other in
          sym (slots_abreast a b ne w lr ld)
          ∙ store_swap a b ne w long (reached a b x m m) (good_reached a b x m m g)
          ∙ ap (store_two E n b a w) (sym back)
          ∙ slots_abreast b a (λ e. ne (sym e)) w lr ld

      slot_long : (s : Lane E n) (w : BlockRun) → Long w → Long (slot_of E n q s.targets cur s.channel s.voice w)
      slot_long s w g =
          let h : Good E n (reached s s (load_two E n s s w) q.frames 0) = good_reached s s (load_two E n s s w) q.frames 0 (load_good s s w g) in
          subst Long (slot_alone s s w)
          (record {
            records = length_patch record_width (at s) _ w.records (rw g.records (fits s record_width)) h.first ∙ g.records;
            delay = h.delay;
          })

      -- of two channels, both of each voice in turn are what a block does channel by channel
      pub both_channels : (tg : List Float) → length tg ≡ n * targets_width → channels ≡ 2 → (w : BlockRun)
          → length w.records ≡ channels * n * record_width → length w.delay ≡ channels * n * ring_length
          → upto (λ v y. slot_of E n q (piece targets_width v tg) cur 1 v (slot_of E n q (piece targets_width v tg) cur 0 v y)) n w
          ≡ upto (λ v. slot_of E n q (piece targets_width v tg) cur 1 v) n (upto (λ v. slot_of E n q (piece targets_width v tg) cur 0 v) n w)
      both_channels tg lt two w lr ld =
          in_step Long (λ v. slot_of E n q (piece targets_width v tg) cur 0 v) (λ v. slot_of E n q (piece targets_width v tg) cur 1 v) n w
          (λ k j y hk hj g. slots_commute (right j hj) (left k hk) (channels_differ E n 1 j 0 k hj hk (λ e. omega arith)) y g.records g.delay)
          (λ k y hk g. slot_long (left k hk) y g)
          (λ k y hk g. slot_long (right k hk) y g)
          (record { records = lr; delay = ld })
        where
          wide : (v : ℕ) → v < n → length (piece targets_width v tg) ≡ targets_width
          wide v hv = length_piece targets_width v tg (rw lt (piece_fits targets_width v n hv))

          left : (v : ℕ) → v < n → Lane E n
          left v hv = record { channel = 0; voice = v; targets = piece targets_width v tg; below = omega arith; within = hv; wide = wide v hv }

          right : (v : ℕ) → v < n → Lane E n
          right v hv = record { channel = 1; voice = v; targets = piece targets_width v tg; below = omega arith; within = hv; wide = wide v hv }

      -- ---- so the claims hold
      pub in_step_holds : (a b : Lane E n) → InStep E n q cur a b
      in_step_holds a b = record { first_more = first_more a b; slots_abreast = slots_abreast a b }

      pub by_voice : ByVoice E n q cur
      by_voice = record { both_channels = both_channels }
