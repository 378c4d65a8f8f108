-- For the proofs: nothing here must be believed.
-- Slots of the flat lists, and start: a started slot holds its voice's targets and zeros, every other slot keeps its record and ring.
-- Each turn of start replaces one piece, and slots of two channels or two voices differ. Assumes nothing.
use Rattle.std.specs.Prelude.{◌≡◌, ◌≢◌, ℕ, ◌+◌, ◌*◌, ◌≤◌, ◌<◌, Float, length, take}
use Rattle.std.proofs.Math.Path.{refl, subst}
use Rattle.std.proofs.Common.{sym, ◌∙◌, arith, length-append, length-take-le}
use mathlib.Core.List.{List}
use Rattle.std.proofs.lemmas.List.{length-replicate}
use Rattle.lane.specs.Floats.{zero}
use Rattle.parts.specs.Parts.{piece}
use Rattle.parts.specs.Laws.{upto_keep, upto_focus, flat_low, flat_high, flat_lt, piece_fits, length_piece, length_patch, piece_patch, piece_other}
use Rattle.voices.specs.Calls.{smoothed_width, targets_width, record_width, Engine, Bank, start_record, start_ring, slot, start_slot, start_of}
use Rattle.voices.specs.Accepted.{Lengths}

module _ (E : Engine) (n : ℕ) where
  open E use {channels, ring_length}

  pub slot_fits : (c v m : ℕ) → c < channels → v < n → slot E n c v * m + m ≤ channels * n * m
  slot_fits c v m hc hv = piece_fits m (slot E n c v) (channels * n) (flat_lt channels n c v hc hv)

  pub voices_differ : (c v i u : ℕ) → v < n → u < n → v ≢ u → slot E n c v ≢ slot E n i u
  voices_differ c v i u hv hu ne e = ne (flat_low n c i v u hv hu e)

  pub channels_differ : (c v i u : ℕ) → v < n → u < n → c ≢ i → slot E n c v ≢ slot E n i u
  channels_differ c v i u hv hu ne e = ne (flat_high n c i v u hv hu e)

  -- the slot of i and u holds the record r and the ring d
  pub record Slot (i u : ℕ) (r d : List Float) (b : Bank) : Type 0 where
    pub lengths : Lengths E n b
    pub rec : piece record_width (slot E n i u) b.records ≡ r
    pub ring : piece ring_length (slot E n i u) b.delay ≡ d

  pub start_of_keeps : (v : ℕ) (b : Bank) → ((start_of E n v b).targets ≡ b.targets) × ((start_of E n v b).cursor ≡ b.cursor)
  unfolding start_of start_slot
  start_of_keeps v b =
      upto_keep (λ (x : Bank). (x.targets ≡ b.targets) × (x.cursor ≡ b.cursor)) (start_slot E n v) channels b (λ k y h e. e) (refl, refl)

  module _ (v : ℕ) (hv : v < n) where
    start_length : (b : Bank) → Lengths E n b → length (start_record E (piece targets_width v b.targets)) ≡ record_width
    start_length b g =
        let l : length (piece targets_width v b.targets) ≡ targets_width
        = length_piece targets_width v b.targets (rw g.targets (piece_fits targets_width v n hv)) in
        let front : length (take smoothed_width (piece targets_width v b.targets)) ≡ smoothed_width
        = length-take-le smoothed_width (piece targets_width v b.targets) (omega (arith, l)) in
        simp (length-append, length-replicate) (omega (arith, front))

    start_slot_lengths : (c : ℕ) (b : Bank) → c < channels → Lengths E n b → Lengths E n (start_slot E n v c b)
    unfolding start_slot
    start_slot_lengths c b hc g = record {
      targets = g.targets;
      records = length_patch record_width (slot E n c v) _ b.records (rw g.records (slot_fits c v record_width hc hv)) (start_length b g) ∙ g.records;
      delay = length_patch ring_length (slot E n c v) _ b.delay (rw g.delay (slot_fits c v ring_length hc hv)) (length-replicate ring_length zero)
          ∙ g.delay;
    }

    pub start_of_lengths : (b : Bank) → Lengths E n b → Lengths E n (start_of E n v b)
    unfolding start_of
    start_of_lengths b g = upto_keep (Lengths E n) (start_slot E n v) channels b (λ k y h e. start_slot_lengths k y h e) g

    start_slot_other : (c i u : ℕ) (r d : List Float) (b : Bank) → c < channels → slot E n i u ≢ slot E n c v
        → Slot i u r d b → Slot i u r d (start_slot E n v c b)
    unfolding start_slot
    start_slot_other c i u r d b hc ne s =
        let g = s.lengths in
        record {
          lengths = start_slot_lengths c b hc g;
          rec = piece_other record_width (slot E n i u) (slot E n c v) _ b.records ne (rw g.records (slot_fits c v record_width hc hv)) (start_length b g)
              ∙ s.rec;
          ring = piece_other ring_length (slot E n i u) (slot E n c v) _ b.delay ne (rw g.delay (slot_fits c v ring_length hc hv))
              (length-replicate ring_length zero)
              ∙ s.ring;
        }

    start_slot_own : (c : ℕ) (b : Bank) → c < channels → Lengths E n b
        → Slot c v (start_record E (piece targets_width v b.targets)) (start_ring E) (start_slot E n v c b)
    unfolding start_slot
    start_slot_own c b hc g = record {
      lengths = start_slot_lengths c b hc g;
      rec = piece_patch record_width (slot E n c v) _ b.records (rw g.records (slot_fits c v record_width hc hv)) (start_length b g);
      ring = piece_patch ring_length (slot E n c v) _ b.delay (rw g.delay (slot_fits c v ring_length hc hv)) (length-replicate ring_length zero);
    }

    -- a start of v leaves every slot of another voice as it was
    pub start_of_other : (i u : ℕ) (b : Bank) → u < n → u ≢ v → Lengths E n b
        → Slot i u (piece record_width (slot E n i u) b.records) (piece ring_length (slot E n i u) b.delay) (start_of E n v b)
    unfolding start_of
    start_of_other i u b hu ne g =
        upto_keep (Slot i u _ _) (start_slot E n v) channels b
        (λ c y hc s. start_slot_other c i u _ _ y hc (voices_differ i u c v hu hv ne) s)
        (record { lengths = g; rec = refl; ring = refl })

    -- and starts each slot of v
    pub start_of_own : (i : ℕ) (b : Bank) → i < channels → Lengths E n b
        → Slot i v (start_record E (piece targets_width v b.targets)) (start_ring E) (start_of E n v b)
    unfolding start_of
    start_of_own i b hi g =
        upto_focus (λ (x : Bank). Lengths E n x × (x.targets ≡ b.targets)) (Slot i v (start_record E (piece targets_width v b.targets)) (start_ring E))
        (start_slot E n v) channels i b
        (λ c y hc ne h. (start_slot_lengths c y hc h.0, unfold start_slot in h.1))
        (λ y h. subst (λ (t : List Float). Slot i v (start_record E (piece targets_width v t)) (start_ring E) (start_slot E n v i y)) h.1
        (start_slot_own i y hi h.0))
        (λ c y hc ne s. start_slot_other c i v _ _ y hc (channels_differ i v c v hv hv (λ e. ne (sym e))) s)
        hi (g, refl)
