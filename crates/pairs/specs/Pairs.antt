-- For the proofs: nothing here must be believed.
-- One slot or two in one frame loop. The code holds lists of two: what is said here is of those lists. Definitions only. Assumes nothing.
use Rattle.std.specs.Prelude.{◌≡◌, ◌≢◌, false, true, cond, ℕ, ◌+◌, ◌*◌, ◌≤◌, ◌<◌, List, [], ◌∷◌, ◌++◌, eqb, Float, length, get_or, take, drop, set}
use Rattle.std.specs.Float.{nan}
use Rattle.parts.specs.Parts.{upto, piece, patch}
use Rattle.lane.specs.Floats.{◌‼◌}
use Rattle.peak.specs.Running.{settled_of, Runs}
use Rattle.kernels.specs.declared.tuning.KeptNumbers.{KeptNumbers}
use Rattle.kernels.specs.declared.tuning.KeptPlan.{KeptPlan}
use Rattle.run.specs.Run.{PEAK, smooth_of}
use Rattle.run.specs.Promises.{Keeps, Widths, Glided, held_record}
use Rattle.voices.specs.Calls.{smoothed_width, targets_width, states_width, record_width, record_z, SlotRun, BlockRun}
use Rattle.abreast.specs.Abreast.{Two, run_first, run_second, put_first, put_second, Good}
use Rattle.slots.specs.declared.Prepared.{Prepared}
use Rattle.slots.specs.declared.Progress.{Progress}
use Rattle.slots.specs.declared.Slot.{Slot}
use Rattle.slots.specs.Slots.{engine_at, frame_in, slot_in, slot_run, Placed, Buffers}
use Rattle.pairs.specs.declared.Seat.{Seat}
use Rattle.pairs.specs.declared.Span.{Span}

-- ---- the slots

-- what stands at a place of a list
abbrev pub no_seat : Seat
no_seat = record { slot = record { channel = 0; voice = 0; number = 0; sign = nan }; goals = []; held = nan; glided = false; row = 0 }

abbrev pub no_run : Progress
no_run = record { rec = record { params = []; state = []; peak = nan }; count = 0; next = 0 }

abbrev pub no_numbers : KeptNumbers
no_numbers = record { tuning = []; blended = []; over = 0 }

abbrev pub seat_of : List Seat → (s : ℕ) → Seat
seat_of seats s = get_or seats s no_seat

abbrev pub run_of : List Progress → (s : ℕ) → Progress
run_of runs s = get_or runs s no_run

abbrev pub numbers_at : List KeptNumbers → (r : ℕ) → KeptNumbers
numbers_at kept r = get_or kept r no_numbers

-- how many slots there are, and in a list of two the seat of each
pub record Abreast : Type 0 where
  pub wide : ℕ
  pub seats : List Seat

abbrev pub abreast_of : (wide : ℕ) (seats : List Seat) → Abreast
abreast_of wide seats = record { wide = wide; seats = seats }

abbrev pub slot_at : Abreast → (s : ℕ) → Slot
slot_at a s = (seat_of a.seats s).slot

abbrev pub goals_at : Abreast → (s : ℕ) → List Float
goals_at a s = (seat_of a.seats s).goals

-- one slot stands in both places; two are different
pub record Seated (e : Prepared) (a : Abreast) : Type 0 where
  pub least : 1 ≤ a.wide
  pub most : a.wide ≤ 2
  pub seats : length a.seats ≡ 2
  pub placed : (s : ℕ) → s < 2 → Placed e (slot_at a s)
  pub targets : (s : ℕ) → s < 2 → length (goals_at a s) ≡ targets_width
  pub apart : a.wide ≡ 2 → (slot_at a 0).number ≢ (slot_at a 1).number

-- ---- what the loop has in hand

-- how far each slot has come; the lists that it writes
pub record Hand : Type 0 where
  pub runs : List Progress
  pub delay : List Float
  pub audio : List Float

abbrev pub hand_of : (runs : List Progress) (delay audio : List Float) → Hand
hand_of runs delay audio = record { runs = runs; delay = delay; audio = audio }

-- the numbers kept from frame to frame, for each slot or for both
pub record Store : Type 0 where
  pub kept : List KeptNumbers
  pub comb : KeptPlan

abbrev pub store_of : (kept : List KeptNumbers) (comb : KeptPlan) → Store
store_of kept comb = record { kept = kept; comb = comb }

abbrev pub Keeping : (e : Prepared) (sections : List Float) → KeptNumbers → KeptPlan → Type 0
Keeping e sections k comb = Keeps e.m e.len sections k.tuning k.blended k.over comb.plan comb.teeth

-- the lists are as long as they should be, what is kept is right, a glide that has ended leaves the smoothed numbers, no count is
-- above eight a frame, no slot is past the block's end, and where there is one slot the other place has no frame
pub record Sound (e : Prepared) (sections ps xs ys : List Float) (a : Abreast) (h : Hand) (k : Store) : Type 0 where
  pub runs : length h.runs ≡ 2
  pub kept : length k.kept ≡ 2
  pub widths : (s : ℕ) → s < 2 → Widths (run_of h.runs s).rec.params (run_of h.runs s).rec.state
  pub keeps : (r : ℕ) → r < 2 → Keeping e sections (numbers_at k.kept r) k.comb
  pub glides : (s : ℕ) → s < 2 → (seat_of a.seats s).glided ≡ true → Glided e.m.k.alpha (goals_at a s) (run_of h.runs s).rec.params
  pub counts : (s : ℕ) → s < 2 → (run_of h.runs s).count ≤ 8 * (run_of h.runs s).next
  pub ends : (s : ℕ) → s < 2 → (run_of h.runs s).next ≤ e.frames
  pub alone : a.wide ≡ 1 → (run_of h.runs 1).next ≡ 0
  pub buffers : Buffers e ps xs ys h.delay h.audio

-- ---- what it has done

-- a slot's record in hand, with the peak that the block began with; and its run
abbrev pub held_of : (b : Float) → Progress → List Float
held_of b r = held_record r.rec.params r.rec.state b r.rec.peak

abbrev pub run_with : (b : Float) → Progress → (delay audio : List Float) → SlotRun
run_with b r ds au = slot_run r.rec.params r.rec.state b r.rec.peak ds au r.count

-- both slots in hand, with the peaks that the block began with
abbrev pub two_of : (b c : Float) → Hand → Two
two_of b c h = record {
  first = held_of b (run_of h.runs 0);
  second = held_of c (run_of h.runs 1);
  delay = h.delay;
  audio = h.audio;
  first_count = (run_of h.runs 0).count;
  second_count = (run_of h.runs 1).count;
}

-- a slot's next frame was worked
pub record Framed (e : Prepared) (sections ps xs ys : List Float) (seat : Seat) (was : Progress) (ds au : List Float) (run : Progress)
    (ds' au' : List Float) : Type 0 where
  pub next : run.next ≡ was.next + 1
  pub count : run.count ≤ was.count + 8
  pub widths : Widths run.rec.params run.rec.state
  pub smooth : run.rec.params ≡ smooth_of e.m.k.alpha seat.goals was.rec.params
  pub peaks : (b : Float) → Runs b was.rec.peak → Runs b run.rec.peak
  pub frame : (b : Float) → Runs b was.rec.peak
      → run_with b run ds' au' ≡ frame_in e sections seat.goals ps xs ys seat.slot was.next (run_with b was ds au)

module _ (e : Prepared) (sections ps xs ys : List Float) (a : Abreast) where
  abbrev pub frame_at : (s k : ℕ) → SlotRun → SlotRun
  frame_at s = frame_in e sections (goals_at a s) ps xs ys (slot_at a s)

  -- k frames of the first slot and j of the second
  abbrev pub reached_at : Two → (k j : ℕ) → Two
  reached_at start k j =
      upto (λ i x. put_second x (frame_at 1 i (run_second x))) j (upto (λ i x. put_first x (frame_at 0 i (run_first x))) k start)

  -- from `start` each slot's frames up to its next one were worked
  pub record Held (b c : Float) (start : Two) (h : Hand) : Type 0 where
    pub first_runs : Runs b (run_of h.runs 0).rec.peak
    pub second_runs : Runs c (run_of h.runs 1).rec.peak
    pub good : Good (engine_at e sections) e.voices start
    pub two : two_of b c h ≡ reached_at start (run_of h.runs 0).next (run_of h.runs 1).next

  -- whatever the frames were worked from, they still are
  abbrev pub Goes : Hand → Hand → Type 0
  Goes h h' = (b c : Float) (start : Two) → Held b c start h → Held b c start h'

-- the slots from lo up to hi have come to frame f or are past it, no slot further than to f or where it stood, and the others stand where they stood
pub record Advances (lo hi f : ℕ) (runs runs' : List Progress) : Type 0 where
  pub least : (i : ℕ) → lo ≤ i → i < hi → f ≤ (run_of runs' i).next
  pub most : (i u : ℕ) → (run_of runs i).next ≤ u → f ≤ u → (run_of runs' i).next ≤ u
  pub below : (i : ℕ) → i < lo → (run_of runs' i).next ≡ (run_of runs i).next
  pub above : (i : ℕ) → hi ≤ i → (run_of runs' i).next ≡ (run_of runs i).next

-- ---- turns

-- the slots and frames of turn t: frame 0 of slot t, or what is left of every slot
pub record Spans (wide t frames : ℕ) (runs : List Progress) (s : Span) : Type 0 where
  pub order : s.lo ≤ s.hi
  pub within : s.hi ≤ wide
  pub some : s.lo < wide
  pub forward : s.from ≤ s.end
  pub ends : s.end ≤ frames
  pub reach : (i : ℕ) → s.lo ≤ i → i < s.hi → s.from ≤ (run_of runs i).next
  pub first : t < wide → (s.lo ≡ t) × (s.hi ≡ t + 1) × (s.end ≡ 1)
  pub last : t ≡ wide → (s.lo ≡ 0) × (s.hi ≡ wide) × (s.end ≡ frames)

-- ---- loaded and stored

-- a slot's smoothed numbers and states in the list of records
abbrev pub smoothed_at : (number : ℕ) (records : List Float) → List Float
smoothed_at n rs = take smoothed_width (drop (n * record_width) rs) ++ rs ‼ (n * record_width + record_z) ∷ []

abbrev pub states_at : (number : ℕ) (records : List Float) → List Float
states_at n rs = take states_width (drop (n * record_width + smoothed_width) rs)

-- a slot's seat and its record in hand before the first frame
pub record Loaded (e : Prepared) (tg rs : List Float) (seat : Seat) (run : Progress) : Type 0 where
  pub goals : seat.goals ≡ piece targets_width seat.slot.voice tg
  pub params : run.rec.params ≡ smoothed_at seat.slot.number rs
  pub state : run.rec.state ≡ states_at seat.slot.number rs
  pub held : seat.held ≡ rs ‼ (seat.slot.number * record_width + PEAK)
  pub peak : Runs seat.held run.rec.peak
  pub settles : settled_of seat.held run.rec.peak ≡ seat.held
  pub glides : seat.glided ≡ true → Glided e.m.k.alpha seat.goals run.rec.params
  pub count : run.count ≡ 0
  pub next : run.next ≡ 0

-- one record and count are stored, or two
pub record Stored (wide a b : ℕ) (r s : List Float) (k j : ℕ) (records : List Float) (counts : List ℕ)
    (records' : List Float) (counts' : List ℕ) : Type 0 where
  pub one : wide < 2 → (records' ≡ patch record_width a r records) × (counts' ≡ set counts a k)
  pub two : 2 ≤ wide → (records' ≡ patch record_width b s (patch record_width a r records)) × (counts' ≡ set (set counts a k) b j)

-- ---- a block

abbrev pub one_or_two : (wide : ℕ) (second : BlockRun → BlockRun) → BlockRun → BlockRun
one_or_two wide second w = cond (eqb wide 2) (second w) w

-- both channels of a voice
abbrev pub voice_in : Prepared → (sections targets pitch x y : List Float) (voice : ℕ) → BlockRun → BlockRun
voice_in e sections tg pitch x y v w = slot_in e sections tg pitch x y 1 v (slot_in e sections tg pitch x y 0 v w)
