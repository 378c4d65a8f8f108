-- For the proofs: nothing here must be believed.
-- A block through one slot or two: what is loaded is sound, each turn leaves it so, and what is stored after the last turn is the slots' block.
-- Assumes nothing.
use Rattle.std.specs.Prelude.{◌≡◌, refl, ◌≢◌, true, ℕ, zero, suc, ◌+◌, ◌*◌, ◌≤◌, ◌<◌, List, [], ◌∷◌, Float, length, drop, set}
use Rattle.std.proofs.Common.{sym, ap, ◌∙◌, subst, zero-le, arith, length-drop, length-take-le}
use Rattle.parts.specs.Parts.{piece, patch}
use Rattle.parts.specs.Laws.{length_piece}
use Rattle.run.specs.Promises.{Widths, Glided, record_of}
use Rattle.voices.specs.Calls.{smoothed_width, targets_width, states_width, record_width, Engine, BlockRun, slot_of}
use Rattle.abreast.specs.Abreast.{Two, Lane, store_first, load_two, store_two}
use Rattle.abreast.proofs.Abreast.{slot_alone, slots_abreast}
use Rattle.slots.specs.declared.Prepared.{Prepared}
use Rattle.slots.specs.declared.Progress.{Progress}
use Rattle.slots.specs.declared.Slot.{Slot}
use Rattle.slots.specs.Slots.{solo_at, engine_at, block_at, block_run, slot_in, Worked, Placed, Buffers, Lists}
use Rattle.slots.specs.Records.{replaced_long, record_loaded}
use Rattle.slots.specs.Laws.{engine_laws}
use Rattle.pairs.specs.Turning.{both_places}
use Rattle.pairs.specs.declared.Seat.{Seat}
use Rattle.pairs.specs.Pairs.{Abreast, abreast_of, slot_at, goals_at, seat_of, run_of, numbers_at, Seated, Hand, hand_of, Store, Keeping, Sound}
use Rattle.pairs.specs.Pairs.{held_of, two_of, reached_at, Held, Goes, Loaded, Stored, one_or_two}

-- one slot or two
by_wide : (x y : BlockRun) (second : BlockRun → BlockRun) (wide : ℕ) → 1 ≤ wide → wide ≤ 2
    → (wide < 2 → x ≡ y) → (2 ≤ wide → x ≡ second y)
    → x ≡ one_or_two wide second y
by_wide x y second zero l m f s = absurd (omega (arith, l))
by_wide x y second (suc zero) l m f s = f (omega arith)
by_wide x y second (suc (suc zero)) l m f s = s (omega arith)
by_wide x y second (suc (suc (suc n))) l m f s = absurd (omega (arith, m))

-- ---- the turns

-- after t turns from `start` what is in hand is sound, each slot's frames up to its next one are worked, none of a slot from t on; and after the
-- last turn all frames
pub record Turning (e : Prepared) (sections ps xs ys : List Float) (a : Abreast) (start h : Hand) (k : Store) (t : ℕ) : Type 0 where
  pub within : t ≤ a.wide + 1
  pub sound : Sound e sections ps xs ys a h k
  pub goes : Goes e sections ps xs ys a start h
  pub ahead : (i : ℕ) → t ≤ i → i < 2 → (run_of h.runs i).next ≡ 0
  pub done : t ≡ a.wide + 1 → (i : ℕ) → i < a.wide → (run_of h.runs i).next ≡ e.frames

module _ (e : Prepared) (sections ps xs ys : List Float) (a : Abreast) where
  pub turning_start : (h : Hand) (k : Store) → 1 ≤ a.wide → Sound e sections ps xs ys a h k
      → ((i : ℕ) → i < 2 → (run_of h.runs i).next ≡ 0)
      → Turning e sections ps xs ys a h h k 0
  turning_start h k l s n = record {
    within = zero-le;
    sound = s;
    goes = λ b c start held. held;
    ahead = λ i _ j. n i j;
    done = λ z. absurd (omega (arith, z));
  }

  pub turning_again : (start h h' : Hand) (k k' : Store) (t : ℕ) → Turning e sections ps xs ys a start h k t → t ≤ a.wide
      → Sound e sections ps xs ys a h' k'
      → Goes e sections ps xs ys a h h'
      → ((i : ℕ) → t < i → i < 2 → (run_of h'.runs i).next ≡ 0)
      → (t ≡ a.wide → (i : ℕ) → i < a.wide → (run_of h'.runs i).next ≡ e.frames)
      → Turning e sections ps xs ys a start h' k' (t + 1)
  turning_again start h h' k k' t r l s g n d = record {
    within = omega (arith, l);
    sound = s;
    goes = λ b c x held. g b c x (r.goes b c x held);
    ahead = λ i j m. n i (omega (arith, j)) m;
    done = λ z. d (omega (arith, z));
  }

-- ---- what is loaded of two slots

module _ (e : Prepared) (sections ps xs ys : List Float) (one two : Seat) (wide : ℕ) (g : Worked e) (hp : Placed e one.slot) (hq : Placed e two.slot)
    (least : 1 ≤ wide) (most : wide ≤ 2) (apart : wide ≡ 2 → one.slot.number ≢ two.slot.number)
    (tg rs ds au : List Float) (ks : List ℕ) (lists : Lists e tg rs ks) (buffers : Buffers e ps xs ys ds au)
    (r s : Progress) (lp : Loaded e tg rs one r) (lq : Loaded e tg rs two s) where
  abbrev p : Slot
  p = one.slot

  abbrev q : Slot
  q = two.slot

  abbrev pub seats : Abreast
  seats = abreast_of wide (one ∷ two ∷ [])

  abbrev pub handed : Hand
  handed = hand_of (r ∷ s ∷ []) ds au

  fits : (s : Slot) → Placed e s → s.number * record_width + record_width ≤ length rs
  fits s h = omega (arith, h.below, lists.records)

  goal_long : (s : Slot) → Placed e s → length (piece targets_width s.voice tg) ≡ targets_width
  goal_long s h = length_piece targets_width s.voice tg (omega (arith, h.voice, lists.targets))

  goals_long : (s : ℕ) → s < 2 → length (goals_at seats s) ≡ targets_width
  goals_long =
      both_places (λ s. length (goals_at seats s) ≡ targets_width) (ap length lp.goals ∙ goal_long p hp) (ap length lq.goals ∙ goal_long q hq)

  pub seated : Seated e seats
  seated = record {
    least = least;
    most = most;
    seats = refl;
    placed = both_places (λ s. Placed e (slot_at seats s)) hp hq;
    targets = goals_long;
    apart = apart;
  }

  part_widths : (seat : Seat) (run : Progress) → Placed e seat.slot → Loaded e tg rs seat run → Widths run.rec.params run.rec.state
  part_widths seat run h l =
      let n : ℕ = seat.slot.number in
      record {
        params = ap length l.params ∙ replaced_long (drop (n * record_width) rs) (simp length-drop (omega (arith, fits seat.slot h))) _;
        state = ap length l.state
            ∙ length-take-le states_width (drop (n * record_width + smoothed_width) rs) (simp length-drop (omega (arith, fits seat.slot h)));
      }

  module _ (k : Store) (lk : length k.kept ≡ 2) (keeps : (i : ℕ) → i < 2 → Keeping e sections (numbers_at k.kept i) k.comb) where
    nothing : (run : Progress) → run.count ≡ 0 → run.count ≤ 8 * run.next
    nothing run z = omega (arith, z)

    pub sound : Sound e sections ps xs ys seats handed k
    sound = record {
      runs = refl;
      kept = lk;
      widths = both_places (λ s. Widths (run_of handed.runs s).rec.params (run_of handed.runs s).rec.state) (part_widths one r hp lp) (part_widths two s hq lq);
      keeps = keeps;
      glides = both_places
          (λ s. (seat_of seats.seats s).glided ≡ true → Glided e.m.k.alpha (goals_at seats s) (run_of handed.runs s).rec.params)
          lp.glides lq.glides;
      counts = both_places (λ s. (run_of handed.runs s).count ≤ 8 * (run_of handed.runs s).next) (nothing r lp.count) (nothing s lq.count);
      ends = both_places (λ s. (run_of handed.runs s).next ≤ e.frames) (omega (arith, lp.next)) (omega (arith, lq.next));
      alone = λ h. lq.next;
      buffers = buffers;
    }

    pub turning : Turning e sections ps xs ys seats handed handed k 0
    turning = turning_start e sections ps xs ys seats handed k least sound (both_places (λ i. (run_of handed.runs i).next ≡ 0) lp.next lq.next)

  -- ---- what is stored after the last turn

  abbrev E : Engine
  E = engine_at e sections

  abbrev w : BlockRun
  w = block_run rs ds au ks

  abbrev la : Lane E e.voices
  la = record { channel = p.channel; voice = p.voice; targets = one.goals; below = hp.channel; within = hp.voice; wide = goals_long 0 (omega arith) }

  abbrev lb : Lane E e.voices
  lb = record { channel = q.channel; voice = q.voice; targets = two.goals; below = hq.channel; within = hq.voice; wide = goals_long 1 (omega arith) }

  abbrev start : Two
  start = load_two E e.voices la lb w

  records_long : length rs ≡ e.channels * e.voices * record_width
  records_long = lists.records ∙ ap (λ (k : ℕ). k * record_width) g.slots

  delay_long : length ds ≡ e.channels * e.voices * E.ring_length
  delay_long = buffers.delay ∙ (λ i. g.slots i * g.len i)

  slot_long : (s : Slot) → Placed e s → length (piece record_width (s.channel * e.voices + s.voice) rs) ≡ record_width
  slot_long s h =
      length_piece record_width (s.channel * e.voices + s.voice) rs
      (subst (λ (n : ℕ). n * record_width + record_width ≤ length rs) h.number (fits s h))

  loaded_is : (seat : Seat) (run : Progress) → Placed e seat.slot → Loaded e tg rs seat run
      → held_of seat.held run ≡ piece record_width (seat.slot.channel * e.voices + seat.slot.voice) rs
  loaded_is seat run h l =
      (λ i. record_of (l.params i) (l.state i) ((l.settles ∙ l.held) i))
      ∙ record_loaded seat.slot.number rs (fits seat.slot h)
      ∙ ap (λ (n : ℕ). piece record_width n rs) h.number

  begun : Held e sections ps xs ys seats one.held two.held start handed
  begun = record {
    first_runs = lp.peak;
    second_runs = lq.peak;
    good = record { first = slot_long p hp; second = slot_long q hq; delay = delay_long };
    two = (λ i. record {
      first = loaded_is one r hp lp i;
      second = loaded_is two s hq lq i;
      delay = ds;
      audio = au;
      first_count = lp.count i;
      second_count = lq.count i;
    })
        ∙ (λ i. reached_at e sections ps xs ys seats start (sym lp.next i) (sym lq.next i));
  }

  module _ (h : Hand) (k : Store) (t : ℕ) (turned : Turning e sections ps xs ys seats handed h k t) (ended : wide < t)
      (rs' : List Float) (ks' : List ℕ)
      (stored : Stored wide p.number q.number (held_of one.held (run_of h.runs 0)) (held_of two.held (run_of h.runs 1))
      (run_of h.runs 0).count (run_of h.runs 1).count rs ks rs' ks') where
    abbrev both : Two
    both = two_of one.held two.held h

    reaches : both ≡ reached_at e sections ps xs ys seats start (run_of h.runs 0).next (run_of h.runs 1).next
    reaches = (turned.goes one.held two.held start begun).two

    last : t ≡ wide + 1
    last = omega (arith, turned.within, ended)

    one_stored : wide < 2 → block_run rs' h.delay h.audio ks' ≡ slot_in e sections tg ps xs ys p.channel p.voice w
    one_stored l =
        let n : (run_of h.runs 0).next ≡ e.frames = turned.done last 0 (omega (arith, least)) in
        let m : (run_of h.runs 1).next ≡ 0 = turned.sound.alone (omega (arith, l, least)) in
        (λ i. record {
          records = ((stored.one l).0 ∙ ap (λ (k : ℕ). patch record_width k both.first rs) hp.number) i;
          delay = h.delay;
          audio = h.audio;
          counts = ((stored.one l).1 ∙ ap (λ (k : ℕ). set ks k both.first_count) hp.number) i;
        })
        ∙ ap (store_first E e.voices la w) (reaches ∙ (λ i. reached_at e sections ps xs ys seats start (n i) (m i)))
        ∙ slot_alone E e.voices (block_at e ps xs ys) e.cursor la lb w
        ∙ ap (λ (l : List Float). slot_of E e.voices (block_at e ps xs ys) l e.cursor p.channel p.voice w) lp.goals

    two_stored : 2 ≤ wide → block_run rs' h.delay h.audio ks'
        ≡ slot_in e sections tg ps xs ys q.channel q.voice (slot_in e sections tg ps xs ys p.channel p.voice w)
    two_stored l =
        let n : (run_of h.runs 0).next ≡ e.frames = turned.done last 0 (omega (arith, least)) in
        let m : (run_of h.runs 1).next ≡ e.frames = turned.done last 1 (omega (arith, l)) in
        let ne : p.channel * e.voices + p.voice ≢ q.channel * e.voices + q.voice
        = λ z. apart (omega (arith, l, most)) (hp.number ∙ z ∙ sym hq.number) in
        (λ i. record {
          records = ((stored.two l).0 ∙ (λ j. patch record_width (hq.number j) both.second (patch record_width (hp.number j) both.first rs))) i;
          delay = h.delay;
          audio = h.audio;
          counts = ((stored.two l).1 ∙ (λ j. set (set ks (hp.number j) both.first_count) (hq.number j) both.second_count)) i;
        })
        ∙ ap (store_two E e.voices la lb w) (reaches ∙ (λ i. reached_at e sections ps xs ys seats start (n i) (m i)))
        ∙ slots_abreast E e.voices (block_at e ps xs ys) e.cursor (engine_laws (solo_at e sections)) la lb ne w records_long delay_long
        ∙ (λ i. slot_of E e.voices (block_at e ps xs ys) (lq.goals i) e.cursor q.channel q.voice
        (slot_of E e.voices (block_at e ps xs ys) (lp.goals i) e.cursor p.channel p.voice w))

    pub slots_are : block_run rs' h.delay h.audio ks'
        ≡ one_or_two wide (slot_in e sections tg ps xs ys q.channel q.voice) (slot_in e sections tg ps xs ys p.channel p.voice w)
    slots_are = by_wide _ _ (slot_in e sections tg ps xs ys q.channel q.voice) wide least most one_stored two_stored
