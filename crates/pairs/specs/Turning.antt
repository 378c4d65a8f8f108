-- For the proofs: nothing here must be believed.
-- A turn that is frame 0 of one slot: what stands after the frames that bring the same again are stored. Assumes nothing.
use Rattle.std.specs.Prelude.{◌≡◌, refl, ◌≢◌, Bool, true, false, ℕ, zero, suc, ◌+◌, ◌*◌, ◌≤◌, ◌<◌, List, Float, length, set}
use Rattle.std.proofs.Common.{sym, ap, ◌∙◌, subst, mul-le-mul, le_refl, arith, length-set, get_or-set_same, get_or-set_other}
use Rattle.std.proofs.lemmas.List.{set-get_or}
use Rattle.parts.specs.Parts.{upto}
use Rattle.parts.specs.Laws.{flat_lt}
use Rattle.lane.specs.Floats.{◌‼◌}
use Rattle.extended.specs.Extended.{lines_mark}
use Rattle.peak.specs.Running.{Runs}
use Rattle.run.specs.declared.Record.{Record}
use Rattle.run.specs.Promises.{Widths, Glided, held_record}
use Rattle.voices.specs.Calls.{SlotRun}
use Rattle.abreast.specs.Abreast.{Two, run_first, run_second, put_first, put_second, Good, Lane}
use Rattle.abreast.proofs.Abreast.{first_more, first_alone, second_more}
use Rattle.slots.specs.declared.Prepared.{Prepared}
use Rattle.slots.specs.declared.Progress.{Progress}
use Rattle.slots.specs.declared.Slot.{Slot}
use Rattle.slots.specs.Slots.{solo_at, engine_at, block_at, rest_run, Worked, Rested, Rests, Settled}
use Rattle.slots.specs.Laws.{engine_laws}
use Rattle.slots.specs.Resting.{rest_run_lem}
use Rattle.pairs.specs.Pairs.{Abreast, slot_at, goals_at, seat_of, run_of, no_run, Seated, Hand, hand_of, Store, Sound, held_of, two_of}
use Rattle.pairs.specs.Pairs.{frame_at, reached_at, Held, Goes, Advances}
use Rattle.pairs.specs.Ticking.{set_cases}

-- what holds of both places holds of every place below two
pub both_places {ℓ} : (P : ℕ → Type ℓ) → P 0 → P 1 → (i : ℕ) → i < 2 → P i
both_places P p q zero h = p
both_places P p q (suc zero) h = q
both_places P p q (suc (suc i)) h = absurd (omega arith)

pub first_place {ℓ} : (P : ℕ → Type ℓ) → P 0 → (i : ℕ) → i < 1 → P i
first_place P p zero h = p
first_place P p (suc i) h = absurd (omega arith)

-- one slot, or two
one_or_two_lem {ℓ} : {P : Type ℓ} (n : ℕ) → 1 ≤ n → n ≤ 2 → (n ≡ 1 → P) → (n ≡ 2 → P) → P
one_or_two_lem zero l m p q = absurd (omega arith)
one_or_two_lem (suc zero) l m p q = p refl
one_or_two_lem (suc (suc zero)) l m p q = q refl
one_or_two_lem (suc (suc (suc n))) l m p q = absurd (omega arith)

-- a place is this one or another
this_or_other {ℓ} : {P : Type ℓ} (i s : ℕ) → (i ≡ s → P) → (i ≢ s → P) → P
this_or_other zero zero p q = p refl
this_or_other zero (suc s) p q = q (λ h. omega arith)
this_or_other (suc i) zero p q = q (λ h. omega arith)
this_or_other (suc i) (suc s) p q = this_or_other i s (λ h. p (ap suc h)) (λ h. q (λ k. h (omega arith)))

-- the audio keeps its length
pub settled_long : {e : Prepared} {ps xs ys : List Float} {p : Slot} {i : Float} {was rec : Record} {before after : List Float}
    {count count' next next' : ℕ} (r : Bool) → Settled e ps xs ys p i was rec before after count count' next next' r → length after ≡ length before
settled_long false d = ap length (d.stays refl).0
settled_long true d = (d.rests refl).rested.long

-- a record in hand, with the peak that the block began with
abbrev record_in : (b : Float) → Record → List Float
record_in b r = held_record r.params r.state b r.peak

-- ---- frames from 0 on

module _ (e : Prepared) (sections ps xs ys : List Float) (a : Abreast) (seats : Seated e a) where
  abbrev lane : (s : ℕ) → s < 2 → Lane (engine_at e sections) e.voices
  lane s h = record {
    channel = (slot_at a s).channel;
    voice = (slot_at a s).voice;
    targets = goals_at a s;
    below = (seats.placed s h).channel;
    within = (seats.placed s h).voice;
    wide = seats.targets s h;
  }

  -- turns from 0 + i on are turns from i on
  from_zero : (s m : ℕ) (w : SlotRun) → upto (λ i. frame_at e sections ps xs ys a s (0 + i)) m w ≡ upto (frame_at e sections ps xs ys a s) m w
  from_zero s zero w = refl
  from_zero s (suc m) w =
      let same : 0 + m ≡ m = omega arith in
      λ j. frame_at e sections ps xs ys a s (same j) (from_zero s m w j)

  -- the first m frames of the first slot, whatever the second has done
  begin_first : (start x : Two) → Good (engine_at e sections) e.voices start → (j m : ℕ) → (a.wide ≡ 1 → j ≡ 0)
      → x ≡ reached_at e sections ps xs ys a start 0 j
      → put_first x (upto (frame_at e sections ps xs ys a 0) m (run_first x)) ≡ reached_at e sections ps xs ys a start m j
  begin_first start x g j m alone ex =
      let same : 0 + m ≡ m = omega arith in
      one_or_two_lem a.wide seats.least seats.most
      (λ one.
      let none : j ≡ 0 = alone one in
      let here : x ≡ reached_at e sections ps xs ys a start 0 0 = ex ∙ ap (λ (i : ℕ). reached_at e sections ps xs ys a start 0 i) none in
      (λ t. put_first (here t) (upto (frame_at e sections ps xs ys a 0) m (run_first (here t))))
      ∙ ap (put_first (reached_at e sections ps xs ys a start 0 0)) (sym (from_zero 0 m (run_first (reached_at e sections ps xs ys a start 0 0))))
      ∙ first_alone (engine_at e sections) e.voices (block_at e ps xs ys) e.cursor (lane 0 (omega arith)) (lane 1 (omega arith)) start 0 m
      ∙ (λ t. reached_at e sections ps xs ys a start (same t) (sym none t)))
      (λ two.
      let ne : (slot_at a 0).channel * e.voices + (slot_at a 0).voice ≢ (slot_at a 1).channel * e.voices + (slot_at a 1).voice
      = λ h. seats.apart two ((seats.placed 0 (omega arith)).number ∙ h ∙ sym (seats.placed 1 (omega arith)).number) in
      (λ t. put_first (ex t) (upto (frame_at e sections ps xs ys a 0) m (run_first (ex t))))
      ∙ ap (put_first (reached_at e sections ps xs ys a start 0 j)) (sym (from_zero 0 m (run_first (reached_at e sections ps xs ys a start 0 j))))
      ∙ first_more (engine_at e sections) e.voices (block_at e ps xs ys) e.cursor (engine_laws (solo_at e sections)) (lane 0 (omega arith))
      (lane 1 (omega arith)) ne start g 0 j m
      ∙ ap (λ (i : ℕ). reached_at e sections ps xs ys a start i j) same)

  -- the first m frames of the second slot
  begin_second : (start x : Two) → (k m : ℕ) → x ≡ reached_at e sections ps xs ys a start k 0
      → put_second x (upto (frame_at e sections ps xs ys a 1) m (run_second x)) ≡ reached_at e sections ps xs ys a start k m
  begin_second start x k m ex =
      let same : 0 + m ≡ m = omega arith in
      (λ t. put_second (ex t) (upto (frame_at e sections ps xs ys a 1) m (run_second (ex t))))
      ∙ ap (put_second (reached_at e sections ps xs ys a start k 0)) (sym (from_zero 1 m (run_second (reached_at e sections ps xs ys a start k 0))))
      ∙ second_more (engine_at e sections) e.voices (block_at e ps xs ys) e.cursor (lane 0 (omega arith)) (lane 1 (omega arith)) start k 0 m
      ∙ ap (λ (i : ℕ). reached_at e sections ps xs ys a start k i) same

  -- ---- at rest

  module _ (i : Float) (f : ℕ) (after : List Float) (start x y : Two) (still : lines_mark e.m.code ≡ false) where
    -- frame 0 of the first slot left its record as it was: its frames before f
    rest_first : Good (engine_at e sections) e.voices start → (j : ℕ) → (a.wide ≡ 1 → j ≡ 0)
        → x ≡ reached_at e sections ps xs ys a start 0 j → y ≡ reached_at e sections ps xs ys a start 1 j
        → x.first_count ≡ 0 → y.first ≡ x.first → i ≡ x.audio ‼ (slot_at a 0).number → (slot_at a 0).number < length x.audio
        → Rested e ps xs ys (slot_at a 0) i y.audio after f
        → put_first y (rest_run y.first y.delay after (f * y.first_count)) ≡ reached_at e sections ps xs ys a start f j
    rest_first g j alone ex ey zx er ei b l =
        let w : SlotRun = run_first x in
        let one : y ≡ put_first x (frame_at e sections ps xs ys a 0 0 w) = ey ∙ sym (begin_first start x g j 1 alone ex) in
        let count : w.count + y.first_count ≡ y.first_count = omega (arith, zx) in
        let total : f * y.first_count ≡ w.count + f * y.first_count = omega (arith, zx) in
        let e0 : rest_run y.first y.delay y.audio (w.count + y.first_count) ≡ frame_at e sections ps xs ys a 0 0 w
        = ap (rest_run y.first y.delay y.audio) count ∙ ap run_first one in
        let ran : rest_run y.first y.delay after (w.count + f * y.first_count) ≡ upto (frame_at e sections ps xs ys a 0) f w
        = rest_run_lem e ps xs ys (slot_at a 0) i y.audio (seats.placed 0 (omega arith)) still sections (goals_at a 0) w b
        y.first y.delay after y.first_count f e0 er ei l in
        (λ t. put_first y (rest_run y.first y.delay after (total t)))
        ∙ (λ t. put_first (one t) (ran t))
        ∙ begin_first start x g j f alone ex

    -- the same of the second
    rest_second : (k : ℕ)
        → x ≡ reached_at e sections ps xs ys a start k 0 → y ≡ reached_at e sections ps xs ys a start k 1
        → x.second_count ≡ 0 → y.second ≡ x.second → i ≡ x.audio ‼ (slot_at a 1).number → (slot_at a 1).number < length x.audio
        → Rested e ps xs ys (slot_at a 1) i y.audio after f
        → put_second y (rest_run y.second y.delay after (f * y.second_count)) ≡ reached_at e sections ps xs ys a start k f
    rest_second k ex ey zx er ei b l =
        let w : SlotRun = run_second x in
        let one : y ≡ put_second x (frame_at e sections ps xs ys a 1 0 w) = ey ∙ sym (begin_second start x k 1 ex) in
        let count : w.count + y.second_count ≡ y.second_count = omega (arith, zx) in
        let total : f * y.second_count ≡ w.count + f * y.second_count = omega (arith, zx) in
        let e0 : rest_run y.second y.delay y.audio (w.count + y.second_count) ≡ frame_at e sections ps xs ys a 1 0 w
        = ap (rest_run y.second y.delay y.audio) count ∙ ap run_second one in
        let ran : rest_run y.second y.delay after (w.count + f * y.second_count) ≡ upto (frame_at e sections ps xs ys a 1) f w
        = rest_run_lem e ps xs ys (slot_at a 1) i y.audio (seats.placed 1 (omega arith)) still sections (goals_at a 1) w b
        y.second y.delay after y.second_count f e0 er ei l in
        (λ t. put_second y (rest_run y.second y.delay after (total t)))
        ∙ (λ t. put_second (one t) (ran t))
        ∙ begin_second start x k f ex

  -- ---- what a turn leaves

  -- what stands after frame 0, with what slot s has come to then
  abbrev pub hand_after : (h : Hand) (s : ℕ) (run : Progress) (audio : List Float) → Hand
  hand_after h s run au = hand_of (set h.runs s run) h.delay au

  -- `Rests` of slot s, from the hand h before frame 0 to the hand k after it
  abbrev RestsIn : (h k : Hand) (i : Float) (after : List Float) (run : Progress) (s : ℕ) → Type 0
  RestsIn h k i after run s =
      Rests e ps xs ys (slot_at a s) i (run_of h.runs s).rec (run_of k.runs s).rec k.audio after (run_of k.runs s).count run.count run.next

  module _ (h k : Hand) (i : Float) (after : List Float) (run : Progress) (lr : length k.runs ≡ 2) (goes : Goes e sections ps xs ys a h k) where
    goes_first : run.rec ≡ (run_of k.runs 0).rec
        → (run_of h.runs 0).next ≡ 0 → (run_of k.runs 0).next ≡ 1 → (run_of k.runs 1).next ≡ (run_of h.runs 1).next
        → (a.wide ≡ 1 → (run_of h.runs 1).next ≡ 0) → (run_of h.runs 0).count ≡ 0
        → i ≡ h.audio ‼ (slot_at a 0).number → (slot_at a 0).number < length h.audio
        → RestsIn h k i after run 0
        → Goes e sections ps xs ys a h (hand_after k 0 run after)
    goes_first stays n0 n1 other alone zc ei b r p q start held =
        let now : Held e sections ps xs ys a p q start k = goes p q start held in
        let j : ℕ = (run_of h.runs 1).next in
        let ex : two_of p q h ≡ reached_at e sections ps xs ys a start 0 j
        = held.two ∙ ap (λ (m : ℕ). reached_at e sections ps xs ys a start m j) n0 in
        let ey : two_of p q k ≡ reached_at e sections ps xs ys a start 1 j
        = now.two ∙ (λ t. reached_at e sections ps xs ys a start (n1 t) (other t)) in
        let er : (two_of p q k).first ≡ (two_of p q h).first = ap (record_in p) r.as_before.same in
        let here : run_of (set k.runs 0 run) 0 ≡ run = get_or-set_same k.runs 0 run no_run (omega (arith, lr)) in
        let there : run_of (set k.runs 0 run) 1 ≡ run_of k.runs 1 = get_or-set_other k.runs 0 1 run no_run (λ z. omega arith) in
        let recs : (run_of (set k.runs 0 run) 0).rec ≡ (run_of k.runs 0).rec = ap (λ (x : Progress). x.rec) here ∙ stays in
        let counted : (run_of (set k.runs 0 run) 0).count ≡ run.next * (run_of k.runs 0).count = ap (λ (x : Progress). x.count) here ∙ r.counted in
        record {
          first_runs = subst (λ (x : Record). Runs p x.peak) (sym recs) now.first_runs;
          second_runs = subst (λ (x : Progress). Runs q x.rec.peak) (sym there) now.second_runs;
          good = held.good;
          two = (λ t. record {
            first = record_in p (recs t);
            second = held_of q (there t);
            delay = k.delay;
            audio = after;
            first_count = counted t;
            second_count = (there t).count;
          })
              ∙ rest_first i run.next after start (two_of p q h) (two_of p q k) r.as_before.still held.good j alone ex ey zc er ei b r.rested
              ∙ (λ t. reached_at e sections ps xs ys a start (sym here t).next ((sym other ∙ ap (λ (x : Progress). x.next) (sym there)) t));
        }

    goes_second : run.rec ≡ (run_of k.runs 1).rec
        → (run_of h.runs 1).next ≡ 0 → (run_of k.runs 1).next ≡ 1 → (run_of k.runs 0).next ≡ (run_of h.runs 0).next → (run_of h.runs 1).count ≡ 0
        → i ≡ h.audio ‼ (slot_at a 1).number → (slot_at a 1).number < length h.audio
        → RestsIn h k i after run 1
        → Goes e sections ps xs ys a h (hand_after k 1 run after)
    goes_second stays n0 n1 other zc ei b r p q start held =
        let now : Held e sections ps xs ys a p q start k = goes p q start held in
        let j : ℕ = (run_of h.runs 0).next in
        let ex : two_of p q h ≡ reached_at e sections ps xs ys a start j 0
        = held.two ∙ ap (λ (m : ℕ). reached_at e sections ps xs ys a start j m) n0 in
        let ey : two_of p q k ≡ reached_at e sections ps xs ys a start j 1
        = now.two ∙ (λ t. reached_at e sections ps xs ys a start (other t) (n1 t)) in
        let er : (two_of p q k).second ≡ (two_of p q h).second = ap (record_in q) r.as_before.same in
        let here : run_of (set k.runs 1 run) 1 ≡ run = get_or-set_same k.runs 1 run no_run (omega (arith, lr)) in
        let there : run_of (set k.runs 1 run) 0 ≡ run_of k.runs 0 = get_or-set_other k.runs 1 0 run no_run (λ z. omega arith) in
        let recs : (run_of (set k.runs 1 run) 1).rec ≡ (run_of k.runs 1).rec = ap (λ (x : Progress). x.rec) here ∙ stays in
        let counted : (run_of (set k.runs 1 run) 1).count ≡ run.next * (run_of k.runs 1).count = ap (λ (x : Progress). x.count) here ∙ r.counted in
        record {
          first_runs = subst (λ (x : Progress). Runs p x.rec.peak) (sym there) now.first_runs;
          second_runs = subst (λ (x : Record). Runs q x.peak) (sym recs) now.second_runs;
          good = held.good;
          two = (λ t. record {
            first = held_of p (there t);
            second = record_in q (recs t);
            delay = k.delay;
            audio = after;
            first_count = (there t).count;
            second_count = counted t;
          })
              ∙ rest_second i run.next after start (two_of p q h) (two_of p q k) r.as_before.still j ex ey zc er ei b r.rested
              ∙ (λ t. reached_at e sections ps xs ys a start ((sym other ∙ ap (λ (x : Progress). x.next) (sym there)) t) (sym here t).next);
        }

  module _ (worked : Worked e) (h k : Hand) (store store' : Store)
      (before : Sound e sections ps xs ys a h store) (then : Sound e sections ps xs ys a k store')
      (goes : Goes e sections ps xs ys a h k) (i : Float) (after : List Float) (run : Progress) where
    -- nothing stored
    stays : (s : ℕ) → after ≡ k.audio → run.rec ≡ (run_of k.runs s).rec → run.count ≡ (run_of k.runs s).count → run.next ≡ (run_of k.runs s).next
        → hand_after k s run after ≡ k
    stays s ea er ec ef =
        let same : run ≡ run_of k.runs s = λ t. record { rec = er t; count = ec t; next = ef t } in
        let runs : set k.runs s run ≡ k.runs = ap (set k.runs s) same ∙ set-get_or k.runs s no_run in
        λ t. hand_of (runs t) k.delay (ea t)

    module _ (s : ℕ) (low : s < a.wide) (as_left : run.rec ≡ (run_of k.runs s).rec) (begun : (run_of h.runs s).next ≡ 0)
        (went : Advances s (s + 1) 1 h.runs k.runs) (ei : i ≡ h.audio ‼ (slot_at a s).number) where
      came : (run_of k.runs s).next ≡ 1
      came = omega (arith, went.least s (omega arith) (omega arith), went.most s 1 (omega (arith, begun)) (omega arith))

      few : (run_of k.runs s).count ≤ 8
      few = omega (arith, then.counts s (omega (arith, low, seats.most)), came)

      fits : (slot_at a s).number < length h.audio
      fits =
          let two : s < 2 = omega (arith, low, seats.most) in
          let below : (slot_at a s).number < e.slots = (seats.placed s two).below in
          let some : 0 < e.frames = omega (arith, worked.some) in
          omega (arith, flat_lt e.frames e.slots 0 (slot_at a s).number some below, before.buffers.audio)

      -- what holds of the slot's new progress and of each place's old one holds of each place
      each_run : (P : ℕ → Progress → Type 0) → P s run → ((j : ℕ) → j < 2 → P j (run_of k.runs j)) → (j : ℕ) → j < 2 → P j (run_of (set k.runs s run) j)
      each_run P here there j l =
          set_cases k.runs s j run no_run (P j) (omega (arith, low, seats.most, then.runs)) (λ d. subst (λ (n : ℕ). P n run) (sym d) here)
          (λ d. there j l)

      sound_rests : RestsIn h k i after run s → Sound e sections ps xs ys a (hand_after k s run after) store'
      sound_rests r =
          let two : s < 2 = omega (arith, low, seats.most) in
          let most : run.count ≤ 8 * run.next = omega (arith, r.counted, mul-le-mul (le_refl run.next) few) in
          let on : (P : Record → Type 0) → P (run_of k.runs s).rec → P run.rec = λ P. subst P (sym as_left) in
          record {
            runs = length-set k.runs s run ∙ then.runs;
            kept = then.kept;
            widths = each_run (λ j x. Widths x.rec.params x.rec.state) (on (λ (x : Record). Widths x.params x.state) (then.widths s two)) then.widths;
            keeps = then.keeps;
            glides = each_run (λ j x. (seat_of a.seats j).glided ≡ true → Glided e.m.k.alpha (goals_at a j) x.rec.params)
                (λ g. on (λ (x : Record). Glided e.m.k.alpha (goals_at a s) x.params) (then.glides s two g)) then.glides;
            counts = each_run (λ j x. x.count ≤ 8 * x.next) most then.counts;
            ends = each_run (λ j x. x.next ≤ e.frames) r.rested.most then.ends;
            alone = λ one. ap (λ (x : Progress). x.next) (get_or-set_other k.runs s 1 run no_run (λ z. omega (arith, z, low, one))) ∙ then.alone one;
            buffers = record {
              pitch = then.buffers.pitch;
              x = then.buffers.x;
              y = then.buffers.y;
              delay = then.buffers.delay;
              audio = r.rested.long ∙ then.buffers.audio;
            };
          }

    goes_rests : (s : ℕ) (low : s < a.wide) (as_left : run.rec ≡ (run_of k.runs s).rec) (begun : (run_of h.runs s).next ≡ 0)
        (went : Advances s (s + 1) 1 h.runs k.runs) (ei : i ≡ h.audio ‼ (slot_at a s).number)
        → RestsIn h k i after run s
        → Goes e sections ps xs ys a h (hand_after k s run after)
    goes_rests zero low as_left begun went ei r =
        goes_first h k i after run then.runs goes as_left begun (came 0 low as_left begun went ei) (went.above 1 (omega arith)) before.alone
        (omega (arith, before.counts 0 (omega arith), begun)) ei (fits 0 low as_left begun went ei) r
    goes_rests (suc zero) low as_left begun went ei r =
        goes_second h k i after run then.runs goes as_left begun (came 1 low as_left begun went ei) (went.below 0 (omega arith))
        (omega (arith, before.counts 1 (omega arith), begun)) ei (fits 1 low as_left begun went ei) r
    goes_rests (suc (suc s)) low as_left begun went ei r = absurd (omega (arith, low, seats.most))

    -- frame 0 of slot s worked and the frames that bring the same again stored
    pub turned : (s : ℕ) (r : Bool) → s < a.wide → run.rec ≡ (run_of k.runs s).rec → (run_of h.runs s).next ≡ 0
        → Advances s (s + 1) 1 h.runs k.runs
        → i ≡ h.audio ‼ (slot_at a s).number
        → Settled e ps xs ys (slot_at a s) i (run_of h.runs s).rec (run_of k.runs s).rec k.audio after
        (run_of k.runs s).count run.count (run_of k.runs s).next run.next r
        → (Sound e sections ps xs ys a (hand_after k s run after) store') × (Goes e sections ps xs ys a h (hand_after k s run after))
    turned s false low as_left begun went ei d =
        let p = d.stays refl in
        let same : k ≡ hand_after k s run after = sym (stays s p.0 as_left p.1 p.2) in (
          subst (λ (w : Hand). Sound e sections ps xs ys a w store') same then,
          subst (λ (w : Hand). Goes e sections ps xs ys a h w) same goes,
        )
    turned s true low as_left begun went ei d =
        (sound_rests s low as_left begun went ei (d.rests refl), goes_rests s low as_left begun went ei (d.rests refl))
