-- For the proofs: nothing here must be believed.
-- A slot's next frames in the loop: what they leave right, that both slots' frames are still those from the start, and how far each slot has come.
-- By the laws of two slots in one loop. Assumes nothing.
use Rattle.std.specs.Prelude.{◌≡◌, refl, ◌≢◌, true, ℕ, ◌+◌, ◌*◌, ◌≤◌, ◌<◌, List, Float, length, get_or, set}
use Rattle.std.proofs.Common.{sym, ap, ◌∙◌, subst, add-zero, arith, length-set, get_or-set_same, get_or-set_other}
use Rattle.std.proofs.Math.Decide.{ℕ_discrete}
use Rattle.parts.specs.Parts.{upto}
use Rattle.peak.specs.Running.{Runs}
use Rattle.kernels.specs.declared.tuning.KeptNumbers.{KeptNumbers}
use Rattle.kernels.specs.declared.tuning.KeptPlan.{KeptPlan}
use Rattle.run.specs.Promises.{Widths, Glided}
use Rattle.voices.specs.Calls.{SlotRun}
use Rattle.abreast.specs.Abreast.{Two, run_first, run_second, put_first, put_second, Lane}
use Rattle.abreast.proofs.Abreast.{first_more, first_alone, second_more}
use Rattle.slots.specs.declared.Prepared.{Prepared}
use Rattle.slots.specs.declared.Progress.{Progress}
use Rattle.slots.specs.Slots.{solo_at, engine_at, block_at}
use Rattle.slots.specs.Laws.{engine_laws}
use Rattle.pairs.specs.Pairs.{Abreast, slot_at, goals_at, seat_of, run_of, no_run, no_numbers, Seated, Hand, hand_of, Store, store_of, Keeping, Sound}
use Rattle.pairs.specs.Pairs.{held_of, run_with, two_of, Framed, frame_at, reached_at, Held, Goes, Advances}

-- ---- how far each slot has come

-- no slot has moved
pub advances_none : (lo hi f : ℕ) (runs : List Progress) → ((i : ℕ) → lo ≤ i → i < hi → f ≤ (run_of runs i).next) → Advances lo hi f runs runs
advances_none lo hi f runs h = record {
  least = h;
  most = λ i u l m. l;
  below = λ i l. refl;
  above = λ i l. refl;
}

-- a slot's next frame
pub advances_one : (s f : ℕ) (runs : List Progress) (run : Progress) → s < length runs → f ≡ (run_of runs s).next → run.next ≡ (run_of runs s).next + 1
    → Advances s (s + 1) (f + 1) runs (set runs s run)
advances_one s f runs run l e n = record {
  least = λ i lo hi.
      let v : (run_of (set runs s run) i).next ≡ run.next = here i (omega arith) in
      omega (arith, v, n, e);
  most = λ i u m k. elim (ℕ_discrete i s) [
    | yes d ↦ let v : (run_of (set runs s run) i).next ≡ run.next = here i d in omega (arith, v, n, e, k)
    | no d ↦ let v : (run_of (set runs s run) i).next ≡ (run_of runs i).next = there i d in omega (arith, v, m)
  ];
  below = λ i m. there i (λ d. omega arith);
  above = λ i m. there i (λ d. omega arith);
}
  where
    here : (i : ℕ) → i ≡ s → (run_of (set runs s run) i).next ≡ run.next
    here i d = ap (λ (j : ℕ). (run_of (set runs s run) j).next) d ∙ ap (λ (x : Progress). x.next) (get_or-set_same runs s run no_run l)

    there : (i : ℕ) → i ≢ s → (run_of (set runs s run) i).next ≡ (run_of runs i).next
    there i d = ap (λ (x : Progress). x.next) (get_or-set_other runs s i run no_run d)

-- the next slot too
pub advances_slot : (lo s f : ℕ) (a b c : List Progress) → lo ≤ s → Advances lo s f a b → Advances s (s + 1) f b c → Advances lo (s + 1) f a c
advances_slot lo s f a b c l p q = record {
  least = λ i m n. elim (ℕ_discrete i s) [
    | yes d ↦ q.least i (omega arith) n
    | no d ↦
        let v : (run_of c i).next ≡ (run_of b i).next = q.below i (omega arith) in
        let w : f ≤ (run_of b i).next = p.least i m (omega arith) in
        omega arith
  ];
  most = λ i u m n. q.most i u (p.most i u m n) n;
  below = λ i m. q.below i (omega arith) ∙ p.below i m;
  above = λ i m. q.above i m ∙ p.above i (omega arith);
}

-- the next frame too
pub advances_frame : (lo hi f g : ℕ) (a b c : List Progress) → f ≤ g → Advances lo hi f a b → Advances lo hi g b c → Advances lo hi g a c
advances_frame lo hi f g a b c l p q = record {
  least = q.least;
  most = λ i u m n. q.most i u (p.most i u m (omega arith)) n;
  below = λ i m. q.below i m ∙ p.below i m;
  above = λ i m. q.above i m ∙ p.above i m;
}

-- ---- both slots' frames

-- slot s in hand, with the peak that the block began with
abbrev pub run_at : (s : ℕ) → Float → Hand → SlotRun
run_at s b h = run_with b (run_of h.runs s) h.delay h.audio

module _ (e : Prepared) (sections ps xs ys : List Float) (a : Abreast) where
  -- slot s has worked its next m frames, and the other place has what it had
  pub record Steps (s m : ℕ) (h h' : Hand) : Type 0 where
    pub runs : (b : Float) → Runs b (run_of h.runs s).rec.peak → Runs b (run_of h'.runs s).rec.peak
    pub run : (b : Float) → Runs b (run_of h.runs s).rec.peak
        → run_at s b h' ≡ upto (λ i. frame_at e sections ps xs ys a s ((run_of h.runs s).next + i)) m (run_at s b h)
    pub next : (run_of h'.runs s).next ≡ (run_of h.runs s).next + m
    pub other : (i : ℕ) → i < 2 → i ≢ s → run_of h'.runs i ≡ run_of h.runs i

  module _ (seat : Seated e a) where
    abbrev lane_at : (s : ℕ) → s < 2 → Lane (engine_at e sections) e.voices
    lane_at s l = record {
      channel = (slot_at a s).channel;
      voice = (slot_at a s).voice;
      targets = goals_at a s;
      below = (seat.placed s l).channel;
      within = (seat.placed s l).voice;
      wide = seat.targets s l;
    }

    differ : a.wide ≡ 2 → (slot_at a 0).channel * e.voices + (slot_at a 0).voice ≢ (slot_at a 1).channel * e.voices + (slot_at a 1).voice
    differ w d = seat.apart w ((seat.placed 0 (omega arith)).number ∙ d ∙ sym (seat.placed 1 (omega arith)).number)

    module _ (h h' : Hand) (m : ℕ) (b c : Float) (start : Two) (held : Held e sections ps xs ys a b c start h) where
      -- the first slot's next m frames
      pub held_first : (a.wide ≡ 1 → (run_of h.runs 1).next ≡ 0) → Steps 0 m h h' → Held e sections ps xs ys a b c start h'
      held_first alone st =
          let k : ℕ = (run_of h.runs 0).next in
          let j : ℕ = (run_of h.runs 1).next in
          let o : run_of h'.runs 1 ≡ run_of h.runs 1 = st.other 1 (omega arith) (λ d. omega arith) in
          let g : ℕ → SlotRun → SlotRun = λ i. frame_at e sections ps xs ys a 0 (k + i) in
          let here : two_of b c h' ≡ put_first (two_of b c h) (run_at 0 b h')
          = λ i. record {
            first = held_of b (run_of h'.runs 0);
            second = held_of c (o i);
            delay = h'.delay;
            audio = h'.audio;
            first_count = (run_of h'.runs 0).count;
            second_count = (o i).count;
          } in
          let at : ℕ → Two = reached_at e sections ps xs ys a start k in
          let goal : ℕ → Type 0
          = λ i. put_first (at i) (upto g m (run_first (at i))) ≡ reached_at e sections ps xs ys a start (k + m) i in
          let more : goal j
          = elim (ℕ_discrete a.wide 2) [
            | yes d ↦
                first_more (engine_at e sections) e.voices (block_at e ps xs ys) e.cursor (engine_laws (solo_at e sections))
                (lane_at 0 (omega arith)) (lane_at 1 (omega arith)) (differ d) start held.good k j m
            | no d ↦
                subst goal (sym (alone (let l = seat.least in let u = seat.most in omega arith)))
                (first_alone (engine_at e sections) e.voices (block_at e ps xs ys) e.cursor (lane_at 0 (omega arith)) (lane_at 1 (omega arith)) start k m)
          ] in
          record {
            first_runs = st.runs b held.first_runs;
            second_runs = subst (λ (x : Progress). Runs c x.rec.peak) (sym o) held.second_runs;
            good = held.good;
            two = here ∙ ap (put_first (two_of b c h)) (st.run b held.first_runs)
                ∙ ap (λ (x : Two). put_first x (upto g m (run_first x))) held.two ∙ more
                ∙ (λ i. reached_at e sections ps xs ys a start (sym st.next i) (sym o i).next);
          }

      -- the second slot's next m frames
      pub held_second : Steps 1 m h h' → Held e sections ps xs ys a b c start h'
      held_second st =
          let k : ℕ = (run_of h.runs 0).next in
          let j : ℕ = (run_of h.runs 1).next in
          let o : run_of h'.runs 0 ≡ run_of h.runs 0 = st.other 0 (omega arith) (λ d. omega arith) in
          let g : ℕ → SlotRun → SlotRun = λ i. frame_at e sections ps xs ys a 1 (j + i) in
          let here : two_of b c h' ≡ put_second (two_of b c h) (run_at 1 c h')
          = λ i. record {
            first = held_of b (o i);
            second = held_of c (run_of h'.runs 1);
            delay = h'.delay;
            audio = h'.audio;
            first_count = (o i).count;
            second_count = (run_of h'.runs 1).count;
          } in
          record {
            first_runs = subst (λ (x : Progress). Runs b x.rec.peak) (sym o) held.first_runs;
            second_runs = st.runs c held.second_runs;
            good = held.good;
            two = here ∙ ap (put_second (two_of b c h)) (st.run c held.second_runs)
                ∙ ap (λ (x : Two). put_second x (upto g m (run_second x))) held.two
                ∙ second_more (engine_at e sections) e.voices (block_at e ps xs ys) e.cursor (lane_at 0 (omega arith)) (lane_at 1 (omega arith)) start k j m
                ∙ (λ i. reached_at e sections ps xs ys a start (sym o i).next (sym st.next i));
          }

    -- the next m frames of slot s
    pub goes_on_lem : (h h' : Hand) (s m : ℕ) → s < a.wide → (a.wide ≡ 1 → (run_of h.runs 1).next ≡ 0) → Steps s m h h'
        → Goes e sections ps xs ys a h h'
    goes_on_lem h h' s m l alone st b c start held = elim (ℕ_discrete s 0) [
      | yes d ↦ held_first h h' m b c start held alone (subst (λ (j : ℕ). Steps j m h h') d st)
      | no d ↦
          let u = seat.most in
          let f : s ≡ 1 = omega arith in
          held_second h h' m b c start held (subst (λ (j : ℕ). Steps j m h h') f st)
    ]

-- ---- one frame

-- what stands in a list after a store
pub set_cases : {A : Type 0} (xs : List A) (s i : ℕ) (x d : A) (P : A → Type 0) → s < length xs
    → (i ≡ s → P x) → (i ≢ s → P (get_or xs i d)) → P (get_or (set xs s x) i d)
set_cases xs s i x d P l same other = elim (ℕ_discrete i s) [
  | yes e ↦ subst P (sym (ap (λ (j : ℕ). get_or (set xs s x) j d) e ∙ get_or-set_same xs s x d l)) (same e)
  | no e ↦ subst P (sym (get_or-set_other xs s i x d e)) (other e)
]

module _ (e : Prepared) (sections ps xs ys : List Float) (a : Abreast) (h : Hand) (k : Store) (s r : ℕ) (run : Progress) (delay audio : List Float)
    (kept : KeptNumbers) (comb : KeptPlan) where
  -- in hand and kept after slot s's next frame
  abbrev pub hand_after : Hand
  hand_after = hand_of (set h.runs s run) delay audio

  abbrev pub store_after : Store
  store_after = store_of (set k.kept r kept) comb

  module _ (seat : Seated e a) (sound : Sound e sections ps xs ys a h k) (ls : s < a.wide)
      (framed : Framed e sections ps xs ys (seat_of a.seats s) (run_of h.runs s) h.delay h.audio run delay audio) where
    below : s < 2
    below = let u = seat.most in omega arith

    in_list : s < length h.runs
    in_list = omega (arith, below, sound.runs)

    -- what holds of the slot's new progress and of each place's old one holds of each place
    each_run : (P : ℕ → Progress → Type 0) → P s run → ((i : ℕ) → i < 2 → P i (run_of h.runs i)) → (i : ℕ) → i < 2 → P i (run_of (set h.runs s run) i)
    each_run P here there i l =
        set_cases h.runs s i run no_run (P i) in_list (λ d. subst (λ (j : ℕ). P j run) (sym d) here) (λ d. there i l)

    pub sound_after : r < 2 → (run_of h.runs s).next < e.frames → Keeping e sections kept comb
        → length delay ≡ length h.delay → length audio ≡ length h.audio → Sound e sections ps xs ys a hand_after store_after
    sound_after lr lf keeps ld la = record {
      runs = length-set h.runs s run ∙ sound.runs;
      kept = length-set k.kept r kept ∙ sound.kept;
      widths = each_run (λ i x. Widths x.rec.params x.rec.state) framed.widths sound.widths;
      keeps = λ i l. set_cases k.kept r i kept no_numbers (λ x. Keeping e sections x comb) (omega (arith, lr, sound.kept)) (λ d. keeps)
          (λ d. let was = sound.keeps i l in record { numbers = was.numbers; blends = was.blends; planned = keeps.planned });
      glides = each_run (λ i x. (seat_of a.seats i).glided ≡ true → Glided e.m.k.alpha (goals_at a i) x.rec.params)
          (λ g.
          let was : Glided e.m.k.alpha (goals_at a s) (run_of h.runs s).rec.params = sound.glides s below g in
          subst (Glided e.m.k.alpha (goals_at a s)) (sym (framed.smooth ∙ was)) was)
          sound.glides;
      counts = each_run (λ i x. x.count ≤ 8 * x.next) (omega (arith, framed.count, framed.next, sound.counts s below)) sound.counts;
      ends = each_run (λ i x. x.next ≤ e.frames) (omega (arith, framed.next, lf)) sound.ends;
      alone = λ o. ap (λ (x : Progress). x.next) (get_or-set_other h.runs s 1 run no_run (λ d. omega arith)) ∙ sound.alone o;
      buffers = record {
        pitch = sound.buffers.pitch;
        x = sound.buffers.x;
        y = sound.buffers.y;
        delay = ld ∙ sound.buffers.delay;
        audio = la ∙ sound.buffers.audio;
      };
    }

    pub steps_after : Steps e sections ps xs ys a s 1 h hand_after
    steps_after =
        let same : run_of (set h.runs s run) s ≡ run = get_or-set_same h.runs s run no_run in_list in
        record {
          runs = λ b q. subst (λ (x : Progress). Runs b x.rec.peak) (sym same) (framed.peaks b q);
          run = λ b q.
              ap (λ (x : Progress). run_with b x delay audio) same
              ∙ framed.frame b q
              ∙ ap (λ (j : ℕ). frame_at e sections ps xs ys a s j (run_at s b h)) (sym (add-zero (run_of h.runs s).next));
          next = ap (λ (x : Progress). x.next) same ∙ framed.next;
          other = λ i l d. get_or-set_other h.runs s i run no_run d;
        }
