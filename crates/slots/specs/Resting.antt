-- For the proofs: nothing here must be believed.
-- The loop over a slot's frames at rest: its start, one frame more, and what it makes after frame 0. Assumes nothing.
use Rattle.std.specs.Prelude.{◌≡◌, ℕ, zero, suc, ◌+◌, ◌*◌, ◌<◌, Bool, true, false, cond, List, length, set, refl, Float}
use Rattle.std.proofs.Common.{sym, ◌∙◌, subst, length-set}
use Rattle.std.proofs.Math.Path.{ap}
use native.Mathlib.Omega.{arith}
use Rattle.std.proofs.Math.Option.{none, some}
use Rattle.std.specs.Float.Ieee.{nan}
use Rattle.std.proofs.Math.Seq.{get_or-set_same}
use Rattle.parts.specs.Parts.{upto, piece}
use Rattle.lane.specs.Floats.{◌‼◌, zero as plus_zero}
use Rattle.lines.specs.Lines.{ring_len}
use Rattle.extended.specs.Extended.{lines_mark}
use Rattle.run.specs.Rest.{tick_ring}
use Rattle.voices.specs.Calls.{Steering, Tick, SlotRun, tick_at, frame_of}
use Rattle.abreast.specs.Rest.{rest_begins, rest_frame}
use Rattle.slots.specs.declared.Prepared.{Prepared}
use Rattle.slots.specs.declared.Slot.{Slot}
use Rattle.slots.specs.Engine.{tick_of}
use Rattle.slots.specs.Slots.{engine_at, block_at, frame_in, Worked, Placed}
use Rattle.slots.specs.Slots.{pitch_in, steering_in, SameFrame, RestsAt, rest_run, RestFrames, Rested}

-- steered by the same numbers, or by none
pub same_steering : (steered : Bool) (x y x' y' : Float)
    → cond steered x plus_zero ≡ cond steered x' plus_zero → cond steered y plus_zero ≡ cond steered y' plus_zero
    → ◌≡◌ {A = Steering} (cond steered (some (x, y)) none) (cond steered (some (x', y')) none)
same_steering true x y x' y' hx hy = λ i. some (hx i, hy i)
same_steering false x y x' y' hx hy = refl

-- the first turn taken apart
first_apart {ℓ} : {X : Type ℓ} (g : ℕ → X → X) (m : ℕ) (x : X) → upto (λ j. g (suc j)) m (g 0 x) ≡ upto g (suc m) x
first_apart g zero x = refl
first_apart g (suc m) x = ap (g (suc m)) (first_apart g m x)

module _ (e : Prepared) (ps xs ys : List Float) (p : Slot) (i : Float) (before : List Float) where
  none_yet : RestFrames e ps xs ys p i before before 0
  none_yet sections tg r ds count over still a = let same : count + 0 * over ≡ count = omega arith in ap (rest_run r ds before) same

  pub rested_start : 0 < e.frames → Rested e ps xs ys p i before before 1
  rested_start h = record {
    least = omega arith;
    most = omega arith;
    long = refl;
    frames = λ m z. let same : 0 ≡ m = omega arith in subst (RestFrames e ps xs ys p i before before) same none_yet;
  }

  module _ (g : Worked e) (h : Placed e p) where
    one_more : (m : ℕ) (after : List Float) → RestFrames e ps xs ys p i before after m → SameFrame e ps xs ys after p i (suc m)
        → (at : ℕ) → at ≡ suc m * e.slots + p.number
        → RestFrames e ps xs ys p i before (set after at (before ‼ p.number)) (suc m)
    one_more m after r s at ha sections tg rec ds count over still a =
        let out : Float = before ‼ p.number in
        let place : at ≡ suc m * (e.channels * e.voices) + (p.channel * e.voices + p.voice) = ha ∙ (λ j. suc m * g.slots j + h.number j) in
        let input : after ‼ (suc m * (e.channels * e.voices) + (p.channel * e.voices + p.voice)) ≡ i
        = ap (λ (k : ℕ). after ‼ k) (sym place ∙ ha) ∙ s.input in
        let total : count + suc m * over ≡ count + m * over + over = omega arith in
        (λ j. rest_run rec ds (set after (place j) out) (total j))
        ∙ sym (rest_frame (engine_at e sections) e.voices (block_at e ps xs ys) tg e.cursor p.channel p.voice (suc m)
        (rest_run rec ds after (count + m * over)) still (pitch_in e ps p 0) i (steering_in e xs ys p 0) out over a s.pitch input s.steering)
        ∙ ap (frame_in e sections tg ps xs ys p (suc m)) (r sections tg rec ds count over still a)

    -- frame f brings what frame 0 did, and has its sample
    pub rested_again : (f : ℕ) (after : List Float) → Rested e ps xs ys p i before after f → f < e.frames
        → SameFrame e ps xs ys after p i f → (at : ℕ) → at ≡ f * e.slots + p.number
        → Rested e ps xs ys p i before (set after at (before ‼ p.number)) (f + 1)
    rested_again zero after r l s at ha = absurd (omega (arith, r.least))
    rested_again (suc k) after r l s at ha = record {
      least = omega arith;
      most = omega arith;
      long = length-set after at (before ‼ p.number) ∙ r.long;
      frames = λ m z.
          let same : suc k ≡ m = omega arith in
          subst (RestFrames e ps xs ys p i before (set after at (before ‼ p.number))) same (one_more k after (r.frames k refl) s at ha);
    }

  -- ---- after frame 0

  module _ (h : Placed e p) (still : lines_mark e.m.code ≡ false) (sections tg : List Float) (w : SlotRun) (b : p.number < length w.audio) where
    abbrev g : ℕ → SlotRun → SlotRun
    g = frame_in e sections tg ps xs ys p

    abbrev place : ℕ
    place = 0 * (e.channels * e.voices) + (p.channel * e.voices + p.voice)

    place_is : p.number ≡ place
    place_is = omega (arith, h.number)

    abbrev cells : List Float
    cells = piece (ring_len e.rate) (p.channel * e.voices + p.voice) w.delay

    abbrev t : Tick
    t = tick_at (engine_at e sections) e.voices (block_at e ps xs ys) tg e.cursor p.channel p.voice 0 w.audio w.rec cells

    ring_stays : t.ring ≡ cells
    unfolding tick_of
    ring_stays = tick_ring _ _ _ _ _ tg _ _ _ _ w.rec cells still

    sample_is : (g 0 w).audio ‼ p.number ≡ t.out
    unfolding frame_of
    sample_is =
        ap (λ (k : ℕ). set w.audio place t.out ‼ k) place_is
        ∙ get_or-set_same w.audio place t.out nan (omega (arith, place_is))

    judged_is : (over : ℕ) → w.count + over ≡ (g 0 w).count → t.over ≡ over
    unfolding frame_of
    judged_is over k = omega arith

    -- frame 0 left the record as it was: the slot rests
    rests : (over : ℕ) → (g 0 w).rec ≡ w.rec → i ≡ w.audio ‼ p.number → w.count + over ≡ (g 0 w).count
        → RestsAt e sections tg ps xs ys p i (g 0 w).rec (g 0 w).delay ((g 0 w).audio ‼ p.number) over
    rests over er ei ek =
        let input : w.audio ‼ place ≡ i = ap (λ (k : ℕ). w.audio ‼ k) (sym place_is) ∙ sym ei in
        let sample : t.out ≡ (g 0 w).audio ‼ p.number = sym sample_is in
        let judged : t.over ≡ over = judged_is over ek in
        subst (λ (k : ℕ). RestsAt e sections tg ps xs ys p i (g 0 w).rec (g 0 w).delay ((g 0 w).audio ‼ p.number) k) judged
        (subst (λ (o : Float). RestsAt e sections tg ps xs ys p i (g 0 w).rec (g 0 w).delay o t.over) sample
        (subst (λ (k : Float). RestsAt e sections tg ps xs ys p k (g 0 w).rec (g 0 w).delay t.out t.over) input
        (rest_begins (engine_at e sections) e.voices (block_at e ps xs ys) tg e.cursor p.channel p.voice 0 w still er ring_stays)))

    -- where frame 0 left the record as it was, with the input i and the audio `before`, the frames before f are the slot's first
    pub rest_run_lem : (r ds after : List Float) (over f : ℕ)
        → rest_run r ds before (w.count + over) ≡ g 0 w → r ≡ w.rec → i ≡ w.audio ‼ p.number → Rested e ps xs ys p i before after f
        → rest_run r ds after (w.count + f * over) ≡ upto g f w
    rest_run_lem r ds after over zero e0 er ei l = absurd (omega (arith, l.least))
    rest_run_lem r ds after over (suc m) e0 er ei l =
        let rec : r ≡ (g 0 w).rec = ap (λ (x : SlotRun). x.rec) e0 in
        let here : RestsAt e sections tg ps xs ys p i r ds (before ‼ p.number) over
        = subst (λ (x : SlotRun). RestsAt e sections tg ps xs ys p i x.rec x.delay (x.audio ‼ p.number) over) (sym e0)
        (rests over (sym rec ∙ er) ei (ap (λ (x : SlotRun). x.count) e0)) in
        let total : w.count + suc m * over ≡ w.count + over + m * over = omega arith in
        ap (rest_run r ds after) total
        ∙ l.frames m refl sections tg r ds (w.count + over) over still here
        ∙ ap (upto (λ j. g (suc j)) m) e0
        ∙ first_apart g m w
