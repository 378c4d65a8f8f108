-- For the proofs: nothing here must be believed.
-- The plan while it is made, cell by cell and tooth by tooth, and that it ends as it should. Assumes nothing.
use Rattle.std.specs.Prelude.{◌≡◌, true, false, ℕ, ◌+◌, ◌-◌, ◌*◌, ◌<◌, ◌≤◌, Option, Some, None, MatchOption, List, length, get_or, set, take, Float}
use Rattle.std.proofs.Common.{below_more, sym, ap, ◌∙◌, subst, not-suc-le-zero, arith, length-set, get_or-set_same, get_or-set_other}
use Rattle.std.proofs.Math.Decide.{dec_le, ℕ_discrete}
use Rattle.std.proofs.lemmas.List.{get_or-take, length-take-le}
use Rattle.std.specs.Float.{nan}
use Rattle.lane.specs.Floats.{◌‼◌}
use Rattle.lines.specs.Lines.{is_length}
use Rattle.lines.specs.View.{length_of}
use Rattle.lines.proofs.Delay.{held_between}
use Rattle.extended.specs.declared.Chord.{Chord}
use Rattle.teeth.specs.Teeth.{teeth_of, tooth_delay, first_of, is_of_four, is_needed, how_many, tooth_first, cells_needed}
use Rattle.teeth.specs.Promises.{plan_at, place_of, size_in, fraction_of, Widths, Planned}
use Rattle.teeth.specs.Needed.{needed_no, many_none, fresh_tooth, size_more, tooth_same, Apart, Clear, clear_of}

-- the first cells of the teeth so far
abbrev pub kept : List ℕ → ℕ → ℕ
kept firsts j = get_or firsts j 0

-- the first tooth before tooth i that needs the cell, where one does
abbrev pub Earlier : (first : ℕ → ℕ) (i back : ℕ) → Option ℕ → Type 0
Earlier first i back found = MatchOption found (is_needed first i back ≡ false) (λ j. (j < i) × (is_of_four (first j) back ≡ true))

-- of the list of those before tooth i
module _ (firsts : List ℕ) (i : ℕ) (h : i ≤ length firsts) where
  abbrev before : List ℕ
  before = take i firsts

  width : length before ≡ i
  width = length-take-le i firsts h

  passed : (P : ℕ → Type 0) → ((j : ℕ) → j < length before → P (kept before j)) → (j : ℕ) → j < i → P (kept firsts j)
  passed P all j l = subst P (get_or-take i firsts j 0 l) (all j (omega (arith, width)))

  pub earlier_of : (back : ℕ) (found : Option ℕ)
      → MatchOption found ((j : ℕ) → j < length before → is_of_four (kept before j) back ≡ false)
      (λ j. (j < length before) × (is_of_four (kept before j) back ≡ true))
      → Earlier (kept firsts) i back found
  earlier_of back None all = needed_no (kept firsts) i back (passed (λ first. is_of_four first back ≡ false) all)
  earlier_of back (Some j) (l, e) =
      let inside : j < i = omega (arith, width) in
      (inside, subst (λ (first : ℕ). is_of_four first back ≡ true) (get_or-take i firsts j 0 inside) e)

  pub clear_before : (a : ℕ) → ((j : ℕ) → j < length before → Apart (kept before j) a) → Clear (kept firsts) i a
  clear_before a all = clear_of (kept firsts) i a (passed (λ first. Apart first a) all)

-- ---- cell by cell

-- the first t of the teeth's cells, four a tooth, stand among `size` cells, each of which is one of them
pub record Placed (first : ℕ → ℕ) (t : ℕ) (plan : List ℕ) (size : ℕ) : Type 0 where
  pub width : length plan ≡ 65
  pub most : size ≤ t
  pub place : (j k : ℕ) → j * 4 + k < t → k < 4 → place_of plan j k < size
  pub back : (j k : ℕ) → j * 4 + k < t → k < 4 → plan_at plan (place_of plan j k) ≡ first j + k
  pub below : (top : ℕ) → ((j k : ℕ) → j * 4 + k < t → k < 4 → first j + k < top) → (m : ℕ) → m < size → plan_at plan m < top

-- cell t is tooth i's, so many steps back
pub record Cell (first : ℕ → ℕ) (i t steps : ℕ) : Type 0 where
  pub tooth : i < 8
  pub least : i * 4 ≤ t
  pub most : t < i * 4 + 4
  pub is : steps + i * 4 ≡ first i + t

pub placed_none : (f : ℕ → ℕ) (plan : List ℕ) → length plan ≡ 65 → Placed f 0 plan 0
placed_none f plan w =
    record {
      width = w;
      most = omega arith;
      place = λ j k h l. absurd (not-suc-le-zero h);
      back = λ j k h l. absurd (not-suc-le-zero h);
      below = λ top h m l. absurd (not-suc-le-zero l);
    }

pub placed_same : (f g : ℕ → ℕ) (i : ℕ) (plan : List ℕ) (size : ℕ) → ((j : ℕ) → j < i → f j ≡ g j)
    → Placed f (i * 4) plan size → Placed g (i * 4) plan size
placed_same f g i plan size h q =
    record {
      width = q.width;
      most = q.most;
      place = q.place;
      back = λ j k l u. q.back j k l u ∙ ap (λ (n : ℕ). n + k) (h j (omega arith));
      below = λ top b. q.below top (λ j k l u. subst (λ (n : ℕ). n + k < top) (sym (h j (omega arith))) (b j k l u));
    }

pub placed_at : (f : ℕ → ℕ) (t u : ℕ) (plan : List ℕ) (size : ℕ) → t ≡ u → Placed f t plan size → Placed f u plan size
placed_at f t u plan size e = subst (λ (n : ℕ). Placed f n plan size) e

module _ (f : ℕ → ℕ) (i t steps : ℕ) (plan : List ℕ) (size : ℕ) (x : Cell f i t steps) (q : Placed f t plan size) where
  -- a cell more: what stood in the plan stands there, and the cell's place is p
  one_more : (plan₁ : List ℕ) (size₁ p : ℕ) → length plan₁ ≡ 65 → size ≤ size₁ → size₁ ≤ t + 1 → p < size₁
      → ((m : ℕ) → m < size → plan_at plan₁ m ≡ plan_at plan m)
      → ((m : ℕ) → size ≤ m → m < size₁ → plan_at plan₁ m ≡ steps)
      → ((s : ℕ) → s < t → plan_at plan₁ (32 + s) ≡ plan_at plan (32 + s))
      → plan_at plan₁ (32 + t) ≡ p → plan_at plan₁ p ≡ steps
      → Placed f (t + 1) plan₁ size₁
  one_more plan₁ size₁ p w l u lp old new others own there =
      let own-place : (j k : ℕ) → j * 4 + k ≡ t → place_of plan₁ j k ≡ p = λ j k e. ap (λ (s : ℕ). plan_at plan₁ (32 + s)) e ∙ own in
      let other_place : (j k : ℕ) → j * 4 + k < t → place_of plan₁ j k ≡ place_of plan j k = λ j k h. others (j * 4 + k) h in
      let steps-are : steps ≡ f i + (t - i * 4) = omega arith in
      record {
        width = w;
        most = u;
        place = λ j k h b.
            elim (ℕ_discrete (j * 4 + k) t) [
              | yes e ↦ subst (λ (n : ℕ). n < size₁) (sym (own-place j k e)) lp
              | no ne ↦ let g = q.place j k (omega arith) b in let e = other_place j k (omega arith) in omega arith
            ];
        back = λ j k h b.
            elim (ℕ_discrete (j * 4 + k) t) [
              | yes e ↦
                  let ji : i ≡ j = omega arith in
                  let kt : t - i * 4 ≡ k = omega arith in
                  ap (plan_at plan₁) (own-place j k e) ∙ there ∙ steps-are ∙ (λ z. f (ji z) + kt z)
              | no ne ↦
                  ap (plan_at plan₁) (other_place j k (omega arith))
                  ∙ old (place_of plan j k) (q.place j k (omega arith) b)
                  ∙ q.back j k (omega arith) b
            ];
        below = λ top h m b.
            elim (dec_le size m) [
              | yes g ↦ subst (λ (n : ℕ). n < top) (sym (new m g b ∙ steps-are)) (h i (t - i * 4) (omega arith) (omega arith))
              | no g ↦
                  subst (λ (n : ℕ). n < top) (sym (old m (omega arith)))
                  (q.below top (λ j k a b. h j k (omega arith) b) m (omega arith))
            ];
      }

  -- a cell that no tooth before needs is appended
  pub placed_new : (u v : ℕ) → u ≡ t + 1 → v ≡ size + 1
      → (plan₁ : List ℕ) → plan₁ ≡ set (set plan size steps) (32 + t) size → Placed f u plan₁ v
  placed_new u v eu ev plan₁ e =
      let w = q.width in
      let m = q.most in
      let l = x.tooth in
      let b = x.most in
      let plan₀ : List ℕ = set plan size steps in
      let wide : length plan₀ ≡ 65 = length-set plan size steps ∙ w in
      let here : (k : ℕ) → (k ≡ 32 + t → ⊥) → plan_at (set plan₀ (32 + t) size) k ≡ plan_at plan₀ k =
      λ k n. get_or-set_other plan₀ (32 + t) k size 0 n
      in
      let there : plan_at plan₀ size ≡ steps = get_or-set_same plan size steps 0 (omega arith) in
      let p : Placed f (t + 1) (set plan₀ (32 + t) size) (size + 1) =
      one_more (set plan₀ (32 + t) size) (size + 1) size (length-set plan₀ (32 + t) size ∙ wide) (omega arith) (omega arith) (omega arith)
      (λ k h. here k (λ e. omega arith) ∙ get_or-set_other plan size k steps 0 (λ e. omega arith))
      (λ k h g.
      let e : size ≡ k = omega arith in
      subst (λ (n : ℕ). plan_at (set plan₀ (32 + t) size) n ≡ steps) e (here size (λ e. omega arith) ∙ there))
      (λ s h. here (32 + s) (λ e. omega arith) ∙ get_or-set_other plan size (32 + s) steps 0 (λ e. omega arith))
      (get_or-set_same plan₀ (32 + t) size 0 (omega arith))
      (here size (λ e. omega arith) ∙ there)
      in
      rw (eu, ev, e) p

  -- one that tooth j before needs too has that one's place
  pub placed_old : (j k : ℕ) → j < i → k < 4 → f j + k ≡ steps → Placed f (t + 1) (set plan (32 + t) (place_of plan j k)) size
  placed_old j k h b e =
      let w = q.width in
      let m = q.most in
      let l = x.tooth in
      let o = x.most in
      let y = x.least in
      let p : ℕ = place_of plan j k in
      let lp : p < size = q.place j k (omega arith) b in
      let here : (n : ℕ) → (n ≡ 32 + t → ⊥) → plan_at (set plan (32 + t) p) n ≡ plan_at plan n = λ n ne. get_or-set_other plan (32 + t) n p 0 ne in
      one_more (set plan (32 + t) p) size p (length-set plan (32 + t) p ∙ w) (omega arith) (omega arith) lp
      (λ n g. here n (λ e. omega arith))
      (λ n g a. absurd (omega arith))
      (λ s g. here (32 + s) (λ e. omega arith))
      (get_or-set_same plan (32 + t) p 0 (omega arith))
      (here p (λ e. omega arith) ∙ q.back j k (omega arith) b ∙ e)

-- ---- tooth by tooth

pub few_teeth : (c : Chord) → teeth_of c ≤ 8
unfolding teeth_of
few_teeth c = omega arith

pub record Planning (len : ℕ) (ratio : Float) (c : Chord) (i : ℕ) (plan : List ℕ) (teeth : List Float) (firsts : List ℕ) (size : ℕ) : Type 0 where
  pub wide : length firsts ≡ 8
  pub fractions : length teeth ≡ 9
  pub last : teeth ‼ 8 ≡ ratio
  pub placed : Placed (kept firsts) (i * 4) plan size
  pub first : (j : ℕ) → j < i → kept firsts j ≡ tooth_first len ratio c j
  pub fraction : (j : ℕ) → j < i → teeth ‼ j ≡ fraction_of len (tooth_delay ratio c j)
  pub counts : size ≡ how_many (is_needed (tooth_first len ratio c) i) len

-- the last of a tooth's four cells is in the ring
pub first_inside : (len : ℕ) (delay : Float) → is_length len ≡ true → first_of len delay + 3 < len
unfolding first_of
first_inside len delay g =
    let t = length_of len g in
    let b = held_between len delay t.least t.most in
    let l = b.least in
    let m = b.most in
    omega arith

pub planning_none : (len : ℕ) (ratio : Float) (c : Chord) (plan : List ℕ) (teeth : List Float) (firsts : List ℕ)
    → Widths plan teeth → length firsts ≡ 8 → Planning len ratio c 0 plan (set teeth 8 ratio) firsts 0
planning_none len ratio c plan teeth firsts w l =
    let t = w.fractions in
    record {
      wide = l;
      fractions = length-set teeth 8 ratio ∙ t;
      last = get_or-set_same teeth 8 ratio nan (omega arith);
      placed = placed_none (kept firsts) plan w.cells;
      first = λ j h. absurd (not-suc-le-zero h);
      fraction = λ j h. absurd (not-suc-le-zero h);
      counts = many_none (tooth_first len ratio c) len;
    }

module _ (len : ℕ) (ratio : Float) (c : Chord) (i : ℕ) (plan : List ℕ) (teeth : List Float) (firsts : List ℕ) (size : ℕ)
    (q : Planning len ratio c i plan teeth firsts size) (l : i < 8) (first : ℕ) (e : first ≡ tooth_first len ratio c i) where
  earlier_kept : (j : ℕ) → j < i → kept firsts j ≡ kept (set firsts i first) j
  earlier_kept j h = sym (get_or-set_other firsts i j first 0 (λ e. omega arith))

  -- the first cells with tooth i's
  pub firsts_more : (j : ℕ) → j < i + 1 → kept (set firsts i first) j ≡ tooth_first len ratio c j
  firsts_more =
      let w = q.wide in
      below_more (λ j. kept (set firsts i first) j ≡ tooth_first len ratio c j) i
      (λ j h. sym (earlier_kept j h) ∙ q.first j h)
      (get_or-set_same firsts i first 0 (omega arith) ∙ e)

  pub placed_before : Placed (kept (set firsts i first)) (i * 4) plan size
  placed_before = placed_same (kept firsts) (kept (set firsts i first)) i plan size earlier_kept q.placed

  pub planning_more : is_length len ≡ true → (t : Float) → t ≡ fraction_of len (tooth_delay ratio c i) → (plan₁ : List ℕ) (size₁ : ℕ)
      → size₁ ≡ fresh_tooth (kept (set firsts i first)) i size → Placed (kept (set firsts i first)) (i * 4 + 4) plan₁ size₁
      → Planning len ratio c (i + 1) plan₁ (set teeth i t) (set firsts i first) size₁
  planning_more g t et plan₁ size₁ es p =
      let f : ℕ → ℕ = tooth_first len ratio c in
      let w = q.fractions in
      record {
        wide = length-set firsts i first ∙ q.wide;
        fractions = length-set teeth i t ∙ w;
        last = get_or-set_other teeth i 8 t nan (λ e. omega arith) ∙ q.last;
        placed = placed_at (kept (set firsts i first)) (i * 4 + 4) ((i + 1) * 4) plan₁ size₁ (omega arith) p;
        first = firsts_more;
        fraction = below_more (λ j. set teeth i t ‼ j ≡ fraction_of len (tooth_delay ratio c j)) i
            (λ j h. get_or-set_other teeth i j t nan (λ e. omega arith) ∙ q.fraction j h)
            (get_or-set_same teeth i t nan (omega arith) ∙ et);
        counts = es
            ∙ tooth_same (kept (set firsts i first)) f i size firsts_more
            ∙ ap (λ (n : ℕ). fresh_tooth f i n) q.counts
            ∙ size_more f i len (first_inside len (tooth_delay ratio c i) g);
      }

-- the plan is whole once the size stands in it
pub planning_done : (len : ℕ) (ratio : Float) (c : Chord) (plan : List ℕ) (teeth : List Float) (firsts : List ℕ) (size : ℕ) → is_length len ≡ true
    → Planning len ratio c (teeth_of c) plan teeth firsts size → Planned len c (set plan 64 size) teeth × (teeth ‼ 8 ≡ ratio)
unfolding cells_needed
planning_done len ratio c plan teeth firsts size g q =
    let n = few_teeth c in
    let f : ℕ → ℕ = tooth_first len ratio c in
    let p : Placed f (teeth_of c * 4) plan size = placed_same (kept firsts) f (teeth_of c) plan size q.first q.placed in
    let w = p.width in
    let m = p.most in
    let plan₁ : List ℕ = set plan 64 size in
    let here : (k : ℕ) → k < 64 → plan_at plan₁ k ≡ plan_at plan k = λ k h. get_or-set_other plan 64 k size 0 (λ e. omega arith) in
    let size_is : size_in plan₁ ≡ size = get_or-set_same plan 64 size 0 (omega arith) in
    let place_is : (j k : ℕ) → j < teeth_of c → k < 4 → place_of plan₁ j k ≡ place_of plan j k = λ j k h l. here (32 + (j * 4 + k)) (omega arith) in
    let low : (j k : ℕ) → j < teeth_of c → k < 4 → place_of plan j k < size = λ j k h l. p.place j k (omega arith) l in (
      record {
        widths = record { cells = length-set plan 64 size ∙ w; fractions = q.fractions };
        size_is = rw q.last (size_is ∙ q.counts);
        few = subst (λ (s : ℕ). s ≤ 32) (sym size_is) (omega arith);
        inside = λ k h. subst (λ (s : ℕ). s < len) (sym (here k (omega arith)))
            (p.below len (λ j k h l. let b = first_inside len (tooth_delay ratio c j) g in omega arith) k (omega arith));
        place = λ j k h l. rw (size_is, place_is j k h l) (low j k h l);
        back = λ j k h l.
            rw q.last
            (ap (plan_at plan₁) (place_is j k h l)
            ∙ here (place_of plan j k) (let s = low j k h l in omega arith)
            ∙ p.back j k (omega arith) l);
        fraction = λ j h. rw q.last (q.fraction j h);
      },
      q.last,
    )
