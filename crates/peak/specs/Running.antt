-- For the proofs: nothing here must be believed.
-- The peak while a block runs. A number without sign rises by two comparisons a frame, with the sample and with its negative. Any other peak goes
-- at the first sample that is no NaN, so -1 runs in its place, and the peak itself returns where no such sample came. Assumes nothing.
use Rattle.std.specs.Prelude.{◌≡◌, Bool, not, ◌&&◌, ℕ, ◌+◌, ◌*◌, ◌≤◌, ℤ, T, eqb, Float}
use Rattle.std.proofs.Math.Path.{refl, sym, ap, subst}
use Rattle.std.proofs.Common.{◌∙◌, true≢false, zero-mul, arith}
use Rattle.std.proofs.Math.Bool.{true, false, cond}
use borrow.Author.Tests.{le-ltb, lt-ltb}
use Rattle.std.proofs.Math.Dec.{nltb→le}
use Rattle.std.specs.Float.Ieee.{nan, binary32, up, down, round, neg, lt, is_nan, fits}
use Rattle.std.specs.Float.{inf, fin}
use Rattle.std.specs.Float.Ieee.Fits.{neg-fits, inf-fits, up_pos, down_pos}
use Rattle.bits.specs.Zeros.{zero_factor, zero-product}
use Rattle.bits.specs.Values.{zero_form}
use Rattle.lane.specs.Floats.{zero, one}
use Rattle.lane.specs.Lane.{is_plus_zero, is_minus_zero, is_below, max_of}
use Rattle.lane.specs.Order.{max_in01, max_nan, max_moved}
use Rattle.lane.proofs.Compared.{max_compared}
use Rattle.peak.specs.Peak.{peak_of}
use Rattle.peak.specs.Laws.{unsigned, abs_unsigned, max_inf}

-- a number without sign
unfoldable pub is_plain : Float → Bool
is_plain b = not (lt b zero) && not (is_nan b) && not (is_minus_zero b)

-- what runs in a peak's place from a block's start, what it is after a sample, and the peak that it stands for
unfoldable pub running_of : (peak : Float) → Float
running_of peak = cond (is_plain peak) peak (neg one)

unfoldable pub raised_of : (running out : Float) → Float
raised_of running out =
    let high = cond (lt running out) out running in
    cond (lt high (neg out)) (neg out) high

unfoldable pub settled_of : (peak running : Float) → Float
settled_of peak running = cond (lt running zero) peak (cond (lt zero running) running zero)

-- p runs in the place of the peak b that a block began with
pub record Runs (b p : Float) : Type 0 where
  pub number : is_nan p ≡ false
  pub low : lt p zero ≡ true → (p ≡ neg one) × (lt zero b ≡ false)
  pub fits_b : T (fits binary32 b)
  pub fits_p : T (fits binary32 p)

-- ---- one comparison gives the larger of two, where the first is neither NaN nor -0
larger : (a b : Float) → is_nan a ≡ false → is_minus_zero a ≡ false → cond (lt a b) b a ≡ max_of a b
unfolding max_in01 is_nan lt
larger a b n z = sym (max_moved a b ∙ ap (λ (k : Bool). cond (k && is_plus_zero b) b (max_in01 a b)) z ∙ go (is_nan a) (is_nan b) (lt a b) n (nan_not a b))
  where
    nan_not : (a b : Float) → T (is_nan b) → lt a b ≡ false
    nan_not nan b h = refl
    nan_not (inf s) nan h = refl
    nan_not (fin s m e) nan h = refl
    nan_not (inf s) (inf _) h = elim h [ ]
    nan_not (inf s) (fin _ _ _) h = elim h [ ]
    nan_not (fin s m e) (inf _) h = elim h [ ]
    nan_not (fin s m e) (fin _ _ _) h = elim h [ ]

    go : (p q l : Bool) → p ≡ false → (T q → l ≡ false) → cond p b (cond q a (cond l b a)) ≡ cond l b a
    go true q l e h = absurd (true≢false e)
    go false true l e h = ap (λ (k : Bool). cond k b a) (sym (h tt))
    go false false l e h = refl

-- ---- a number without sign, beside one that is not above 0
off : (k : Bool) → k ≡ false → T (not k)
off true h = true≢false h
off false h = tt

-- one that is not above 0 is 0
is_zero : (k : ℕ) (e : ℤ) → lt zero (fin false k e) ≡ false → k ≡ 0
unfolding lt round
is_zero k e h =
    let none : k * up e * 1 ≤ 0 * 1 * down e = nltb→le (0 * 1 * down e) (k * up e * 1) (subst T (ap not (sym h)) tt) in
    zero_factor k (up e) (up_pos e) (omega (arith, none, zero-mul (down e)))

not_above : (b : Float) (k : ℕ) (e : ℤ) → lt zero b ≡ false → lt (fin false k e) b ≡ false
unfolding lt round
not_above nan k e h = refl
not_above (inf true) k e h = refl
not_above (inf false) k e h = absurd (true≢false h)
not_above (fin true n d) k e h = refl
not_above (fin false n d) k e h = le-ltb (k * up e * down d) (n * up d * down e) (omega (arith, zero-product n (up d) (down e) (is_zero n d h)))

low_max : (b : Float) (k : ℕ) (e : ℤ) → T (fits binary32 b) → T (fits binary32 (fin false k e)) → lt zero b ≡ false
    → max_of b (fin false k e) ≡ fin false k e
unfolding is_nan
low_max b k e f g h = max_compared b (fin false k e) f g refl refl ∙ ap (λ (c : Bool). cond c b (fin false k e)) (not_above b k e h)

-- ---- a number without sign stands for itself
not_low : (k : ℕ) (e : ℤ) → lt (fin false k e) zero ≡ false
unfolding lt round
not_low k e = le-ltb (k * up e * 1) (0 * 1 * down e) (omega (arith, zero-mul (down e)))

zero_is : (k : ℕ) (e : ℤ) → T (fits binary32 (fin false k e)) → k ≡ 0 → zero ≡ fin false k e
unfolding round
zero_is k e f h =
    sym (ap (λ (n : ℕ). fin false n e) h ∙ zero_form binary32 false e (subst (λ (n : ℕ). T (fits binary32 (fin false n e))) h f))

stands : (b : Float) (k : ℕ) (e : ℤ) → T (fits binary32 (fin false k e)) → settled_of b (fin false k e) ≡ fin false k e
unfolding settled_of
stands b k e f = ap (λ (c : Bool). cond c b (cond (lt zero x) x zero)) (not_low k e) ∙ go (lt zero x) refl
  where
    x : Float
    x = fin false k e

    go : (c : Bool) → lt zero x ≡ c → cond c x zero ≡ x
    go true h = refl
    go false h = zero_is k e f (is_zero k e h)

runs : (b : Float) (k : ℕ) (e : ℤ) → T (fits binary32 b) → T (fits binary32 (fin false k e)) → Runs b (fin false k e)
unfolding is_nan
runs b k e f g = record { number = refl; low = λ l. absurd (true≢false (sym l ∙ not_low k e)); fits_b = f; fits_p = g }

runs_inf : (b : Float) → T (fits binary32 b) → Runs b (inf false) × (settled_of b (inf false) ≡ inf false)
unfolding is_nan lt settled_of round
runs_inf b f = (record { number = refl; low = λ l. absurd (true≢false (sym l)); fits_b = f; fits_p = inf-fits binary32 false }, refl)

-- ---- a number with a sign is below 0 or -0, which stands for +0
signed_zero : (k : ℕ) (e : ℤ) → lt (fin true k e) zero ≡ false → k ≡ 0
unfolding lt round
signed_zero k e h =
    let none : k * up e * 1 + 0 * 1 * down e ≤ 0 = nltb→le 0 (k * up e * 1 + 0 * 1 * down e) (off _ h) in
    zero_factor k (up e) (up_pos e) (omega arith)

minus_stands : (b : Float) (k : ℕ) (e : ℤ) → T (fits binary32 b) → T (fits binary32 (fin true k e)) → k ≡ 0
    → Runs b (fin true k e) × (settled_of b (fin true k e) ≡ zero)
unfolding settled_of is_nan lt round
minus_stands b k e f g h =
    let low : lt (fin true k e) zero ≡ false = le-ltb 0 (k * up e * 1 + 0 * 1 * down e) (omega (arith, zero-product k (up e) 1 h, zero-mul (down e))) in (
      record { number = refl; low = λ l. absurd (true≢false (sym l ∙ low)); fits_b = f; fits_p = g },
      ap (λ (c : Bool). cond c b zero) low,
    )

-- ---- at a block's start
signed : (k : ℕ) (e : ℤ) → is_plain (fin true k e) ≡ true → ⊥
unfolding is_plain is_nan lt round
signed k e h = go (lt (fin true k e) zero) refl (eqb k 0) refl h
  where
    go : (l : Bool) → lt (fin true k e) zero ≡ l → (z : Bool) → eqb k 0 ≡ z → not l && true && not (true && z) ≡ true → ⊥
    go true a z b h = true≢false (sym h)
    go false a true b h = true≢false (sym h)
    go false a false b h = true≢false (sym (ap (λ (n : ℕ). eqb n 0) (signed_zero k e a)) ∙ b)

plain_stands : (b : Float) → T (fits binary32 b) → is_plain b ≡ true → Runs b b × (settled_of b b ≡ b)
unfolding is_plain is_nan lt round
plain_stands nan f h = absurd (true≢false (sym h))
plain_stands (inf true) f h = absurd (true≢false (sym h))
plain_stands (inf false) f h = runs_inf (inf false) f
plain_stands (fin true k e) f h = absurd (signed k e h)
plain_stands (fin false k e) f h = (runs (fin false k e) k e f f, stands (fin false k e) k e f)

not_plain : (b : Float) → is_plain b ≡ false → lt zero b ≡ false
unfolding is_plain is_nan lt round
not_plain nan h = refl
not_plain (inf true) h = refl
not_plain (inf false) h = absurd (true≢false h)
not_plain (fin true k e) h = refl
not_plain (fin false k e) h = absurd (true≢false (sym (ap (λ (c : Bool). not c && true && true) (not_low k e)) ∙ h))

pub begins : (b : Float) → T (fits binary32 b) → Runs b (running_of b) × (settled_of b (running_of b) ≡ b)
unfolding running_of settled_of is_nan lt neg round fits
begins b f = go (is_plain b) refl
  where
    go : (c : Bool) → is_plain b ≡ c → Runs b (cond c b (neg one)) × (settled_of b (cond c b (neg one)) ≡ b)
    go true h = plain_stands b f h
    go false h = (record { number = refl; low = λ l. (refl, not_plain b h); fits_b = f; fits_p = tt }, refl)

-- ---- after a sample that is a number: m is its size
module _ (b : Float) (f : T (fits binary32 b)) (k : ℕ) (e : ℤ) (g : T (fits binary32 (fin false k e))) where
  abbrev m : Float
  m = fin false k e

  -- what is to be shown of r, with q the peak before
  abbrev Raised : (q r : Float) → Type 0
  Raised q r = Runs b r × (settled_of b r ≡ max_of q m)

  -- m itself, the larger
  of_size : (q : Float) → max_of q m ≡ m → Raised q m
  of_size q h = (runs b k e f g, stands b k e g ∙ sym h)

  -- of a number without sign, by one comparison with m
  of_plain : (j : ℕ) (d : ℤ) → T (fits binary32 (fin false j d)) → Raised (settled_of b (fin false j d)) (cond (lt (fin false j d) m) m (fin false j d))
  unfolding is_nan
  of_plain j d i = go (lt (fin false j d) m) (larger (fin false j d) m refl refl)
    where
      go : (c : Bool) → cond c m (fin false j d) ≡ max_of (fin false j d) m → Raised (settled_of b (fin false j d)) (cond c m (fin false j d))
      go true h = of_size (settled_of b (fin false j d)) (ap (λ (q : Float). max_of q m) (stands b j d i) ∙ sym h)
      go false h = (runs b j d f i, stands b j d i ∙ h ∙ ap (λ (q : Float). max_of q m) (sym (stands b j d i)))

  -- where m is not above a number with a sign, it is 0
  no_size : (j : ℕ) (d : ℤ) → lt (fin true j d) m ≡ false → k ≡ 0
  unfolding lt
  no_size j d h =
      let none : j * up d * down e + k * up e * down d ≤ 0 = nltb→le 0 (j * up d * down e + k * up e * down d) (off _ h) in
      zero_factor k (up e) (up_pos e) (zero_factor (k * up e) (down d) (down_pos d) (omega arith))

  -- of a number with a sign that is -0 or, if m is above it, any, beside a peak q that is not above m
  of_signed : (q : Float) (j : ℕ) (d : ℤ) → T (fits binary32 (fin true j d)) → (lt (fin true j d) m ≡ false → j ≡ 0) → max_of q m ≡ m
      → Raised q (cond (lt (fin true j d) m) m (fin true j d))
  of_signed q j d i z h = go (lt (fin true j d) m) refl
    where
      go : (c : Bool) → lt (fin true j d) m ≡ c → Raised q (cond c m (fin true j d))
      go true l = of_size q h
      go false l =
          let minus = minus_stands b j d f i (z l) in
          (minus.0, minus.1 ∙ zero_is k e g (no_size j d l) ∙ sym h)

  -- of -1, in the place of a peak that is not above 0
  under : lt (neg one) m ≡ true
  unfolding lt neg round
  under = lt-ltb 0 (1 * 1 * down e + k * up e * 1) (omega (arith, down_pos e))

  of_low : (s : Bool) → T (fits binary32 (fin s k e)) → lt zero b ≡ false → Raised b (raised_of (neg one) (fin s k e))
  unfolding raised_of settled_of is_nan lt neg round
  of_low false i h =
      subst (λ (c : Bool). Raised b (cond (lt (cond c m (neg one)) (fin true k e)) (fin true k e) (cond c m (neg one)))) (sym under)
      (of_size b (low_max b k e f g h))
  of_low true i h = go (lt (neg one) (fin true k e))
    where
      go : (c : Bool) → Raised b (cond (lt (cond c (fin true k e) (neg one)) m) m (cond c (fin true k e) (neg one)))
      go true = of_signed b k e i (no_size k e) (low_max b k e f g h)
      go false = subst (λ (c : Bool). Raised b (cond c m (neg one))) (sym under) (of_size b (low_max b k e f g h))

  -- of p that is not below 0 the two comparisons are one, with m
  one_test : (p : Float) (s : Bool) → is_nan p ≡ false → lt p zero ≡ false → raised_of p (fin s k e) ≡ cond (lt p m) m p
  unfolding raised_of is_nan lt neg round
  one_test nan s n l = absurd (true≢false n)
  one_test (inf true) s n l = absurd (true≢false l)
  one_test (inf false) s n l = refl
  one_test (fin false j d) true n l = refl
  one_test (fin false j d) false n l = go (lt (fin false j d) m)
    where
      go : (c : Bool)
          → cond (lt (cond c m (fin false j d)) (fin true k e)) (fin true k e) (cond c m (fin false j d)) ≡ cond c m (fin false j d)
      go true = refl
      go false = refl
  one_test (fin true j d) s n l = sides s
    where
      never : lt (fin true j d) (fin true k e) ≡ false
      never = le-ltb (k * up e * down d) (j * up d * down e) (omega (arith, zero-product j (up d) (down e) (signed_zero j d l)))

      go : (c : Bool) → cond (lt (cond c m (fin true j d)) (fin true k e)) (fin true k e) (cond c m (fin true j d)) ≡ cond c m (fin true j d)
      go true = refl
      go false = ap (λ (c : Bool). cond c (fin true k e) (fin true j d)) never

      sides : (s : Bool) → raised_of (fin true j d) (fin s k e) ≡ cond (lt (fin true j d) m) m (fin true j d)
      sides false = go (lt (fin true j d) m)
      sides true = ap (λ (c : Bool). cond (lt (cond c (fin true k e) (fin true j d)) m) m (cond c (fin true k e) (fin true j d))) never

  of_other : (p : Float) → Runs b p → lt p zero ≡ false → Raised (settled_of b p) (cond (lt p m) m p)
  unfolding settled_of is_nan lt round max_of is_below fits
  of_other nan r l = absurd (true≢false r.number)
  of_other (inf true) r l = absurd (true≢false l)
  of_other (inf false) r l = runs_inf b f
  of_other (fin false j d) r l = of_plain j d r.fits_p
  of_other (fin true j d) r l =
      let z = signed_zero j d l in
      subst (λ (q : Float). Raised q (cond (lt (fin true j d) m) m (fin true j d))) (sym (minus_stands b j d f r.fits_p z).1)
      (of_signed zero j d r.fits_p (λ h. z) (low_max zero k e tt g refl))

  of_number : (p : Float) (s : Bool) → T (fits binary32 (fin s k e)) → Runs b p → Raised (settled_of b p) (raised_of p (fin s k e))
  unfolding settled_of lt neg round
  of_number p s i r = go (lt p zero) refl
    where
      go : (c : Bool) → lt p zero ≡ c → Raised (settled_of b p) (raised_of p (fin s k e))
      go true l =
          subst (λ (q : Float). Raised (settled_of b q) (raised_of q (fin s k e))) (sym (r.low l).0) (of_low s i (r.low l).1)
      go false l = subst (Raised (settled_of b p)) (sym (one_test p s r.number l)) (of_other p r l)

-- ---- after any sample
of_nan : (p : Float) → raised_of p nan ≡ p
unfolding raised_of lt neg
of_nan nan = refl
of_nan (inf s) = refl
of_nan (fin s m e) = refl

of_infinite : (p : Float) (s : Bool) → is_nan p ≡ false → raised_of p (inf s) ≡ inf false
unfolding raised_of is_nan lt neg
of_infinite nan s h = absurd (true≢false h)
of_infinite (inf true) true h = refl
of_infinite (inf true) false h = refl
of_infinite (inf false) true h = refl
of_infinite (inf false) false h = refl
of_infinite (fin t m e) true h = refl
of_infinite (fin t m e) false h = refl

raised : (b p x : Float) → Runs b p → T (fits binary32 x) → Runs b (raised_of p x) × (settled_of b (raised_of p x) ≡ max_of (settled_of b p) (unsigned x))
raised b p nan r f =
    subst (λ (q : Float). Runs b q × (settled_of b q ≡ max_of (settled_of b p) nan)) (sym (of_nan p)) (r, sym (max_nan (settled_of b p)).1)
raised b p (inf s) r f =
    subst (λ (q : Float). Runs b q × (settled_of b q ≡ max_of (settled_of b p) (inf false))) (sym (of_infinite p s r.number))
    ((runs_inf b r.fits_b).0, (runs_inf b r.fits_b).1 ∙ sym (max_inf (settled_of b p)))
raised b p (fin true k e) r f = of_number b r.fits_b k e (unfold neg in neg-fits binary32 (fin true k e) f) p true f r
raised b p (fin false k e) r f = of_number b r.fits_b k e f p false f r

pub raises : (b p x : Float) → Runs b p → T (fits binary32 x) → Runs b (raised_of p x) × (settled_of b (raised_of p x) ≡ peak_of (settled_of b p) x)
unfolding peak_of
raises b p x r f = ((raised b p x r f).0, (raised b p x r f).1 ∙ ap (max_of (settled_of b p)) (sym (abs_unsigned x f)))
