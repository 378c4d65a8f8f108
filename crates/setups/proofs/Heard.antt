-- For the proofs: nothing here must be believed.
-- What is heard of a setup is heard of that again, and is all of a parked one; its checks are the setup's. Assumes nothing.
use Rattle.std.specs.Prelude.{◌≡◌, refl, Bool, true, false, cond, not, ◌&&◌, ◌||◌, ℕ, ◌+◌, ◌≤◌, ◌<◌, List, ◌++◌, leb, ltb, eqb, replicate, Float}
use Rattle.std.proofs.Common.{sym, ap, ◌∙◌, arith, leb-true, lt-ltb}
use Rattle.std.proofs.Math.ListN.{get_or-append}
use Rattle.std.specs.Float.{nan}
use Rattle.lane.specs.Floats.{◌‼◌, zero}
use Rattle.parts.specs.Parts.{upto, tab}
use Rattle.parts.specs.Laws.{upto_same, tab_at, tab_same, length_tab}
use Rattle.file_words.specs.Words.{float_of}
use Rattle.extended.specs.declared.Chord.{Chord}
use Rattle.voices.specs.Calls.{check, ◌then◌}
use Rattle.voices.specs.Accepted.{and-true}
use Rattle.setups.specs.Setup.{SoloSetup, heard_table, heard_chord, heard, within, offset_refused, codes_check_of, chord_refused, setup_check_of}
use Rattle.setups.specs.Parked.{no_chord, setup_word, solo_in}

-- the first n numbers of n and others
near_face : (f : ℕ → Float) (n : ℕ) (ys : List Float) → tab (λ i. (tab f n ++ ys) ‼ i) n ≡ tab f n
near_face f n ys =
    tab_same (λ i. (tab f n ++ ys) ‼ i) f n
    (λ i l. get_or-append (tab f n) ys nan i (omega (arith, length_tab f n)) ∙ tab_at f n i nan l)

-- by the axes
sections_twice : (three : Bool) (xs ys : List Float) (n : ℕ)
    → cond three (cond three xs (tab (λ i. xs ‼ i) n ++ ys)) (tab (λ i. cond three xs (tab (λ k. xs ‼ k) n ++ ys) ‼ i) n ++ ys)
    ≡ cond three xs (tab (λ i. xs ‼ i) n ++ ys)
sections_twice true xs ys n = refl
sections_twice false xs ys n = ap (λ (zs : List Float). zs ++ ys) (near_face (λ i. xs ‼ i) n ys)

-- ---- the chord, by whether the code takes one

abbrev heard_by : (takes : Bool) → Chord → Chord
heard_by takes c = record {
  count = cond takes c.count 0;
  offsets = tab (λ j. cond (takes && ltb j c.count) (c.offsets ‼ j) zero) 8;
}

-- a number that is heard
heard_offset : (c : Chord) (j : ℕ) → j < 8 → (heard_by true c).offsets ‼ j ≡ cond (ltb j c.count) (c.offsets ‼ j) zero
heard_offset c j l = tab_at (λ k. cond (ltb k c.count) (c.offsets ‼ k) zero) 8 j nan l

chosen_twice : (b : Bool) (x : Float) → cond b (cond b x zero) zero ≡ cond b x zero
chosen_twice true x = refl
chosen_twice false x = refl

by_twice : (takes : Bool) (c : Chord) → heard_by takes (heard_by takes c) ≡ heard_by takes c
by_twice false c = refl
by_twice true c = λ t. record {
  count = c.count;
  offsets = tab_same (λ j. cond (ltb j c.count) ((heard_by true c).offsets ‼ j) zero) (λ j. cond (ltb j c.count) (c.offsets ‼ j) zero) 8
      (λ j l. ap (λ (x : Float). cond (ltb j c.count) x zero) (heard_offset c j l) ∙ chosen_twice (ltb j c.count) (c.offsets ‼ j)) t;
}

chord_twice : (code : ℕ) (c : Chord) → heard_chord code (heard_chord code c) ≡ heard_chord code c
unfolding heard_chord
chord_twice code c = by_twice (eqb code 13) c

none_by : (takes : Bool) → heard_by takes no_chord ≡ no_chord
none_by true = refl
none_by false = refl

none_heard : (code : ℕ) → heard_chord code no_chord ≡ no_chord
unfolding heard_chord
none_heard code = none_by (eqb code 13)

pub chord_ignored : (code : ℕ) (c : Chord) → eqb code 13 ≡ false → heard_chord code c ≡ no_chord
unfolding heard_chord
chord_ignored code c e = ap (λ (takes : Bool). heard_by takes c) e

-- ---- the setup

pub heard_twice : (s : SoloSetup) → heard (heard s) ≡ heard s
unfolding heard_table
heard_twice s = λ t. record {
  code = s.code;
  rate = s.rate;
  reference = s.reference;
  channels = s.channels;
  clean = s.clean;
  table = record {
    active = s.table.active;
    three = s.table.three;
    sections = sections_twice s.table.three s.table.sections (replicate 160 zero) 160 t;
    gain = s.table.gain;
  };
  chord = chord_twice s.code s.chord t;
}

pub heard_solo : (file : List ℕ) → heard (solo_in file) ≡ solo_in file
unfolding heard_table solo_in
heard_solo file = λ t. record {
  code = (solo_in file).code;
  rate = (solo_in file).rate;
  reference = (solo_in file).reference;
  channels = (solo_in file).channels;
  clean = (solo_in file).clean;
  table = record {
    active = (solo_in file).table.active;
    three = false;
    sections = near_face (λ i. float_of (setup_word file (9 + i))) 160 (replicate 160 zero) t ++ replicate 160 zero;
    gain = (solo_in file).table.gain;
  };
  chord = none_heard (setup_word file 0) t;
}

-- ---- the checks: none reads the table, and 16 reads of the chord what is heard

abbrev refused_by : (takes : Bool) → Chord → Bool
refused_by takes c = takes && (not (within 1 8 c.count) || upto (λ j b. b || offset_refused (c.offsets ‼ j)) c.count false)

judged_same : (c : Chord) → c.count ≤ 8
    → upto (λ j b. b || offset_refused ((heard_by true c).offsets ‼ j)) c.count false
    ≡ upto (λ j b. b || offset_refused (c.offsets ‼ j)) c.count false
judged_same c few =
    upto_same (λ j b. b || offset_refused ((heard_by true c).offsets ‼ j)) (λ j b. b || offset_refused (c.offsets ‼ j)) c.count false
    (λ j b l. ap (λ (x : Float). b || offset_refused x)
    (heard_offset c j (omega arith) ∙ ap (λ (t : Bool). cond t (c.offsets ‼ j) zero) (lt-ltb j c.count l)))

-- a bad count is refused whatever the offsets are
either_same : (w p q : Bool) → (w ≡ true → p ≡ q) → not w || p ≡ not w || q
either_same true p q e = e refl
either_same false p q e = refl

by_refused : (takes : Bool) (c : Chord) → refused_by takes (heard_by takes c) ≡ refused_by takes c
by_refused false c = refl
by_refused true c =
    either_same (within 1 8 c.count) _ _
    (λ e. judged_same c (leb-true c.count 8 (and-true (leb 1 c.count) (leb c.count 8) e).1))

heard_refused : (code : ℕ) (c : Chord) → chord_refused code (heard_chord code c) ≡ chord_refused code c
unfolding chord_refused heard_chord
heard_refused code c = by_refused (eqb code 13) c

pub heard_check : (s : SoloSetup) (n : ℕ) → setup_check_of (heard s) n ≡ setup_check_of s n
unfolding setup_check_of codes_check_of
heard_check s n = λ t. codes_check_of 13 s n then check (not (heard_refused s.code s.chord t)) 16

-- setups of which the same is heard
pub same_check : (s t : SoloSetup) → heard s ≡ heard t → (n : ℕ) → setup_check_of s n ≡ setup_check_of t n
same_check s t e n = sym (heard_check s n) ∙ ap (λ (o : SoloSetup). setup_check_of o n) e ∙ heard_check t n
