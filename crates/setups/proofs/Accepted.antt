-- For the proofs: nothing here must be believed.
-- What an accepted setup knows; and that without code 13 its checks are those that a file's setup meets. Assumes nothing.
use Rattle.std.specs.Prelude.{◌≡◌, refl, true, false, ℕ, ◌*◌, ◌≤◌, leb, eqb}
use Rattle.std.proofs.Common.{sym, ◌∙◌, mul-le-mul, leb-true, le-leb, ne_eqb, arith}
use Rattle.std.proofs.Math.Decide.{dec_le}
use Rattle.std.proofs.lemmas.Bool.{not-true, lt-leb, eqb-false}
use Rattle.blocks.specs.Blocks.{parts_of}
use Rattle.lines.specs.Lines.{ring_len, is_length}
use Rattle.lines.proofs.Laws.{ring_len_good}
use Rattle.lines.specs.View.{length_of}
use Rattle.setups.specs.Setup.{SoloSetup, codes_check_of, chord_refused, setup_check_of}
use Rattle.setups.specs.Parked.{parked_codes}
use Rattle.voices.specs.Calls.{Check, fine, refused, check, ◌then◌}
use Rattle.voices.specs.Accepted.{check_fine, then_fine, and-true}

pub record SetupAccepted (s : SoloSetup) (n : ℕ) : Type 0 where
  pub some_voice : 1 ≤ n
  pub voices : n ≤ 16
  pub some_channel : 1 ≤ s.channels
  pub channels : s.channels ≤ 2
  pub slots : s.channels * n ≤ 32
  pub good : is_length (ring_len s.rate) ≡ true
  pub longest : ring_len s.rate ≤ 65536
  pub rings : s.channels * n * ring_len s.rate ≤ 2097152
  pub parts : parts_of (ring_len s.rate) ≤ 521
  pub blocks : s.channels * n * parts_of (ring_len s.rate) ≤ 16672

pub codes_accepted : (codes : ℕ) (s : SoloSetup) (n : ℕ) → codes_check_of codes s n ≡ fine → SetupAccepted s n
unfolding codes_check_of
codes_accepted codes s n e =
    let a = then_fine _ _ e in
    let b = then_fine _ _ a.1 in
    let c = then_fine _ _ b.1 in
    let d = then_fine _ _ c.1 in
    let v = and-true _ _ (check_fine _ _ c.0) in
    let h = and-true _ _ (check_fine _ _ d.0) in
    let hv : n ≤ 16 = leb-true _ _ v.1 in
    let hc : s.channels ≤ 2 = leb-true _ _ h.1 in
    let g : is_length (ring_len s.rate) ≡ true = ring_len_good s.rate (not-true _ (check_fine _ _ a.0)) in
    let hl : ring_len s.rate ≤ 65536 = (length_of (ring_len s.rate) g).most in
    let hp : parts_of (ring_len s.rate) ≤ 521 = omega arith in
    record {
      some_voice = leb-true _ _ v.0;
      voices = hv;
      some_channel = leb-true _ _ h.0;
      channels = hc;
      slots = mul-le-mul hc hv;
      good = g;
      longest = hl;
      rings = mul-le-mul (mul-le-mul hc hv) hl;
      parts = hp;
      blocks = mul-le-mul (mul-le-mul hc hv) hp;
    }

pub setup_accepted : (s : SoloSetup) (n : ℕ) → setup_check_of s n ≡ fine → SetupAccepted s n
unfolding setup_check_of
setup_accepted s n e = codes_accepted _ s n (then_fine _ _ e).0

-- ---- C-18: a code that takes no chord

not_thirteen : (code : ℕ) → eqb code 13 ≡ false → leb code 13 ≡ leb code parked_codes
not_thirteen code e =
    let other = eqb-false code 13 e in
    elim (dec_le code parked_codes) [
      | yes l ↦ le-leb code 13 (omega arith) ∙ sym (le-leb code parked_codes l)
      | no l ↦ lt-leb code 13 (omega arith) ∙ sym (lt-leb code parked_codes (omega arith))
    ]

then_passed : (a : Check) → a then fine ≡ a
unfolding ◌then◌
then_passed fine = refl
then_passed (refused k) = refl

pub without_chord : (s : SoloSetup) (n : ℕ) → eqb s.code 13 ≡ false → setup_check_of s n ≡ codes_check_of parked_codes s n
unfolding setup_check_of codes_check_of chord_refused check
without_chord s n e = rw (e, not_thirteen s.code e) (then_passed _)

code_below : (codes : ℕ) (s : SoloSetup) (n : ℕ) → codes_check_of codes s n ≡ fine → s.code ≤ codes
unfolding codes_check_of
code_below codes s n e =
    let code = (then_fine _ _ (then_fine _ _ (then_fine _ _ (then_fine _ _ e).1).1).1).1 in
    leb-true s.code codes (and-true (leb 1 s.code) (leb s.code codes) (check_fine _ _ code)).1

-- what a file's setup meets is enough for a bank's
pub file_accepted : (s : SoloSetup) (n : ℕ) → codes_check_of parked_codes s n ≡ fine → setup_check_of s n ≡ fine
file_accepted s n e = without_chord s n (ne_eqb s.code 13 (λ d. omega (arith, code_below parked_codes s n e, d))) ∙ e
