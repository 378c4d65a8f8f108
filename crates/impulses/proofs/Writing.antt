-- Laws of the text printed: bytes that follow each other, and one turn of the samples' loop. Assumes nothing.
use Rattle.std.proofs.Common.{◌≡◌, ℕ, ◌+◌, ◌<◌, ◌≤◌, Bool, true, false, ltb, List, ◌∷◌, ◌++◌, length, get_or, drop, set, refl, ap, ◌∙◌, add-one, arith, length-set, drop_of_length-le, drop-cons, ltb-true, []}
use lib.Ieee.{Float, nan}
use Rattle.text.specs.Text.{Buffer, buffer, room, put, puts}
use Rattle.impulses.specs.Impulse.{sample_text, samples_text}

pub puts_append : (s t : List ℕ) (p : Buffer) → puts (s ++ t) p ≡ puts t (puts s p)
unfolding puts
puts_append [] t p = refl
puts_append (b ∷ s) t p = puts_append s t (put b p)

pub samples_on : (xs : List Float) (i : ℕ) (p q : Buffer) → i < length xs → q ≡ puts (sample_text i (get_or xs i nan)) p → puts (samples_text (i + 1) (drop (i + 1) xs)) q ≡ puts (samples_text i (drop i xs)) p
unfolding samples_text
samples_on xs i p q h e = rw (drop-cons xs i nan h, add-one, puts_append, e)

pub samples_end : (xs : List Float) (i : ℕ) (p : Buffer) → length xs ≤ i → puts (samples_text i (drop i xs)) p ≡ p
unfolding samples_text puts
samples_end xs i p h = let e : drop i xs ≡ [] = drop_of_length-le xs h in rw e

-- ---- a buffer keeps its length, and its position stays within

module _ (b : ℕ) (p : Buffer) where
  put_length : length (put b p).bytes ≡ length p.bytes
  unfolding put
  put_length = go (ltb p.at (length p.bytes))
    where
      go : (t : Bool) → length (room t (buffer (set p.bytes p.at b) (p.at + 1)) p).bytes ≡ length p.bytes
      go true = length-set p.bytes p.at b
      go false = refl

  put_at : p.at ≤ length p.bytes → (put b p).at ≤ length p.bytes
  unfolding put
  put_at h = go (ltb p.at (length p.bytes)) refl
    where
      go : (t : Bool) → ltb p.at (length p.bytes) ≡ t → (room t (buffer (set p.bytes p.at b) (p.at + 1)) p).at ≤ length p.bytes
      go true e = omega (arith, ltb-true p.at (length p.bytes) e)
      go false e = h

puts_kept : (s : List ℕ) (p : Buffer) → length (puts s p).bytes ≡ length p.bytes
unfolding puts
puts_kept [] p = refl
puts_kept (b ∷ s) p = puts_kept s (put b p) ∙ put_length b p

puts_in : (s : List ℕ) (p : Buffer) → p.at ≤ length p.bytes → (puts s p).at ≤ length p.bytes
unfolding puts
puts_in [] p h = h
puts_in (b ∷ s) p h =
    let k : length (put b p).bytes ≡ length p.bytes = put_length b p in
    let i : (put b p).at ≤ length (put b p).bytes = omega (arith, put_at b p h) in
    omega (arith, puts_in s (put b p) i)

module _ (s out : List ℕ) (r : ℕ) (p : Buffer) (e : buffer out r ≡ puts s p) where
  pub puts_length : length out ≡ length p.bytes
  puts_length = ap (λ (q : Buffer). length q.bytes) e ∙ puts_kept s p

  pub puts_within : p.at ≤ length p.bytes → r ≤ length out
  puts_within h =
      let a : r ≡ (puts s p).at = ap (λ (q : Buffer). q.at) e in
      omega (arith, puts_in s p h, puts_length)
