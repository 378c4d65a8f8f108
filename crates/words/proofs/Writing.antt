-- Laws of the numbers written in runs: a run is what its definition counts, and the numbers after it go on as if none stood before. Assumes nothing.
use mathlib.Core.Path.{◌≡◌, refl, sym, ◌∙◌}
use mathlib.Core.Bool.{Bool, true, false, not}
use mathlib.Core.List.{List, [], ◌∷◌}
use Prim.Native.Nat.{ℕ, suc, ◌+◌, ◌<◌}
use native.Mathlib.Omega.{arith}
use lib.Dec.{eqb}
use lib.Ieee.{Float, nan}
use lib.ListN.{length, drop, get_or, take}
use borrow.Author.Tests.{eq-eqb}
use Rattle.std.proofs.Common.{cond}
use Rattle.std.specs.List.{prefix_len}
use Rattle.std.proofs.lemmas.List.{length-take}
use Rattle.std.proofs.lemmas.List.Sums.{prefix_len-le-length}
use Rattle.text.specs.Text.{Buffer, count, bits_of}
use Rattle.words.specs.Words.{choose, run_of, put_run, runs_from, put_runs}

-- ---- a run's length

module _ (b : ℕ) where
  prefix_is : (xs : List Float) → prefix_len (λ x. eqb (bits_of x) b) xs ≡ run_of b xs
  unfolding run_of
  prefix_is [] = refl
  prefix_is (x ∷ xs) = go (eqb (bits_of x) b) (prefix_is xs)
    where
      go : (t : Bool) {m n : ℕ} → m ≡ n → cond t (1 + m) 0 ≡ count (not t) n
      go true e = omega arith
      go false e = refl

  pub run_is : (xs : List Float) (n : ℕ) → n ≡ length (take (prefix_len (λ x. eqb (bits_of x) b) xs) xs) → n ≡ run_of b xs
  run_is xs n e = omega (arith, e ∙ length-take {A = Float} _ xs, prefix_len-le-length (λ x. eqb (bits_of x) b) xs, prefix_is xs)

run_first : (b : ℕ) (x : Float) (xs : List Float) → b ≡ bits_of x → run_of b (x ∷ xs) ≡ suc (run_of b xs)
unfolding run_of
run_first b x xs e = rw (eq-eqb (bits_of x) b (sym e))

pub run_least : (b : ℕ) (xs : List Float) → 0 < length xs → b ≡ bits_of (get_or xs 0 nan) → 0 < run_of b xs
run_least b [] h e = absurd (omega arith)
run_least b (x ∷ xs) h e = omega (arith, run_first b x xs e)

-- ---- all runs

runs_from_lem : (b n : ℕ) (xs : List Float) (p : Buffer) → runs_from b n xs p ≡ put_runs (drop (run_of b xs) xs) (put_run b (n + run_of b xs) p)
unfolding runs_from put_runs run_of
runs_from_lem b n [] p = let e : n + 0 ≡ n = omega arith in rw e
runs_from_lem b n (x ∷ xs) p = go (eqb (bits_of x) b) (runs_from_lem b (suc n) xs p)
  where
    go : (t : Bool) → runs_from b (suc n) xs p ≡ put_runs (drop (run_of b xs) xs) (put_run b (suc n + run_of b xs) p) → choose t (runs_from b (suc n) xs p) (runs_from (bits_of x) 1 xs (put_run b n p)) ≡ put_runs (drop (count (not t) (run_of b xs)) (x ∷ xs)) (put_run b (n + count (not t) (run_of b xs)) p)
    go true h = let e : suc n + run_of b xs ≡ n + suc (run_of b xs) = omega arith in h ∙ rw e
    go false h = let e : n + 0 ≡ n = omega arith in rw e

-- a run, and the numbers t after it
pub runs_on : (b : ℕ) (xs t : List Float) (n : ℕ) (p q : Buffer) → 0 < length xs → b ≡ bits_of (get_or xs 0 nan) → n ≡ run_of b xs → t ≡ drop n xs → q ≡ put_run b n p → put_runs t q ≡ put_runs xs p
unfolding put_runs
runs_on b [] t n p q h e f d g = absurd (omega arith)
runs_on b (x ∷ xs) t n p q h e f d g =
    let m : n ≡ suc (run_of b xs) = f ∙ run_first b x xs e in
    let o : 1 + run_of b xs ≡ suc (run_of b xs) = omega arith in
    rw (d, g, m, ← e, runs_from_lem b 1 xs p, o)

pub runs_end : (xs : List Float) (p : Buffer) → length xs ≡ 0 → put_runs xs p ≡ p
unfolding put_runs
runs_end [] p h = refl
runs_end (x ∷ xs) p h = absurd (omega arith)
