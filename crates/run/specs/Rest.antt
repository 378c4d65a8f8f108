-- For the proofs: nothing here must be believed.
-- A structure without LINES leaves its slot's ring as it was. Assumes nothing.
use Rattle.std.specs.Prelude.{◌≡◌, Bool, true, false, cond, ◌||◌, ℕ, List, eqb, Float}
use Rattle.std.proofs.Math.Path.{refl}
use Rattle.std.proofs.Common.{true≢false}
use Rattle.filter.specs.declared.Pitch.{Pitch}
use Rattle.extended.specs.declared.Settings.{Settings}
use Rattle.extended.specs.Extended.{lines_mark, Ticked}
use Rattle.pole_zero.specs.declared.Table.{Table}
use Rattle.kernels.specs.Kernels.{Kernel, on_states, kernel_of}
use Rattle.voices.specs.Calls.{Steering}
use Rattle.run.specs.declared.Constants.{Constants}
use Rattle.run.specs.Run.{kernel_tick, tick_with}

record SameRing (cells : List Float) (k : Kernel) : Type 0 where
  ring : k.ring ≡ cells

neither : (a b : Bool) → (a || b) ≡ false → (a ≡ false) × (b ≡ false)
neither true b h = absurd (true≢false h)
neither false b h = (refl, h)

module _ (code : ℕ) (table : Table) (len cursor : ℕ) (pitch : Pitch) (p : Settings) (state ring : List Float) (x : Float) where
  -- a kernel on the states; a kernel that the code does not choose
  one_of : (n : ℕ) (t : Ticked) (rest : Kernel) → SameRing ring rest → SameRing ring (cond (eqb code n) (on_states ring t) rest)
  one_of n t rest h = go (eqb code n)
    where
      go : (b : Bool) → SameRing ring (cond b (on_states ring t) rest)
      go true = record { ring = refl }
      go false = h

  not_of : (b : Bool) (k rest : Kernel) → b ≡ false → SameRing ring rest → SameRing ring (cond b k rest)
  not_of true k rest e h = absurd (true≢false e)
  not_of false k rest e h = h

  same_ring : lines_mark code ≡ false → SameRing ring (kernel_of code table len cursor pitch p state ring x)
  unfolding kernel_of lines_mark
  same_ring h =
      let off : (eqb code 9 ≡ false) × (eqb code 13 ≡ false) = neither (eqb code 9) (eqb code 13) h in
      one_of 1 _ _
      (one_of 2 _ _
      (one_of 3 _ _
      (one_of 4 _ _
      (one_of 5 _ _
      (one_of 6 _ _
      (one_of 7 _ _
      (one_of 8 _ _
      (not_of (eqb code 9) _ _ off.0
      (one_of 10 _ _ (one_of 11 _ _ (one_of 12 _ _ (not_of (eqb code 13) _ _ off.1 (record { ring = refl })))))))))))))

pub tick_ring : (code : ℕ) (k : Constants) (table : Table) (len : ℕ) (sign : Float) (targets : List Float) (cursor : ℕ) (pitch input : Float)
    (st : Steering) (rec ring : List Float) → lines_mark code ≡ false
    → (tick_with code k table len sign targets cursor pitch input st rec ring).ring ≡ ring
unfolding tick_with kernel_tick
tick_ring code k table len sign targets cursor pitch input st rec ring h = (same_ring code table len cursor _ _ _ ring _ h).ring
