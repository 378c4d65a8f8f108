-- "The reader takes any order" (document 02, C-12): a file and any rearrangement of its blocks give the same answer and lists. The statement. Proved in
-- proofs/AnyOrder.antt (`any_order`). Assumes nothing.
use Rattle.std.specs.Prelude.{◌≡◌}
use Prim.Native.Nat.{ℕ}
use mathlib.Core.List.{List}
use Rattle.voices.specs.Calls.{fine, Bank}
use Rattle.places.specs.ByHead.{Shuffled}
use Rattle.setups.specs.Parked.{solo_in, voices_in, bank_in}
use Rattle.setups.specs.Parked.{restore_verdict}

-- what two files have in common that restore alike
pub record SameFile (a b : List ℕ) : Type 0 where
  pub setup : solo_in b ≡ solo_in a
  pub voices : voices_in b ≡ voices_in a
  pub bank : bank_in b ≡ bank_in a

-- The verdict is the same, and where it accepts, so are setup, cursor and lists.
abbrev pub AnyOrder : (a b : List ℕ) → Type 0
AnyOrder a b =
    Shuffled a b → (lent : Bank) → (restore_verdict b lent ≡ restore_verdict a lent) × (restore_verdict a lent ≡ fine → SameFile a b)
