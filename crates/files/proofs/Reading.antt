-- The table that the survey made names blocks of the file, and what is read through it is what the heads find. Assumes nothing.
use mathlib.Core.Path.{◌≡◌, sym, ap, ◌∙◌}
use Prim.Native.Nat.{ℕ, suc, ◌+◌, ◌-◌, ◌*◌, ◌/◌, ◌%◌, ◌≤◌, ◌<◌}
use native.Mathlib.Omega.{arith}
use mathlib.Core.List.{List}
use lib.ListN.{length, get_or}
use lib.Ieee.{Float}
use Rattle.parts.specs.Parts.{piece}
use Rattle.blocks.specs.Blocks.{head_of, total}
use Rattle.places.specs.Places.{place_of, blocks_in, number_at, block_with}
use Rattle.places.specs.Once.{Placed, exactly_placed}
use Rattle.places.specs.Heads.{head_at}
use Rattle.places.specs.ByHead.{with_number}
use Rattle.rows.specs.Rows.{numbers_in}
use Rattle.rows.specs.Asks.{restored_rows, Lent}
use Rattle.rows.proofs.Back.{rows_same, numbers_are}
use Rattle.files.specs.Asks.{Ready}

module _ (v s L p : ℕ) (file pos : List ℕ) (t r d : ℕ) (ready : Ready v s L p file pos t r d) where
  placed : Placed (number_at v s p file) (blocks_in file) (total v s p)
  placed = exactly_placed (number_at v s p file) (blocks_in file) (total v s p) ready.once

  pub lent_at : (first rows M q : ℕ) → 0 < M → M ≤ q * 126 → first + rows * q ≤ total v s p → Lent first rows M q pos (length file)
  lent_at first rows M q some hold fit = record {
    some = some;
    hold = hold;
    table = omega (arith, ready.table);
    named = λ j l. let e = ready.places (first + j) (omega arith) in omega arith;
    inside = λ j l.
        let e : get_or pos (first + j) 0 ≡ suc (place_of (number_at v s p file) (first + j) (blocks_in file)) = ready.places (first + j) (omega arith) in
        let b : place_of (number_at v s p file) (first + j) (blocks_in file) < length file / 512 = placed.at (first + j) (omega arith) in
        omega arith;
  }

  named : (k : ℕ) → k < total v s p → piece 512 (get_or pos k 0 - 1) file ≡ block_with file (head_at v s p k)
  named k l =
      let e : get_or pos k 0 - 1 ≡ place_of (number_at v s p file) k (blocks_in file) = omega (arith, ready.places k l) in
      ap (λ (b : ℕ). piece 512 b file) e ∙ sym (with_number v s p file ready.voices ready.slots placed k l)

  pub rows_found : (first kind rows C M q : ℕ) (out : List Float) → 0 < M → M ≤ q * 126 → first + rows * q ≤ total v s p
      → ((j : ℕ) → j < rows * q → head_at v s p (first + j) ≡ head_of kind (j / q) (j % q))
      → out ≡ restored_rows (λ j. piece 512 (get_or pos (first + j) 0 - 1) file) C M q (rows * M)
      → out ≡ numbers_in file kind C M (rows * M)
  rows_found first kind rows C M q out some hold fit head e =
      e
      ∙ rows_same C M q some hold (λ j. piece 512 (get_or pos (first + j) 0 - 1) file) (λ j. block_with file (head_of kind (j / q) (j % q))) rows
      (λ j l. named (first + j) (omega arith) ∙ ap (block_with file) (head j l))
      ∙ sym (numbers_are file kind C M q some hold rows)
