-- For the proofs: nothing here must be believed.
-- The file by kinds, voices or slots, and parts is the file block by block. Assumes nothing.
use Rattle.std.specs.Prelude.{◌≡◌, ℕ, ◌+◌, ◌*◌, ◌/◌, ◌%◌, ◌<◌, List, ◌++◌, Float}
use Rattle.std.proofs.Common.{sym, ap, ◌∙◌, arith}
use Rattle.parts.specs.Parts.{flat, piece}
use Rattle.parts.specs.Flat.{flat_same, flat_add, flat_flat}
use Rattle.voices.specs.Calls.{targets_width, record_width}
use Rattle.blocks.specs.Blocks.{head_of, block_bytes, parts_of}
use Rattle.rows.specs.Rows.{row_block}
use Rattle.places.specs.ByHead.{row_of, part_of_lem}
use Rattle.files.specs.File.{parked_targets, parked_record, file_of}
use Rattle.files.specs.Image.{Image, block_at, image_file}
use Rattle.files.specs.Asks.{image_of}
use Rattle.files.specs.Making.{setup_block, target_block, record_block, ring_block}

pub file_is : (v s L : ℕ) (setup : List ℕ) (targets records delay : List Float)
    → file_of v s L setup targets records delay ≡ image_file (image_of v s L (parts_of L) setup targets records delay)
unfolding file_of image_file
file_is v s L setup targets records delay =
    sym
    (flat_add (block_at im) (2 + v + s) (s * p)
    ∙ ap (λ (x : List ℕ). x ++ flat (λ j. block_at im (2 + v + s + j)) (s * p)) (flat_add (block_at im) (2 + v) s)
    ∙ ap (λ (x : List ℕ). (x ++ flat (λ j. block_at im (2 + v + j)) s) ++ flat (λ j. block_at im (2 + v + s + j)) (s * p)) (flat_add (block_at im) 2 v)
    ∙ (λ i. ((flat_same (block_at im) (λ q. block_bytes (head_of 1 0 q) (piece 126 q setup)) 2 (λ k l. sym (setup_block im k l)) i
    ++ flat_same (λ j. block_at im (2 + j)) (λ j. row_block 2 parked_targets targets_width targets j 0) v (λ j l. row2 j l) i)
    ++ flat_same (λ j. block_at im (2 + v + j)) (λ j. row_block 3 parked_record record_width records j 0) s (λ j l. row3 j l) i)
    ++ rings i))
  where
    im : Image
    im = image_of v s L (parts_of L) setup targets records delay

    p : ℕ
    p = parts_of L

    row2 : (j : ℕ) → j < v → block_at im (2 + j) ≡ row_block 2 parked_targets targets_width targets j 0
    row2 j l =
        let e : j / 1 ≡ j = omega arith in
        let q : j % 1 ≡ 0 = omega arith in
        sym (target_block im j (omega arith)) ∙ (λ t. row_block 2 parked_targets targets_width targets (e t) (q t))

    row3 : (j : ℕ) → j < s → block_at im (2 + v + j) ≡ row_block 3 parked_record record_width records j 0
    row3 j l =
        let e : j / 1 ≡ j = omega arith in
        let q : j % 1 ≡ 0 = omega arith in
        sym (record_block im j (omega arith)) ∙ (λ t. row_block 3 parked_record record_width records (e t) (q t))

    rings : flat (λ j. block_at im (2 + v + s + j)) (s * p) ≡ flat (λ j. flat (row_block 4 L L delay j) p) s
    rings =
        flat_flat (λ j. block_at im (2 + v + s + j)) p s
        ∙ flat_same (λ i. flat (λ q. block_at im (2 + v + s + (i * p + q))) p) (λ i. flat (row_block 4 L L delay i) p) s
        (λ i l. flat_same (λ q. block_at im (2 + v + s + (i * p + q))) (row_block 4 L L delay i) p
        (λ q h. sym (ring_block im (i * p + q)) ∙ (λ t. row_block 4 L L delay (row_of p i q h t) (part_of_lem p i q h t))))
