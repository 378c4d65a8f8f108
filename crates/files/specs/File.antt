-- A parked bank as one file (document 02, C-12): "Kind 1, parts 0 and 1, byte 1 zero", here of the setup's words; "Kind 2: ten targets of a voice,
-- part 0. Kind 3: thirty record numbers of a slot, part 0. Kind 4: ring cells of a slot, 126 a part, cell 0 first"; "Parking writes them by kind, then by
-- voice or slot, then by part". v voices, s slots, L cells a ring. 'Parked' is that document's term: a bank written to a file, to go on from later.
-- Definitions only.
use Rattle.std.specs.Prelude.{ℕ, List, ◌++◌, Float}
use Rattle.parts.specs.Parts.{flat, piece}
use Rattle.voices.specs.Calls.{targets_width, record_width}
use Rattle.blocks.specs.Blocks.{head_of, block_bytes, parts_of}
use Rattle.rows.specs.Rows.{row_block}

-- numbers of a voice's targets and of a slot's record that kinds 2 and 3 carry: all but z, for which a file has no words (C-17, refusal 15)
abbrev pub parked_targets : ℕ
parked_targets = 10

abbrev pub parked_record : ℕ
parked_record = 31

unfoldable pub file_of : (v s L : ℕ) (setup : List ℕ) (targets records delay : List Float) → List ℕ
file_of v s L setup targets records delay =
    flat (λ q. block_bytes (head_of 1 0 q) (piece 126 q setup)) 2
    ++ flat (λ i. row_block 2 parked_targets targets_width targets i 0) v
    ++ flat (λ i. row_block 3 parked_record record_width records i 0) s
    ++ flat (λ i. flat (row_block 4 L L delay i) (parts_of L)) s
