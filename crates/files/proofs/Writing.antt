-- The five steps of `park_file`, each a run of blocks behind those that stand. Assumes nothing.
use mathlib.Core.Path.{◌≡◌, sym, ap, ◌∙◌}
use Prim.Native.Nat.{ℕ, ◌+◌, ◌*◌}
use native.Mathlib.Omega.{arith}
use mathlib.Core.List.{List}
use lib.ListN.{length, take, drop, length-drop}
use lib.Seq.{take_all}
use Rattle.parts.specs.Parts.{piece, patch}
use Rattle.blocks.specs.Blocks.{head_of, block_bytes}
use Rattle.voices.specs.Calls.{targets_width, record_width}
use Rattle.rows.specs.Asks.{rows_written}
use Rattle.files.specs.File.{parked_targets, parked_record}
use Rattle.files.specs.Image.{Image, blocks_of, image_file}
use Rattle.files.specs.Making.{made, made_none, made_next, made_whole, made_rows, setup_block, target_block, record_block, ring_block}

module _ (im : Image) (out : List ℕ) (room : length out ≡ blocks_of im * 512) where
  first_block : (o : List ℕ) (h : ℕ) → h ≡ head_of 1 0 0 → o ≡ patch 512 0 (block_bytes h (piece 126 0 im.setup)) out → o ≡ made im 1 out
  first_block o h e d =
      d ∙ (λ t. patch 512 0 (block_bytes (e t) (piece 126 0 im.setup)) (made_none im out room t))
      ∙ made_next im out room 0 (block_bytes (head_of 1 0 0) (piece 126 0 im.setup)) (omega arith) (setup_block im 0 (omega arith))

  second_block : (o q : List ℕ) (h : ℕ) → q ≡ made im 1 out → h ≡ head_of 1 0 1 → o ≡ patch 512 1 (block_bytes h (piece 126 1 im.setup)) q → o ≡ made im 2 out
  second_block o q h a e d =
      d ∙ (λ t. patch 512 1 (block_bytes (e t) (piece 126 1 im.setup)) (a t))
      ∙ made_next im out room 1 (block_bytes (head_of 1 0 1) (piece 126 1 im.setup)) (omega arith) (setup_block im 1 (omega arith))

  target_blocks : (o q : List ℕ) → q ≡ made im 2 out
      → o ≡ rows_written 2 2 parked_targets targets_width 1 im.targets (im.v * 1) q → o ≡ made im (2 + im.v) out
  target_blocks o q a d =
      let e : 2 + im.v * 1 ≡ 2 + im.v = omega arith in
      d ∙ ap (rows_written 2 2 parked_targets targets_width 1 im.targets (im.v * 1)) a
      ∙ made_rows im out room 2 2 parked_targets targets_width 1 im.targets (im.v * 1) (omega arith) (target_block im)
      ∙ ap (λ (k : ℕ). made im k out) e

  record_blocks : (o q : List ℕ) → q ≡ made im (2 + im.v) out
      → o ≡ rows_written (2 + im.v) 3 parked_record record_width 1 im.records (im.s * 1) q → o ≡ made im (2 + im.v + im.s) out
  record_blocks o q a d =
      let e : 2 + im.v + im.s * 1 ≡ 2 + im.v + im.s = omega arith in
      d ∙ ap (rows_written (2 + im.v) 3 parked_record record_width 1 im.records (im.s * 1)) a
      ∙ made_rows im out room (2 + im.v) 3 parked_record record_width 1 im.records (im.s * 1) (omega arith) (record_block im)
      ∙ ap (λ (k : ℕ). made im k out) e

  ring_blocks : (o q : List ℕ) → q ≡ made im (2 + im.v + im.s) out
      → o ≡ rows_written (2 + im.v + im.s) 4 im.L im.L im.p im.delay (im.s * im.p) q → o ≡ image_file im
  ring_blocks o q a d =
      d ∙ ap (rows_written (2 + im.v + im.s) 4 im.L im.L im.p im.delay (im.s * im.p)) a
      ∙ made_rows im out room (2 + im.v + im.s) 4 im.L im.L im.p im.delay (im.s * im.p) (omega arith) (λ j l. ring_block im j)
      ∙ made_whole im out room

  -- the setup's second part is short
  second_part : length im.setup ≡ 170 → drop 126 im.setup ≡ piece 126 1 im.setup
  unfolding piece
  second_part l =
      let e : length (drop 126 im.setup) ≡ 44 = length-drop 126 im.setup ∙ omega arith in
      sym (take_all 126 (drop 126 im.setup) (omega arith))

  pub all_blocks : (o1 o2 o3 o4 o5 a b : List ℕ) (h0 h1 : ℕ) → length im.setup ≡ 170 → a ≡ take 126 im.setup → b ≡ drop 126 im.setup
      → h0 ≡ head_of 1 0 0 → o1 ≡ patch 512 0 (block_bytes h0 a) out
      → h1 ≡ head_of 1 0 1 → o2 ≡ patch 512 1 (block_bytes h1 b) o1
      → o3 ≡ rows_written 2 2 parked_targets targets_width 1 im.targets (im.v * 1) o2
      → o4 ≡ rows_written (2 + im.v) 3 parked_record record_width 1 im.records (im.s * 1) o3
      → o5 ≡ rows_written (2 + im.v + im.s) 4 im.L im.L im.p im.delay (im.s * im.p) o4
      → o5 ≡ image_file im
  unfolding piece
  all_blocks o1 o2 o3 o4 o5 a b h0 h1 l ea eb e0 d1 e1 d2 d3 d4 d5 =
      let one : o1 ≡ made im 1 out = first_block o1 h0 e0 (d1 ∙ ap (λ (x : List ℕ). patch 512 0 (block_bytes h0 x) out) ea) in
      let two : o2 ≡ made im 2 out = second_block o2 o1 h1 one e1 (d2 ∙ ap (λ (x : List ℕ). patch 512 1 (block_bytes h1 x) o1) (eb ∙ second_part l)) in
      ring_blocks o5 o4 (record_blocks o4 o3 (target_blocks o3 o2 two d3) d4) d5
