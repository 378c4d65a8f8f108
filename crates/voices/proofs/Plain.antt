-- For the proofs: nothing here must be believed.
-- The plain voice over a feed that is cut in two, and over a block's frames; the cursor over k frames.
-- By induction over the feed or the frames. Assumes nothing.
use Rattle.std.specs.Prelude.{◌≡◌, Bool, List, [], ◌∷◌, ◌++◌}
use Rattle.std.proofs.Math.Path.{refl, sym, ap}
use Rattle.std.proofs.Common.{◌∙◌, add_assoc, add-one, arith}
use Prim.Native.Nat.{ℕ, zero, suc, ◌+◌, ◌%◌, ◌^◌}
use Rattle.std.proofs.Math.Nat.{mod-add-mod}
use Rattle.std.proofs.Math.Bool.{true, false, cond}
use Rattle.parts.specs.Parts.{upto, tab}
use Rattle.voices.specs.Calls.{Engine, cursor_after}
use Rattle.voices.specs.Feed.{Frame, Event, event_set, event_start, event_frame, frame_count, PlainVoice, advance, play}

module _ (E : Engine) where
  open E use {S, lines}

  pub cursor_add : (cur a b : ℕ) → cursor_after E (cursor_after E cur a) b ≡ cursor_after E cur (a + b)
  unfolding cursor_after
  cursor_add cur a b = go lines
    where
      go : (t : Bool) → cond t ((cond t ((cur + a) % 2 ^ 64) cur + b) % 2 ^ 64) (cond t ((cur + a) % 2 ^ 64) cur) ≡ cond t ((cur + (a + b)) % 2 ^ 64) cur
      go true = mod-add-mod (cur + a) (2 ^ 64) b ∙ ap (λ (x : ℕ). x % 2 ^ 64) (add_assoc cur a b)
      go false = refl

  pub cursor_zero : cursor_after E 0 0 ≡ 0
  unfolding cursor_after
  cursor_zero = go lines
    where
      go : (t : Bool) → cond t ((0 + 0) % 2 ^ 64) 0 ≡ 0
      go true = refl
      go false = refl

  pub play_append : (xs ys : List (Event S)) (p : PlainVoice) → play E (xs ++ ys) p ≡ play E ys (play E xs p)
  play_append [] ys p = refl
  play_append (x ∷ xs) ys p = play_append xs ys (advance E x p)

  pub count-append : (xs ys : List (Event S)) → frame_count (xs ++ ys) ≡ frame_count xs + frame_count ys
  count-append [] ys = omega arith
  count-append (event_set s ∷ xs) ys = count-append xs ys
  count-append (event_start ∷ xs) ys = count-append xs ys
  count-append (event_frame f ∷ xs) ys = omega (arith, count-append xs ys)

  module _ (g : ℕ → Frame) where
    -- the first k frames of g
    abbrev pub frames : ℕ → List (Event S)
    frames k = tab (λ i. event_frame (g i)) k

    abbrev pub after_frames : ℕ → PlainVoice → PlainVoice
    after_frames k p = upto (λ i. advance E (event_frame (g i))) k p

    pub count_frames : (k : ℕ) → frame_count (frames k) ≡ k
    count_frames zero = refl
    count_frames (suc k) = count-append (frames k) (event_frame (g k) ∷ []) ∙ omega (arith, count_frames k)

    pub play_frames : (k : ℕ) (p : PlainVoice) → play E (frames k) p ≡ after_frames k p
    play_frames zero p = refl
    play_frames (suc k) p = play_append (frames k) (event_frame (g k) ∷ []) p ∙ ap (advance E (event_frame (g k))) (play_frames k p)

    pub frames_targets : (k : ℕ) (p : PlainVoice) → (after_frames k p).targets ≡ p.targets
    unfolding advance
    frames_targets zero p = refl
    frames_targets (suc k) p = frames_targets k p

    pub frames_cursor : (k : ℕ) (p : PlainVoice) → cursor_after E p.cursor 0 ≡ p.cursor → (after_frames k p).cursor ≡ cursor_after E p.cursor k
    unfolding advance
    frames_cursor zero p e = sym e
    frames_cursor (suc k) p e =
        ap (λ (x : ℕ). cursor_after E x 1) (frames_cursor k p e)
        ∙ cursor_add p.cursor k 1
        ∙ ap (cursor_after E p.cursor) (add-one k)
