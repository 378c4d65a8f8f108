-- For the proofs: nothing here must be believed.
-- Open makes every voice the fresh plain voice; a call keeps a voice equal to the plain voice that takes what the call adds to the feed; so does a
-- list of calls. A refused call changes nothing, an accepted one has measured the lengths. By cases of the call, then by induction over the list.
-- Assumes nothing.
use Rattle.std.specs.Prelude.{◌≡◌, refl, ◌≢◌, ℕ, ◌+◌, ◌*◌, ◌<◌, Bool, true, cond, Float, eqb, length}
use Rattle.std.proofs.Common.{sym, ap₂, ◌∙◌, add-zero, arith}
use Rattle.std.proofs.Math.Path.{ap, subst}
use Rattle.std.proofs.Math.Bool.{false}
use mathlib.Core.List.{List, [], ◌∷◌, ◌++◌}
use borrow.Author.Tests.{eqb-true, eqb-false}
use Rattle.parts.specs.Parts.{piece}
use Rattle.parts.specs.Laws.{upto_focus, piece_fits, length_patch, piece_patch, piece_other}
use Rattle.voices.specs.Calls.{targets_width, record_width, Check, fine, refused, Engine, Laws, Bank, Block, Call, call_set, call_start, call_block}
use Rattle.voices.specs.Calls.{call_park, call_restore, call_audition, Returned, Returning}
use Rattle.voices.specs.Calls.{Run, cursor_after, start_record, slot, set_of, start_of, open_of, block_of, open_verdict, verdict, accepted, perform}
use Rattle.voices.specs.Calls.{call, run}
use Rattle.voices.specs.Feed.{event_set, event_start, frame_count, frames_rendered, PlainVoice, started, fresh, advance, play, frame_at, events}
use Rattle.voices.specs.Feed.{feed, samples_of, count_of}
use Rattle.voices.specs.Accepted.{Lengths, SetAccepted, StartAccepted, BlockAccepted, open_accepted, set_accepted, start_accepted, block_accepted}
use Rattle.voices.proofs.Slots.{start_of_keeps, start_of_lengths, start_of_other, start_of_own}
use Rattle.voices.proofs.Plain.{cursor_add, cursor_zero, play_append, play_frames, count-append, count_frames, frames_targets, frames_cursor}
use Rattle.voices.proofs.Blocks.{After, targets_at_length, block_slot}

module _ (E : Engine) (laws : Laws E) (n : ℕ) where
  open E use {S, defaults, targets_of, channels, ring_length}
  open laws use {targets_length}

  -- voice v of the bank is the plain voice p; `wrapped` says that the cursor fits its word
  pub record VoiceIs (v : ℕ) (b : Bank) (p : PlainVoice) : Type 0 where
    pub targets : piece targets_width v b.targets ≡ p.targets
    pub cursor : b.cursor ≡ p.cursor
    wrapped : cursor_after E b.cursor 0 ≡ b.cursor
    pub rec : (c : ℕ) → c < channels → piece record_width (slot E n c v) b.records ≡ (p.channel c).rec
    pub ring : (c : ℕ) → c < channels → piece ring_length (slot E n c v) b.delay ≡ (p.channel c).ring

  -- ---- set
  set_lengths : (v : ℕ) (s : S) (b : Bank) → v < n → Lengths E n b → Lengths E n (set_of E n v s b)
  unfolding set_of
  set_lengths v s b hv g = record {
    targets = length_patch targets_width v (targets_of s) b.targets (rw g.targets (piece_fits targets_width v n hv)) (targets_length s) ∙ g.targets;
    records = g.records;
    delay = g.delay;
  }

  set_targets : (v : ℕ) (s : S) (b : Bank) → v < n → length b.targets ≡ n * targets_width
      → piece targets_width v (set_of E n v s b).targets ≡ targets_of s
  unfolding set_of
  set_targets v s b hv l = piece_patch targets_width v (targets_of s) b.targets (rw l (piece_fits targets_width v n hv)) (targets_length s)

  set_own : (v : ℕ) (s : S) (b : Bank) (p : PlainVoice) → v < n → length b.targets ≡ n * targets_width
      → VoiceIs v b p → VoiceIs v (set_of E n v s b) (advance E (event_set s) p)
  unfolding set_of advance
  set_own v s b p hv l h = record { targets = unfold set_of in set_targets v s b hv l; cursor = h.cursor; wrapped = h.wrapped; rec = h.rec; ring = h.ring }

  set_other : (u v : ℕ) (s : S) (b : Bank) (p : PlainVoice) → u < n → v ≢ u → length b.targets ≡ n * targets_width
      → VoiceIs v b p → VoiceIs v (set_of E n u s b) p
  unfolding set_of
  set_other u v s b p hu ne l h = record {
    targets = piece_other targets_width v u (targets_of s) b.targets ne (rw l (piece_fits targets_width u n hu)) (targets_length s) ∙ h.targets;
    cursor = h.cursor;
    wrapped = h.wrapped;
    rec = h.rec;
    ring = h.ring;
  }

  -- ---- start
  start_wrapped : (v : ℕ) (b : Bank) → cursor_after E b.cursor 0 ≡ b.cursor → cursor_after E (start_of E n v b).cursor 0 ≡ (start_of E n v b).cursor
  start_wrapped v b e = subst (λ (x : ℕ). cursor_after E x 0 ≡ x) (sym (start_of_keeps E n v b).1) e

  start_own : (v : ℕ) (b : Bank) (p : PlainVoice) → v < n → Lengths E n b → VoiceIs v b p → VoiceIs v (start_of E n v b) (advance E event_start p)
  unfolding advance started
  start_own v b p hv g h = record {
    targets = ap (λ (t : List Float). piece targets_width v t) (start_of_keeps E n v b).0 ∙ h.targets;
    cursor = (start_of_keeps E n v b).1 ∙ h.cursor;
    wrapped = start_wrapped v b h.wrapped;
    rec = λ c hc. (start_of_own E n v hv c b hc g).rec ∙ ap (λ (t : List Float). start_record E t) h.targets;
    ring = λ c hc. (start_of_own E n v hv c b hc g).ring;
  }

  start_other : (u v : ℕ) (b : Bank) (p : PlainVoice) → u < n → v < n → v ≢ u → Lengths E n b → VoiceIs v b p → VoiceIs v (start_of E n u b) p
  start_other u v b p hu hv ne g h = record {
    targets = ap (λ (t : List Float). piece targets_width v t) (start_of_keeps E n u b).0 ∙ h.targets;
    cursor = (start_of_keeps E n u b).1 ∙ h.cursor;
    wrapped = start_wrapped u b h.wrapped;
    rec = λ c hc. (start_of_other E n u hu c v b hv ne g).rec ∙ h.rec c hc;
    ring = λ c hc. (start_of_other E n u hu c v b hv ne g).ring ∙ h.ring c hc;
  }

  -- ---- open
  pub open_own : (v : ℕ) (b : Bank) → open_verdict E n b ≡ fine → v < n → VoiceIs v (open_of E n b) (fresh E)
  unfolding open_of
  open_own v b ok hv =
      (upto_focus (λ (x : Bank). Lengths E n x × (x.cursor ≡ 0)) (λ (x : Bank). Lengths E n x × VoiceIs v x (fresh E))
      (λ u x. start_of E n u (set_of E n u defaults x)) n v _
      (λ u x hu ne h. (lengths u x hu h.0, cursor0 u x h.1))
      (λ x h. (lengths v x hv h.0, hit x h.0 h.1))
      (λ u x hu ne h. (
        lengths u x hu h.0,
        start_other u v _ _ hu hv (λ e. ne (sym e)) (set_lengths u defaults x hu h.0)
            (set_other u v defaults x _ hu (λ e. ne (sym e)) h.0.targets h.1),
      ))
      hv (record { targets = g.targets; records = g.records; delay = g.delay }, refl)).1
    where
      g : Lengths E n b
      g = (open_accepted E n b ok).lengths

      lengths : (u : ℕ) (x : Bank) → u < n → Lengths E n x → Lengths E n (start_of E n u (set_of E n u defaults x))
      lengths u x hu h = start_of_lengths E n u hu (set_of E n u defaults x) (set_lengths u defaults x hu h)

      cursor0 : (u : ℕ) (x : Bank) → x.cursor ≡ 0 → (start_of E n u (set_of E n u defaults x)).cursor ≡ 0
      cursor0 u x e = (start_of_keeps E n u (set_of E n u defaults x)).1 ∙ (unfold set_of in e)

      hit : (x : Bank) → Lengths E n x → x.cursor ≡ 0 → VoiceIs v (start_of E n v (set_of E n v defaults x)) (fresh E)
      hit x h e = unfold fresh started in record {
        targets = ap (λ (t : List Float). piece targets_width v t) (start_of_keeps E n v (set_of E n v defaults x)).0
            ∙ set_targets v defaults x hv h.targets;
        cursor = cursor0 v x e;
        wrapped = subst (λ (k : ℕ). cursor_after E k 0 ≡ k) (sym (cursor0 v x e)) (cursor_zero E);
        rec = λ c hc. (start_of_own E n v hv c (set_of E n v defaults x) hc (set_lengths v defaults x hv h)).rec
            ∙ ap (λ (t : List Float). start_record E t) (set_targets v defaults x hv h.targets);
        ring = λ c hc. (start_of_own E n v hv c (set_of E n v defaults x) hc (set_lengths v defaults x hv h)).ring;
      }

  -- ---- one call: a run, and the plain voice on what was fed so far
  pub record Invariant (v : ℕ) (r : Run) (p : PlainVoice) : Type 0 where
    pub voice : VoiceIs v r.bank p
    pub samples : (c : ℕ) → c < channels → samples_of E n v c r.log ≡ (p.channel c).samples
    pub count : (c : ℕ) → c < channels → count_of E n v c r.log ≡ (p.channel c).count

  module _ (v : ℕ) (hv : v < n) where
    abbrev Step : Call S → Run → PlainVoice → Type 0
    Step x r p = Invariant v (accepted E n x r) (play E (events E n fine v x) p)

    step_set : (u : ℕ) (s : S) (r : Run) (p : PlainVoice) → verdict E n (call_set u s) r.bank ≡ fine → Invariant v r p → Step (call_set u s) r p
    step_set u s r p e i = go (eqb u v) refl
      where
        a : SetAccepted E n u s r.bank
        a = set_accepted E n u s r.bank e

        go : (t : Bool) → eqb u v ≡ t → Invariant v (accepted E n (call_set u s) r) (play E (cond t (event_set s ∷ []) []) p)
        go true q = record {
          voice = subst (λ (x : ℕ). VoiceIs v (set_of E n x s r.bank) (advance E (event_set s) p)) (sym (eqb-true u v q))
              (set_own v s r.bank p hv a.targets i.voice);
          samples = unfold advance in i.samples;
          count = unfold advance in i.count;
        }
        go false q = record {
          voice = set_other u v s r.bank p a.voice (λ z. eqb-false u v q (sym z)) a.targets i.voice;
          samples = i.samples;
          count = i.count;
        }

    step_start : (u : ℕ) (r : Run) (p : PlainVoice) → verdict E n (call_start u) r.bank ≡ fine → Invariant v r p → Step (call_start u) r p
    step_start u r p e i = go (eqb u v) refl
      where
        a : StartAccepted E n u r.bank
        a = start_accepted E n u r.bank e

        go : (t : Bool) → eqb u v ≡ t → Invariant v (accepted E n (call_start u) r) (play E (cond t (event_start ∷ []) []) p)
        go true q = record {
          voice = subst (λ (x : ℕ). VoiceIs v (start_of E n x r.bank) (advance E event_start p)) (sym (eqb-true u v q))
              (start_own v r.bank p hv a.lengths i.voice);
          samples = unfold advance started in i.samples;
          count = unfold advance started in i.count;
        }
        go false q = record {
          voice = start_other u v r.bank p a.voice hv (λ z. eqb-false u v q (sym z)) a.lengths i.voice;
          samples = i.samples;
          count = i.count;
        }

    step_block : (q : Block) (r : Run) (p : PlainVoice) → verdict E n (call_block q) r.bank ≡ fine → Invariant v r p → Step (call_block q) r p
    step_block q r p e i =
        subst (λ (x : PlainVoice). Invariant v (accepted E n (call_block q) r) x) (sym (play_frames E (frame_at E n q v) q.frames p))
        (record {
          voice = record {
            targets = h.targets ∙ sym (frames_targets E (frame_at E n q v) q.frames p);
            cursor = ap (λ (x : ℕ). cursor_after E x q.frames) h.cursor
                ∙ sym (frames_cursor E (frame_at E n q v) q.frames p (subst (λ (x : ℕ). cursor_after E x 0 ≡ x) h.cursor h.wrapped));
            wrapped = cursor_add E r.bank.cursor q.frames 0 ∙ ap (cursor_after E r.bank.cursor) (add-zero q.frames);
            rec = λ c hc. (d c hc).2.rec;
            ring = λ c hc. (d c hc).2.ring;
          };
          samples = λ c hc. ap₂ ◌++◌ (i.samples c hc) (d c hc).2.audio ∙ (d c hc).3;
          count = λ c hc. ap₂ ◌+◌ (i.count c hc) (d c hc).2.count ∙ (d c hc).4;
        })
      where
        h : VoiceIs v r.bank p
        h = i.voice

        a : BlockAccepted E n q r.bank
        a = block_accepted E n q r.bank e

        d : (c : ℕ) (hc : c < channels)
            → After E laws n q (piece targets_width v r.bank.targets) (targets_at_length E laws n q r.bank a v hv v hv)
            r.bank.cursor c v hc hv p h.targets h.cursor h.wrapped (block_of E n q r.bank)
        d c hc = block_slot E laws n q r.bank a v hv p h.targets h.cursor h.wrapped c hc (h.rec c hc) (h.ring c hc)

    step : (x : Call S) (r : Run) (p : PlainVoice) (k : Check) → verdict E n x r.bank ≡ k → (verdict E n x r.bank ≡ fine → Returned E n x r)
        → Invariant v r p → Invariant v (perform E n k x r) (play E (events E n k v x) p)
    step x r p (refused k) e t i = record { voice = i.voice; samples = i.samples; count = i.count }
    step (call_set u s) r p fine e t i = step_set u s r p e i
    step (call_start u) r p fine e t i = step_start u r p e i
    step (call_block q) r p fine e t i = step_block q r p e i
    step (call_park written) r p fine e t i = record { voice = i.voice; samples = i.samples; count = i.count }
    step (call_audition q scratch) r p fine e t i = record { voice = i.voice; samples = i.samples; count = i.count }
    step (call_restore file lent) r p fine e t i =
        record { voice = subst (λ (b : Bank). VoiceIs v b p) (sym (t e).1) i.voice; samples = i.samples; count = i.count }

    -- ---- all calls
    pub steps : (xs : List (Call S)) (r : Run) (p : PlainVoice) → Returning E n xs r
        → Invariant v r p → Invariant v (run E n xs r) (play E (feed E n v xs r) p)
    steps [] r p t i = i
    steps (x ∷ xs) r p t i =
        subst (λ (z : PlainVoice). Invariant v (run E n xs (call E n x r)) z)
        (sym (play_append E (events E n (verdict E n x r.bank) v x) (feed E n v xs (call E n x r)) p))
        (steps xs (call E n x r) (play E (events E n (verdict E n x r.bank) v x) p) t.1 (step x r p (verdict E n x r.bank) refl t.0 i))

  -- ---- the frames rendered are those of the feed
  count_step : (x : Call S) (v : ℕ) (r : Run) (k : Check)
      → frames_rendered (perform E n k x r).log ≡ frames_rendered r.log + frame_count (events E n k v x)
  count_step x v r (refused k) = omega arith
  count_step (call_set u s) v r fine = go (eqb u v)
    where
      go : (t : Bool) → frames_rendered r.log ≡ frames_rendered r.log + frame_count (cond t (event_set s ∷ []) [])
      go true = omega arith
      go false = omega arith
  count_step (call_start u) v r fine = go (eqb u v)
    where
      go : (t : Bool) → frames_rendered r.log ≡ frames_rendered r.log + frame_count {S = S} (cond t (event_start ∷ []) [])
      go true = omega arith
      go false = omega arith
  count_step (call_park written) v r fine = omega arith
  count_step (call_restore file lent) v r fine = omega arith
  count_step (call_audition q scratch) v r fine = omega arith
  count_step (call_block q) v r fine = omega (arith, count_frames E (frame_at E n q v) q.frames)

  pub count_steps : (xs : List (Call S)) (v : ℕ) (r : Run) → frames_rendered (run E n xs r).log ≡ frames_rendered r.log + frame_count (feed E n v xs r)
  count_steps [] v r = omega arith
  count_steps (x ∷ xs) v r =
      count_steps xs v (call E n x r)
      ∙ omega (
        arith,
        count_step x v r (verdict E n x r.bank),
        count-append E (events E n (verdict E n x r.bank) v x) (feed E n v xs (call E n x r)),
      )
