-- For the proofs: nothing here must be believed.
-- What an accepted call has measured: from a verdict `fine` to the facts. Each law reads the checks from the first on. Assumes nothing.
use Rattle.std.specs.Prelude.{◌≡◌, refl, ℕ, ◌*◌, ◌≤◌, ◌<◌, Bool, true, false, ◌&&◌, length}
use Rattle.std.proofs.Common.{sym, ◌∙◌, eqb-true, ltb-true, leb-true}
use Rattle.voices.specs.Calls.{targets_width, record_width, least_frames, most_frames, Check, fine, refused, check, ◌then◌, Engine, Bank, Block}
use Rattle.voices.specs.Calls.{call_set, call_start, call_block, call_audition, are_long, store_check, steering_length, open_verdict, verdict}

pub check_fine : (b : Bool) (k : ℕ) → check b k ≡ fine → b ≡ true
unfolding check
check_fine true k e = refl
check_fine false k e = cc

pub then_fine : (a c : Check) → a then c ≡ fine → (a ≡ fine) × (c ≡ fine)
unfolding ◌then◌
then_fine fine c e = (refl, e)
then_fine (refused k) c e = ((cc), (cc))

pub and-true : (a b : Bool) → a && b ≡ true → (a ≡ true) × (b ≡ true)
and-true true b e = (refl, e)
and-true false b e = ((cc), (cc))

module _ (E : Engine) (n : ℕ) where
  open E use {S, knobs, channels, ring_length, setup_check}

  -- the lent lists are as long as they should be
  pub record Lengths (b : Bank) : Type 0 where
    pub targets : length b.targets ≡ n * targets_width
    pub records : length b.records ≡ channels * n * record_width
    pub delay : length b.delay ≡ channels * n * ring_length

  pub record OpenAccepted (b : Bank) : Type 0 where
    pub setup : setup_check n ≡ fine
    pub lengths : Lengths b

  pub record SetAccepted (v : ℕ) (s : S) (b : Bank) : Type 0 where
    pub setup : setup_check n ≡ fine
    pub targets : length b.targets ≡ n * targets_width
    pub voice : v < n
    pub knob : knobs s ≡ true

  pub record StartAccepted (v : ℕ) (b : Bank) : Type 0 where
    pub setup : setup_check n ≡ fine
    pub lengths : Lengths b
    pub voice : v < n

  pub record BlockAccepted (q : Block) (b : Bank) : Type 0 where
    pub setup : setup_check n ≡ fine
    pub lengths : Lengths b
    pub least : least_frames ≤ q.frames
    pub most : q.frames ≤ most_frames
    pub pitch : length q.pitch ≡ q.frames * n
    pub x : length q.x ≡ steering_length E n q
    pub y : length q.y ≡ steering_length E n q
    pub audio : length q.audio ≡ q.frames * (channels * n)
    pub counts : length q.counts ≡ channels * n

  -- the block is, and the scratch lists are as long as the bank's
  pub record AuditionAccepted (q : Block) (lent b : Bank) : Type 0 where
    pub block : verdict E n (call_block q) b ≡ fine
    pub targets : length lent.targets ≡ length b.targets
    pub records : length lent.records ≡ length b.records
    pub delay : length lent.delay ≡ length b.delay

  are_long_lem : (b : Bank) → are_long channels ring_length n b ≡ true → Lengths b
  are_long_lem b e =
      let ab = and-true _ _ e in
      let a = and-true _ _ ab.0 in
      record { targets = eqb-true _ _ a.0; records = eqb-true _ _ a.1; delay = eqb-true _ _ ab.1 }

  store_accepted : (b : Bank) → store_check E n b ≡ fine → Lengths b
  store_accepted b e = are_long_lem b (check_fine _ _ e)

  pub open_accepted : (b : Bank) → open_verdict E n b ≡ fine → OpenAccepted b
  open_accepted b e =
      let c = then_fine _ _ e in
      record { setup = c.0; lengths = store_accepted b c.1 }

  pub set_accepted : (v : ℕ) (s : S) (b : Bank) → verdict E n (call_set v s) b ≡ fine → SetAccepted v s b
  set_accepted v s b e =
      let c1 = then_fine _ _ e in
      let c2 = then_fine _ _ c1.1 in
      let c3 = then_fine _ _ c2.1 in
      record {
        setup = c1.0;
        targets = eqb-true _ _ (check_fine _ _ c2.0);
        voice = ltb-true _ _ (check_fine _ _ c3.0);
        knob = check_fine _ _ c3.1;
      }

  pub start_accepted : (v : ℕ) (b : Bank) → verdict E n (call_start v) b ≡ fine → StartAccepted v b
  start_accepted v b e =
      let c1 = then_fine _ _ e in
      let c2 = then_fine _ _ c1.1 in
      record { setup = c1.0; lengths = store_accepted b c2.0; voice = ltb-true _ _ (check_fine _ _ c2.1) }

  pub block_accepted : (q : Block) (b : Bank) → verdict E n (call_block q) b ≡ fine → BlockAccepted q b
  block_accepted q b e =
      let c1 = then_fine _ _ e in
      let c2 = then_fine _ _ c1.1 in
      let c3 = then_fine _ _ c2.1 in
      let f = and-true _ _ (check_fine _ _ c3.0) in
      let m = and-true _ _ (check_fine _ _ c3.1) in
      let a = and-true _ _ m.0 in
      let y = and-true _ _ a.0 in
      let x = and-true _ _ y.0 in
      record {
        setup = c1.0;
        lengths = store_accepted b c2.0;
        least = leb-true _ _ f.0;
        most = leb-true _ _ f.1;
        pitch = eqb-true _ _ x.0;
        x = eqb-true _ _ x.1;
        y = eqb-true _ _ y.1;
        audio = eqb-true _ _ a.1;
        counts = eqb-true _ _ m.1;
      }

  pub audition_accepted : (q : Block) (lent b : Bank) → verdict E n (call_audition q lent) b ≡ fine → AuditionAccepted q lent b
  audition_accepted q lent b e =
      let c = then_fine _ _ e in
      let l = are_long_lem lent (check_fine _ _ c.1) in
      let k = (block_accepted q b c.0).lengths in
      record { block = c.0; targets = l.targets ∙ sym k.targets; records = l.records ∙ sym k.records; delay = l.delay ∙ sym k.delay }
