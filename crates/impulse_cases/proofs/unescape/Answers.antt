-- `unescape` meets its contract: a byte that is written leaves the position within the buffer.
use Rattle.std.proofs.Common.{◌≡◌, ℕ, ◌+◌, ◌≤◌, Bool, true, false, ltb, List, length, set, refl, ap, arith, length-set, ltb-true}
use Rattle.text.specs.Text.{Buffer, buffer, room, put}
use Rattle.impulse_cases.proofs.unescape.Goals as goal
use Rattle.impulse_cases.proofs.unescape.Goals.{then-after, else-after+then-b-eq92, else-after+else-b-eq92}

stored : (b : ℕ) (p : Buffer) (out : List ℕ) (at : ℕ) → buffer out at ≡ put b p → p.at ≤ length p.bytes → at ≤ length out
unfolding put
stored b p out at e h = go (ltb p.at (length p.bytes)) refl e
  where
    go : (t : Bool) → ltb p.at (length p.bytes) ≡ t → buffer out at ≡ room t (buffer (set p.bytes p.at b) (p.at + 1)) p → at ≤ length out
    go true u f = omega (arith, ap (λ (q : Buffer). q.at) f, ap (λ (q : Buffer). length q.bytes) f, length-set p.bytes p.at b, ltb-true _ _ u)
    go false u f = omega (arith, ap (λ (q : Buffer). q.at) f, ap (λ (q : Buffer). length q.bytes) f)

pub loop-b-preserved : goal.loop-b-preserved
loop-b-preserved c = elim c.if-after.branch [
  | then-after w ↦ rw (w.out-is, w.at-is) (stored _ _ _ _ w.put_byte-at.ensures c.loop-b.invariant)
  | else-after+then-b-eq92 w ↦ rw (w.out-is, w.at-is) c.loop-b.invariant
  | else-after+else-b-eq92 w ↦ rw (w.out-is, w.at-is) (stored _ _ _ _ w.put_byte-at-else-b-eq92.ensures c.loop-b.invariant)
]
