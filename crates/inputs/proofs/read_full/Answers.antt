-- `read_full` meets its contract: what a turn read stands in the buffer after what was there.
use Rattle.std.proofs.Common.{◌≡◌, ℕ, ◌+◌, ◌≤◌, List, ◌++◌, rules, take, length, subst}
use Rattle.std.proofs.lemmas.Slice.{overwrites}
use Rattle.std.proofs.lemmas.List.{take-append-le}
use Rattle.std.proofs.Math.Seq.{take-append-add}
use Rattle.std.specs.Io.KnownBytes.{Consumes}
use Rattle.std.proofs.KnownBytes.{Consumes-trans}
use borrow.Rule.Slice.PartMut.{put_mid}
use Rattle.inputs.proofs.read_full.Goals as goal

added : (a k n : ℕ) (xs ys : List ℕ) → a ≤ length xs → n ≤ length ys → take a xs ++ take n ys ≡ take (a + n) (put_mid a k xs ys)
added a k n xs ys within fits = search (rules, overwrites, take-append-add, take-append-le)

pub loop-n-preserved : goal.loop-n-preserved
loop-n-preserved g c = record {
  within = search rules;
  read =
      let from = c.loop-n.n in
      let got = c.in_ok-got.got in
      let fits = c.in_ok-got.ensures.bound.0 in
      subst (Consumes _ _) (added from _ got c.loop-n.buf c.read.new.buf c.loop-n.invariant.within fits) (Consumes-trans _ _ _ _ _ c.loop-n.invariant.read c.in_ok-got.ensures.bytes.0);
}
