-- `is_at_rest` meets its contract: the lists and the peaks have the same bits.
use Rattle.std.proofs.Common.{◌≡◌, ℕ, List, length, take, not, sym, ap, ◌∙◌, true≢false, arith, take_all}
use lib.Ieee.{Float}
use Rattle.slots.proofs.is_at_rest.Goals as goal
use Rattle.slots.proofs.is_at_rest.Goals.{then-not-has_lines, else-not-has_lines, then-is_same, else-is_same}

-- lists of n numbers that are the same
whole : (n : ℕ) (xs ys : List Float) → length xs ≡ n → length ys ≡ n → take n xs ≡ take n ys → xs ≡ ys
whole n xs ys lx ly e = sym (take_all n xs (omega (arith, lx))) ∙ e ∙ take_all n ys (omega (arith, ly))

pub returns-then-is_same-2 : goal.returns-then-is_same-2
returns-then-is_same-2 c e =
    elim c.if-is_same.branch [
      | then-is_same w ↦
          elim c.if-not-has_lines.branch [
            | then-not-has_lines v ↦
                let was = c.args.was.now in
                let rec = c.args.rec.now in
                let states : rec.state ≡ was.state
                = whole 20 rec.state was.state c.requires.1.state c.requires.0.state (v.is_same.ensures (sym v.value-is ∙ w.if-is_same.true)) in
                let numbers : rec.params ≡ was.params
                = whole 11 rec.params was.params c.requires.1.params c.requires.0.params
                (w.is_same-then-is_same.ensures (sym w.value-is ∙ c.if-is_same-2.true)) in
                let peaks : rec.peak ≡ was.peak = (c.same.ensures e).1 in
                record {
                  still = sym c.has_lines.ensures ∙ v.if-not-has_lines.true;
                  same = λ i. record { params = numbers i; state = states i; peak = peaks i };
                }
            | else-not-has_lines v ↦ absurd (true≢false (sym w.if-is_same.true ∙ v.value-is ∙ ap not v.if-not-has_lines.false))
          ]
      | else-is_same w ↦ absurd (true≢false (sym c.if-is_same-2.true ∙ w.value-is ∙ w.if-is_same.false))
    ]
