-- `teeth::load_cells` meets its contract: after k turns the first k cells of the plan are loaded.
use mathlib.Core.Path.{◌≡◌, refl, sym, ap, ◌∙◌, subst}
use Prim.Native.Nat.{ℕ}
use native.Mathlib.Nat.{mod-lt}
use native.Mathlib.Omega.{arith}
use lib.Ieee.{nan}
use lib.ListN.{get_or}
use Rattle.parts.specs.Parts.{piece}
use Rattle.parts.specs.Laws.{piece_get}
use Rattle.lines.specs.View.{good}
use Rattle.teeth.specs.Promises.{size_in}
use Rattle.teeth.specs.Taps.{Loaded, loaded_more}
use Rattle.teeth.proofs.load_cells.Goals as goal

pub overflow_mul-base : goal.overflow_mul-base
overflow_mul-base c = let v = good _ _ _ c.requires.0 in omega arith

pub nonzero_rem-own : goal.nonzero_rem-own
nonzero_rem-own c = let v = good _ _ _ c.requires.0 in omega arith

pub cell_before-requires : goal.cell_before-requires
cell_before-requires c =
    let v = good _ _ _ c.requires.0 in
    (v.size, mod-lt c.args.cursor (omega arith), c.requires.2 c.loop-k.k (omega arith))

pub overflow_add-cells : goal.overflow_add-cells
overflow_add-cells c = let v = good _ _ _ c.requires.0 in omega arith

pub offset_bounds-buf-base : goal.offset_bounds-buf-base
offset_bounds-buf-base c = let v = good _ _ _ c.requires.0 in omega arith

pub bounds-buf-base : goal.bounds-buf-base
bounds-buf-base c = let v = good _ _ _ c.requires.0 in omega arith

pub loop-k-preserved : goal.loop-k-preserved
loop-k-preserved c =
    let a = c.args in
    let l = c.loop-k in
    let r = c.cell_before in
    let m = c.requires.1 in
    loaded_more a.len a.cursor (piece a.len a.slot a.buf.now) a.plan.now l.cells l.k _ (omega arith)
    (sym (piece_get a.len a.slot r.result a.buf.now nan r.ensures.0)
    ∙ ap (λ (i : ℕ). get_or (piece a.len a.slot a.buf.now) i nan) (r.ensures.1 a.cursor (omega arith) refl))
    l.invariant

pub returns : goal.returns
returns c =
    let a = c.args in
    let l = c.loop-k in
    let e : l.k ≡ size_in a.plan.now = omega arith in
    subst (λ (n : ℕ). Loaded a.len a.cursor (piece a.len a.slot a.buf.now) a.plan.now n l.cells) e l.invariant
