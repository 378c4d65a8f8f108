-- `lines::write_at` meets its contract: a store at the cell of a good view is the one to the slot's ring.
use Rattle.std.proofs.Common.{◌%◌, ◌<◌, length, sym, ◌∙◌, mod-lt, arith}
use Rattle.parts.proofs.Laws.{set_piece}
use Rattle.lines.specs.Lines.{ring_write, write_of}
use Rattle.lines.specs.View.{View, good}
use Rattle.lines.proofs.write_at.Goals as goal

view : (c : goal.Then-is_view) → View c.args.len c.args.slot (length c.args.buf.now)
view c = good _ _ _ (sym c.is_view.ensures ∙ c.if-is_view.true)

within : (c : goal.Then-is_view) → c.args.cursor % c.args.len < c.args.len
within c = let v = view c in mod-lt _ (omega arith)

pub overflow_mul-base : goal.overflow_mul-base
overflow_mul-base c = let v = view c in omega arith

pub nonzero_rem-cell : goal.nonzero_rem-cell
nonzero_rem-cell c = let v = view c in omega arith

pub overflow_add-buf : goal.overflow_add-buf
overflow_add-buf c = let v = view c in omega (arith, within c)

pub offset_bounds-buf-base : goal.offset_bounds-buf-base
offset_bounds-buf-base c = let v = view c in omega (arith, within c)

pub bounds-buf-base : goal.bounds-buf-base
bounds-buf-base c = let v = view c in omega (arith, within c)

pub returns-then-is_view : goal.returns-then-is_view
unfolding write_of ring_write
returns-then-is_view c =
    let a = c.args in
    rw (sym c.is_view.ensures ∙ c.if-is_view.true) (set_piece a.len a.slot (a.cursor % a.len) a.buf.now a.value (view c).ends (within c))

pub returns-else-is_view : goal.returns-else-is_view
unfolding write_of
returns-else-is_view c = rw (sym c.is_view.ensures ∙ c.if-is_view.false)
