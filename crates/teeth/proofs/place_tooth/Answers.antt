-- `teeth::place_tooth` meets its contract: four cells appended, or each placed by itself.
use mathlib.Core.Path.{◌≡◌, refl}
use Prim.Native.Nat.{ℕ, ◌+◌, ◌*◌, ◌<◌}
use native.Mathlib.Omega.{arith}
use Rattle.teeth.specs.Needed.{fresh_tooth, clear_size}
use Rattle.teeth.specs.Placing.{kept, Cell, placed_at, placed_new}
use Rattle.teeth.proofs.place_tooth.Goals as goal

-- the k-th of a tooth's cells
cell : (f : ℕ → ℕ) (i k t steps : ℕ) → i < 8 → t ≡ i * 4 + k → steps ≡ f i + k → k < 4 → Cell f i t steps
cell f i k t steps h et es l = record { tooth = h; least = omega arith; most = omega arith; is = omega arith }

pub returns-then-is_clear : goal.returns-then-is_clear
returns-then-is_clear c =
    let a = c.args in
    let f = kept a.firsts.now in
    let i = a.i in
    let h = c.requires.0 in
    let size = a.size in
    let t : ℕ = i * 4 in
    let p1 = placed_new f i t (f i) _ size (cell f i 0 t (f i) h (omega arith) (omega arith) (omega arith)) c.requires.2 (t + 1) (size + 1) refl refl _
    c.append.ensures
    in
    let p2 = placed_new f i (t + 1) (f i + 1) _ (size + 1) (cell f i 1 (t + 1) (f i + 1) h refl refl (omega arith)) p1 (t + 2) (size + 2)
    (omega arith) (omega arith) _ c.append-then-is_clear.ensures
    in
    let p3 = placed_new f i (t + 2) (f i + 2) _ (size + 2) (cell f i 2 (t + 2) (f i + 2) h refl refl (omega arith)) p2 (t + 3) (size + 3)
    (omega arith) (omega arith) _ c.append-then-is_clear-2.ensures
    in
    let p4 = placed_new f i (t + 3) (f i + 3) _ (size + 3) (cell f i 3 (t + 3) (f i + 3) h refl refl (omega arith)) p3 (t + 4) (size + 4)
    (omega arith) (omega arith) _ c.append-then-is_clear-3.ensures
    in
    (clear_size f i size (c.is_clear.ensures c.if-is_clear.true), p4)

pub place_cell-a-requires : goal.place_cell-a-requires
place_cell-a-requires c = (cell _ c.args.i 0 _ _ c.requires.0 (omega arith) (omega arith) (omega arith), c.requires.2)

pub place_cell-b-requires : goal.place_cell-b-requires
place_cell-b-requires c = (cell _ c.args.i 1 _ _ c.requires.0 refl refl (omega arith), c.place_cell-a.ensures.1)

pub place_cell-c-requires : goal.place_cell-c-requires
place_cell-c-requires c = (cell _ c.args.i 2 _ _ c.requires.0 refl refl (omega arith), placed_at _ _ _ _ _ (omega arith) c.place_cell-b.ensures.1)

pub place_cell-requires : goal.place_cell-requires
place_cell-requires c = (cell _ c.args.i 3 _ _ c.requires.0 refl refl (omega arith), placed_at _ _ _ _ _ (omega arith) c.place_cell-c.ensures.1)

pub returns-else-is_clear : goal.returns-else-is_clear
unfolding fresh_tooth
returns-else-is_clear c =
    let k = c.place_cell-a.ensures in
    let l = c.place_cell-b.ensures in
    let m = c.place_cell-c.ensures in
    let n = c.place_cell.ensures in
    (rw (n.0, m.0, l.0, k.0), placed_at _ _ _ _ _ (omega arith) n.1)
