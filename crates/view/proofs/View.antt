-- A bad view reads 0 and writes nothing (document 01, point 4 of block). Assumes nothing.
use Rattle.std.specs.Prelude.{◌≡◌, List, ℕ, Float, length}
use Rattle.lane.specs.Floats.{zero}
use Rattle.lines.specs.Lines.{read_of, write_of}
use Rattle.lines.proofs.Laws.{write_bad}
use Rattle.view.specs.View.{Bad, view_bad}

module _ (xs : List Float) (len cursor slot : ℕ) (v : Float) (bad : Bad len slot (length xs)) where
  pub read_bad : read_of xs len cursor slot v ≡ zero
  unfolding read_of
  read_bad = rw (view_bad len slot (length xs) bad)

  pub write_none : write_of xs len cursor slot v ≡ xs
  write_none = write_bad xs len cursor slot v (view_bad len slot (length xs) bad)
