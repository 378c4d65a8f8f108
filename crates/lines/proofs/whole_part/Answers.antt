-- `lines::whole_part_lem` meets its contract: the pattern's fields say how many digits are the fraction's.
use Rattle.std.proofs.Common.{◌≡◌, T, sym, ◌∙◌, subst, arith}
use lib.Ieee.{binary32, of_bits, to_bits}
use Rattle.lines.specs.Lines.{whole_part}
use Rattle.lines.proofs.Digits.{Fields, fields, number}
use Rattle.lines.proofs.whole_part.Goals as goal

-- what owning an `f32` tells: the format holds it
parts : (c : goal.Start) → Fields (to_bits binary32 c.args.d) × (whole_part (of_bits binary32 (to_bits binary32 c.args.d)) ≡ whole_part c.args.d)
parts c = fields c.args.d (subst T (sym c.well_formed.0.1) tt) c.requires.0 c.requires.1

pub float_to_bits-b : goal.float_to_bits-b
float_to_bits-b c = number c.args.d c.requires.0

pub overflow_sub-result : goal.overflow_sub-result
overflow_sub-result c = let f = (parts c).0 in let m = f.most in omega arith

pub overflow_shr-result : goal.overflow_shr-result
overflow_shr-result c = let f = (parts c).0 in let l = f.least in omega arith

pub returns : goal.returns
returns c = let p = parts c in p.0.digits ∙ p.1
