-- `PoleZeroDesign::face_bypassed` meets its contract: the four states' points and their kinds, by the calls' contracts.
use Rattle.std.proofs.Common.{rules}
use Rattle.pole_zero.specs.PoleZero.{face_bypassed}
use Rattle.pole_zero.proofs.PoleZeroDesign.face_bypassed.Goals as goal

pub returns-then-is_bypass-3 : goal.returns-then-is_bypass-3
unfolding face_bypassed
returns-then-is_bypass-3 c = search rules

pub returns-else-is_bypass-3 : goal.returns-else-is_bypass-3
unfolding face_bypassed
returns-else-is_bypass-3 c = search rules
