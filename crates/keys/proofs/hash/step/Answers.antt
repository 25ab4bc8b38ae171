-- `keys::hash::step` meets its contract.
use Rattle.std.proofs.Common.{arith}
use Rattle.keys.proofs.hash.step.Goals as goal

pub returns : goal.returns
returns c = omega (arith, c.wrapping_add_u32-2.ensures, c.wrapping_add_u32.ensures)
