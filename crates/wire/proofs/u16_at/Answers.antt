-- `wire::u16_at` meets its contract.
use native.Mathlib.Omega.{arith}
use Rattle.wire.specs.Bytes.{u16_at}
use Rattle.wire.proofs.u16_at.Goals as goal

pub returns : goal.returns
unfolding u16_at
returns c = omega (arith, c.from_le_bytes.ensures)
