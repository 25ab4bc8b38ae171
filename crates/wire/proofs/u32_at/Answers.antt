-- `wire::u32_at` meets its contract.
use native.Mathlib.Omega.{arith}
use Rattle.wire.specs.Bytes.{u32_at}
use Rattle.wire.proofs.u32_at.Goals as goal

pub returns : goal.returns
unfolding u32_at
returns c = omega (arith, c.from_le_bytes.ensures)
