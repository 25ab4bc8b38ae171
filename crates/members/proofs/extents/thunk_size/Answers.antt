-- `members::extents::thunk_size` meets its contract.
use native.Mathlib.Omega.{arith}
use Rattle.laws.proofs.Lengths.{length-encode-null_thunk}
use Rattle.members.proofs.extents.thunk_size.Goals as goal

pub returns : goal.returns
returns c =
    omega (arith, c.slot_size.ensures.0, length-encode-null_thunk c.args.machine.number c.args.stem.now)
