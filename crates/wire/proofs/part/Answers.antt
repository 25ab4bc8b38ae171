-- `wire::part` meets its contract.
use native.Mathlib.Nat.{add-sub_cancel_left}
use Rattle.wire.specs.Bytes.{part}
use Rattle.wire.proofs.part.Goals as goal

pub returns : goal.returns
unfolding part
returns c = simp add-sub_cancel_left
