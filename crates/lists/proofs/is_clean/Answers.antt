-- `lists::is_clean` meets its contract.
use native.Mathlib.Omega.{arith}
use Rattle.lists.proofs.Records.{clean-names}
use Rattle.lists.proofs.is_clean.Goals as goal

pub returns : goal.returns
returns c =
    clean-names _ _ _ _ c.requires (omega arith) (omega arith) c.held_in.ensures
