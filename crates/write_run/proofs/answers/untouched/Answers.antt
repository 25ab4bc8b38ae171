-- `write_run::answers::untouched` meets its contract.
use Prim.Native.Nat.{ℕ}
use mathlib.Core.Path.{refl, sym}
use lib.ListN.{length-replicate}
use Rattle.write_run.specs.Cases.{guards}
use Rattle.write_run.proofs.answers.untouched.Goals as goal

pub returns : goal.returns
unfolding guards
returns c = (refl, sym (length-replicate {A = ℕ} 65536 165))
