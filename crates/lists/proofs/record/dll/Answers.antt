-- `lists::record::dll` meets its contract.
use Prim.Native.Nat.{◌+◌}
use mathlib.Core.Path.{ap₂, ◌∙◌}
use Rattle.lists.proofs.Records.{string-at}
use Rattle.lists.proofs.record.dll.Goals as goal

pub returns : goal.returns
returns c =
    c.part.ensures ∙ string-at _ _ _ _ (ap₂ ◌+◌ c.u32_at.ensures c.u32_at-2.ensures) c.u32_at-n.ensures
