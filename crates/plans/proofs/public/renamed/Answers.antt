-- `plans::public::renamed` meets its contract.
use mathlib.Core.Path.{ap}
use native.Mathlib.Omega.{arith}
use lib.ListN.{length}
use Rattle.plans.proofs.Publics.{string-length, base-length, name-length, renamed-by, ext_name-is}
use Rattle.plans.proofs.public.renamed.Goals as goal

pub replace-requires : goal.replace-requires
replace-requires c =
    let h = c.args.r.held in
    let base = ap length c.base-base.ensures in
    let name = ap length c.name-name.ensures in
    let base-few = base-length _ _ h in
    let name-few = name-length _ _ h in (
      omega (arith, base, name, base-few, name-few, h.few 0 (omega arith)),
      omega (arith, name, name-few, h.named),
      omega (arith, name, name-few, h.few 0 (omega arith), ap length (ext_name-is _ _ c.requires).1, string-length _ _ 1 h (omega arith), h.few 1 (omega arith)),
    )

pub returns : goal.returns
returns c = renamed-by _ _ c.requires c.base-base.ensures c.name-name.ensures c.replace.ensures
