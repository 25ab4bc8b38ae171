-- `walks::walk::is_direct` meets its contract.
use mathlib.Core.Path.{sym, ◌∙◌}
use Rattle.lists.proofs.Records.{absent-by, there-by, none-by}
use Rattle.walks.proofs.Records.{direct-ec, direct-empty, direct-exported, direct-is}
use Rattle.walks.proofs.walk.is_direct.Goals as goal

pub returns-then-machine-eq-IMAGE_FILE_MACHINE_ARM64EC : goal.returns-then-machine-eq-IMAGE_FILE_MACHINE_ARM64EC
returns-then-machine-eq-IMAGE_FILE_MACHINE_ARM64EC c = direct-ec _ _ _ _ c.if-machine-eq-IMAGE_FILE_MACHINE_ARM64EC.true

pub returns-then-public-eq0 : goal.returns-then-public-eq0
returns-then-public-eq0 c = direct-empty _ _ _ _ c.if-machine-eq-IMAGE_FILE_MACHINE_ARM64EC.false c.if-public-eq0.true

pub returns-then-is_some : goal.returns-then-is_some
returns-then-is_some c =
    direct-exported _ _ _ _ c.if-machine-eq-IMAGE_FILE_MACHINE_ARM64EC.false c.if-public-eq0.false (there-by _ _ _ c.export_as.ensures (sym c.is_some.ensures ∙ c.if-is_some.true))

pub returns : goal.returns
returns c =
    direct-is _ _ _ _ c.if-machine-eq-IMAGE_FILE_MACHINE_ARM64EC.false c.if-public-eq0.false (absent-by _ _ _ c.export_as.ensures (sym c.is_some.ensures ∙ c.if-is_some.false))
    (none-by _ _ _ _ c.import_name.ensures c.is_none.ensures)
