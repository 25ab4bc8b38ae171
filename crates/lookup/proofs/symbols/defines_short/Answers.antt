-- `lookup::symbols::defines_short` meets its contract.
use mathlib.Core.Path.{sym, ◌∙◌}
use Rattle.lookup.proofs.Defining.{short-address, short-data, short-shown, short-plain, short-auxiliary, short-by}
use Rattle.lookup.proofs.symbols.defines_short.Goals as goal

pub returns-then-is_name : goal.returns-then-is_name
returns-then-is_name c = short-address _ _ _ _ _ c.shown.ensures (sym c.is_name.ensures ∙ c.if-is_name.true)

pub returns-then-kind-eq-DATA : goal.returns-then-kind-eq-DATA
returns-then-kind-eq-DATA c = short-data _ _ _ _ _ c.shown.ensures (sym c.is_name.ensures ∙ c.if-is_name.false) c.if-kind-eq-DATA.true

pub returns-then-is_name-2 : goal.returns-then-is_name-2
returns-then-is_name-2 c =
    short-shown _ _ _ _ _ c.shown.ensures (sym c.is_name.ensures ∙ c.if-is_name.false) c.if-kind-eq-DATA.false
    (sym c.is_name-2.ensures ∙ c.if-is_name-2.true)

pub returns-then-machine-ne-IMAGE_FILE_MACHINE_ARM64EC : goal.returns-then-machine-ne-IMAGE_FILE_MACHINE_ARM64EC
returns-then-machine-ne-IMAGE_FILE_MACHINE_ARM64EC c =
    short-plain _ _ _ _ _ c.shown.ensures (sym c.is_name.ensures ∙ c.if-is_name.false) c.if-kind-eq-DATA.false
    (sym c.is_name-2.ensures ∙ c.if-is_name-2.false) c.if-machine-ne-IMAGE_FILE_MACHINE_ARM64EC.true

pub returns-then-is_name-3 : goal.returns-then-is_name-3
returns-then-is_name-3 c =
    short-auxiliary _ _ _ _ _ c.shown.ensures (sym c.is_name.ensures ∙ c.if-is_name.false) c.if-kind-eq-DATA.false
    (sym c.is_name-2.ensures ∙ c.if-is_name-2.false) c.if-machine-ne-IMAGE_FILE_MACHINE_ARM64EC.false (sym c.is_name-3.ensures ∙ c.if-is_name-3.true)

pub returns : goal.returns
returns c =
    short-by _ _ _ _ _ c.shown.ensures (sym c.is_name.ensures ∙ c.if-is_name.false) c.if-kind-eq-DATA.false
    (sym c.is_name-2.ensures ∙ c.if-is_name-2.false) c.if-machine-ne-IMAGE_FILE_MACHINE_ARM64EC.false (sym c.is_name-3.ensures ∙ c.if-is_name-3.false)
    c.same.ensures
