-- `names::rename::locate` meets its contract.
use mathlib.Core.Path.{◌∙◌, sym}
use Rattle.laws.proofs.Names.{starts-some}
use Rattle.names.proofs.Renamings.{locate-first, locate-plain-from, locate-plain-to, locate-again}
use Rattle.names.proofs.rename.locate.Goals.{else-starts_with-via-then-starts_with+else-starts_with-2, else-starts_with-via-else-starts_with}
use Rattle.names.proofs.rename.locate.Goals as goal

pub returns-in-Some : goal.returns-in-Some
returns-in-Some c = locate-first _ _ _ c.in-Some.ensures

pub locate_once-requires-then-starts_with-2 : goal.locate_once-requires-then-starts_with-2
locate_once-requires-then-starts_with-2 c =
    (starts-some _ _ (sym c.starts_with.ensures ∙ c.if-starts_with.true), starts-some _ _ (sym c.starts_with-then-starts_with.ensures ∙ c.if-starts_with-2.true))

pub returns-then-starts_with-2 : goal.returns-then-starts_with-2
returns-then-starts_with-2 c =
    locate-again _ _ _ c.in_default.ensures (sym c.starts_with.ensures ∙ c.if-starts_with.true)
    (sym c.starts_with-then-starts_with.ensures ∙ c.if-starts_with-2.true) c.locate_once-then-starts_with-2.ensures

pub returns : goal.returns
returns c =
    elim c.else-starts_with.branch [
      | else-starts_with-via-then-starts_with+else-starts_with-2 w ↦
          locate-plain-to _ _ _ c.in_default.ensures (sym w.starts_with-then-starts_with.ensures ∙ w.if-starts_with-2.false)
      | else-starts_with-via-else-starts_with w ↦
          locate-plain-from _ _ _ c.in_default.ensures (sym c.starts_with.ensures ∙ w.if-starts_with.false)
    ]
