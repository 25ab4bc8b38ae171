-- `plans::choose` meets its contract.
use mathlib.Core.Path.{sym, ap, ◌∙◌}
use Prim.Native.Nat.{ℕ}
use mathlib.Core.List.{[]}
use Rattle.format.specs.Plan as P
use Rattle.lists.proofs.Records.{absent-is, there-is, bytes-are, absent-by, there-by}
use Rattle.plans.specs.Shape.{source_of, choice_of}
use Rattle.plans.proofs.Choices.{choose-noname, choose-as, choose-imported, choose-plain, import-there}
use Rattle.plans.proofs.choose.Goals as goal

pub returns-then-is_noname : goal.returns-then-is_noname
unfolding choice_of source_of
returns-then-is_noname c = choose-noname _ _ _ _ _ (sym c.is_noname.ensures ∙ c.if-is_noname.true)

pub returns-then-is_some : goal.returns-then-is_some
unfolding choice_of source_of
returns-then-is_some c =
    choose-as _ _ _ _ _ (sym c.is_noname.ensures ∙ c.if-is_noname.false) (there-by _ _ _ c.export_as.ensures (sym c.is_some.ensures ∙ c.if-is_some.true))

pub returns-in-Some : goal.returns-in-Some
returns-in-Some c =
    let i = import-there _ _ _ (there-is _ _ c.import_name.ensures c.in-Some.is) (bytes-are _ _ c.import_name.ensures c.in-Some.is) in
    c.choose_import.ensures _ i ∙ choose-imported _ _ _ _ _ (sym c.is_noname.ensures ∙ c.if-is_noname.false) _
    (absent-by _ _ _ c.export_as.ensures (sym c.is_some.ensures ∙ c.if-is_some.false)) i

pub returns : goal.returns
unfolding choice_of source_of
returns c =
    ap (λ (t : ℕ). P.typed t []) c.plain_type.ensures ∙ choose-plain _ _ _ _ _ (sym c.is_noname.ensures ∙ c.if-is_noname.false)
    (absent-by _ _ _ c.export_as.ensures (sym c.is_some.ensures ∙ c.if-is_some.false)) (absent-is _ _ c.import_name.ensures c.in_default.is)
