-- `plans::keys::key_is` meets its contract.
use mathlib.Core.Path.{sym, ap, ◌∙◌}
use mathlib.Core.Option.{some}
use Rattle.lists.proofs.Records.{absent-is, string-is}
use Rattle.names.proofs.Renamings.{name-some, name-none}
use Rattle.plans.proofs.Publics.{public-base}
use Rattle.plans.proofs.Answering.{key-private, key-by, key-11}
use Rattle.plans.proofs.keys.key_is.Goals as goal

pub returns-then-is_private : goal.returns-then-is_private
returns-then-is_private c = key-private _ _ _ _ _ (sym c.is_private.ensures ∙ c.if-is_private.true)

pub returns-in_default : goal.returns-in_default
returns-in_default c =
    c.key_named.ensures ∙ key-by _ _ _ _ _ _ (sym c.is_private.ensures ∙ c.if-is_private.false)
    (public-base _ _ (absent-is _ _ c.ext_name.ensures c.in_default.is) ∙ ap some (sym c.base.ensures))

pub renamed-requires : goal.renamed-requires
renamed-requires c = string-is _ _ c.ext_name.ensures c.in-Some.is

pub returns-in_default-renamed : goal.returns-in_default-renamed
returns-in_default-renamed c =
    key-11 _ _ _ _ _ (sym c.is_private.ensures ∙ c.if-is_private.false) (name-none c.renamed.ensures c.in_default-renamed.is)

pub returns : goal.returns
returns c =
    c.key_named-2.ensures ∙ key-by _ _ _ _ _ _ (sym c.is_private.ensures ∙ c.if-is_private.false)
    (name-some c.renamed.ensures c.in-Some-renamed.is c.as_slice.ensures.bytes)
