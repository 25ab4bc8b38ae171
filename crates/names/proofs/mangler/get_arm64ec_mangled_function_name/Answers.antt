-- `names::mangler::get_arm64ec_mangled_function_name` meets its contract.
use mathlib.Core.Path.{refl, sym, ◌∙◌}
use Rattle.search.proofs.Searches.{place-at, place-nowhere}
use Rattle.names.proofs.Manglings.{mangling-by, mangling-tagged, mangling-untagged}
use Rattle.names.proofs.mangler.get_arm64ec_mangled_function_name.Goals as goal

pub returns-then-starts_with : goal.returns-then-starts_with
returns-then-starts_with c =
    sym (mangling-by _ (sym c.starts_with.ensures ∙ c.if-not-starts_with.true) (sym c.starts_with-then-not-starts_with.ensures ∙ c.if-starts_with.true) refl)

pub returns-then-not-starts_with : goal.returns-then-not-starts_with
returns-then-not-starts_with c =
    sym (mangling-by _ (sym c.starts_with.ensures ∙ c.if-not-starts_with.true) (sym c.starts_with-then-not-starts_with.ensures ∙ c.if-starts_with.false) refl)

pub returns : goal.returns
returns c =
    sym (mangling-tagged _ (sym c.starts_with.ensures ∙ c.if-not-starts_with.false)
    (place-at _ _ (sym c.find_tag.ensures ∙ c.in_ok-find_tag.was)))

pub returns-in_err-find_tag : goal.returns-in_err-find_tag
returns-in_err-find_tag c =
    c.from_residual.ensures
    ∙ sym (mangling-untagged _ (sym c.starts_with.ensures ∙ c.if-not-starts_with.false)
    (place-nowhere _ (sym c.find_tag.ensures ∙ c.in_err-find_tag.was)))
