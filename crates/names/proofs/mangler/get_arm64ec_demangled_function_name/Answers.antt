-- `names::mangler::get_arm64ec_demangled_function_name` meets its contract.
use mathlib.Core.Path.{sym, ◌∙◌}
use native.Mathlib.Omega.{arith}
use Rattle.laws.proofs.Names.{find-within}
use Rattle.search.proofs.Searches.{place-at, place-nowhere}
use Rattle.names.proofs.Manglings.{demangles-alone, demangles-dropped, demangles-plain, demangles-untagged, demangles-last, demangles-cut}
use Rattle.names.proofs.mangler.get_arm64ec_demangled_function_name.Goals as goal

pub returns-then-name-eq1 : goal.returns-then-name-eq1
returns-then-name-eq1 c =
    demangles-alone _ (sym c.starts_with.ensures ∙ c.if-starts_with.true) c.if-name-eq1.true

pub returns-then-starts_with : goal.returns-then-starts_with
returns-then-starts_with c =
    demangles-dropped _ (sym c.starts_with.ensures ∙ c.if-starts_with.true) c.if-name-eq1.false

pub returns-then-not-starts_with : goal.returns-then-not-starts_with
returns-then-not-starts_with c =
    demangles-plain _ (sym c.starts_with.ensures ∙ c.if-starts_with.false) (sym c.starts_with-2.ensures ∙ c.if-not-starts_with.true)

pub returns-in_err-at : goal.returns-in_err-at
returns-in_err-at c =
    rw c.from_residual.ensures
    (demangles-untagged _ (sym c.starts_with.ensures ∙ c.if-starts_with.false) (sym c.starts_with-2.ensures ∙ c.if-not-starts_with.false)
    (place-nowhere _ (sym c.find_tag.ensures ∙ c.in_err-at.was)))

pub overflow_add-at : goal.overflow_add-at
overflow_add-at c =
    omega (arith, find-within _ _ _ (place-at _ _ (sym c.find_tag.ensures ∙ c.in_ok-at.was)))

pub returns-then-at-name : goal.returns-then-at-name
returns-then-at-name c =
    demangles-last _ (sym c.starts_with.ensures ∙ c.if-starts_with.false) (sym c.starts_with-2.ensures ∙ c.if-not-starts_with.false)
    (place-at _ _ (sym c.find_tag.ensures ∙ c.in_ok-at.was)) c.if-at-name.true

pub returns : goal.returns
returns c =
    demangles-cut _ (sym c.starts_with.ensures ∙ c.if-starts_with.false) (sym c.starts_with-2.ensures ∙ c.if-not-starts_with.false)
    (place-at _ _ (sym c.find_tag.ensures ∙ c.in_ok-at.was)) c.if-at-name.false
