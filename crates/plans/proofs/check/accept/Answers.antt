-- `plans::check::accept` meets its contract, of any bytes.
use mathlib.Core.Path.{sym, ◌∙◌}
use Rattle.std.proofs.lemmas.Option.{MatchOption-at_none, MatchOption-at_some}
use Rattle.coff.proofs.Table.{found-known}
use Rattle.format.proofs.Rows.{passed-on}
use Rattle.plans.specs.Accepting.{taken, refused}
use Rattle.plans.proofs.Accepting.{accept-1, accept-stop, accept-on, asked-by}
use Rattle.plans.proofs.check.accept.Goals as goal

pub returns-in_default : goal.returns-in_default
returns-in_default c =
    λ compat. rw c.at.ensures (refused (sym (accept-1 _ _ (MatchOption-at_none _ _ c.in_default.is c.find.ensures))))

pub returns-in_err-listed : goal.returns-in_err-listed
returns-in_err-listed c =
    λ compat. rw (passed-on _ c.from_residual.ensures.1) (refused (sym (accept-stop _ _ _ (found-known _ c.in-Some.is c.find.ensures) (sym c.check_list-listed.ensures ∙ c.in_err-listed.was))))

pub returns-in_err-named : goal.returns-in_err-named
returns-in_err-named c =
    λ compat. let on = accept-on _ _ (found-known _ c.in-Some.is c.find.ensures) (sym c.check_list-listed.ensures ∙ c.in_ok-listed.was) in
    rw (passed-on _ c.from_residual-in_err-named.ensures.1)
    (refused (sym (asked-by _ _ (MatchOption-at_some _ _ _ c.in-Some.is c.find.ensures) (c.check_both-named.ensures compat) ∙ on) ∙ c.in_err-named.was))

pub returns : goal.returns
returns c =
    let n = MatchOption-at_some _ _ _ c.in-Some.is c.find.ensures in
    λ compat. let on = accept-on _ _ (found-known _ c.in-Some.is c.find.ensures) (sym c.check_list-listed.ensures ∙ c.in_ok-listed.was) in
    taken (sym (asked-by _ _ n (c.check_both-named.ensures compat) ∙ on) ∙ c.in_ok-named.was) n
