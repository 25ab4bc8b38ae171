-- `lists::check_rest` meets its contract.
use native.Mathlib.Omega.{arith}
use mathlib.Core.Path.{sym, ◌∙◌}
use Rattle.format.proofs.Rows.{passed-on}
use Rattle.format.proofs.Strings.{rest-stop, rest-records}
use Rattle.lists.proofs.check_rest.Goals as goal

pub returns-in_err-check_dll : goal.returns-in_err-check_dll
returns-in_err-check_dll c =
    passed-on _ c.from_residual.ensures.1 ∙ rest-stop _ _ (sym c.check_dll.ensures ∙ c.in_err-check_dll.was)

pub returns : goal.returns
returns c =
    c.check_records.ensures ∙ rest-records _ _ (sym c.check_dll.ensures ∙ c.in_ok-check_dll.was) (omega arith)
