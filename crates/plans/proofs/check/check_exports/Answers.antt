-- `plans::check::check_exports` meets its contract, of any bytes.
use mathlib.Core.Path.{sym, ◌∙◌}
use Rattle.format.proofs.Rows.{passed-on}
use Rattle.plans.proofs.Accepting.{accepted-by, refused-by}
use Rattle.plans.proofs.check.check_exports.Goals as goal

pub returns-in_err-accept : goal.returns-in_err-accept
returns-in_err-accept c =
    λ compat. passed-on _ c.from_residual.ensures.1 ∙ sym (refused-by c.in_err-accept.was (c.accept.ensures compat))

pub returns : goal.returns
returns c = λ compat. sym (accepted-by c.in_ok-accept.was (c.accept.ensures compat)).0
