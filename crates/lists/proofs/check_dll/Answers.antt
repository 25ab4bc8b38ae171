-- `lists::check_dll` meets its contract.
use native.Mathlib.Omega.{arith}
use mathlib.Core.Path.{sym, ap, ◌∙◌}
use Rattle.format.specs.Names.{barred_dll}
use Rattle.format.proofs.Rows.{passed-on}
use Rattle.format.proofs.Strings.{dll-stop, dll-10, dll-fine, string-within}
use Rattle.lists.proofs.check_dll.Goals as goal

pub returns-in_err-check_string : goal.returns-in_err-check_string
returns-in_err-check_string c =
    passed-on _ c.from_residual.ensures.1 ∙ dll-stop _ _ (sym c.check_string.ensures ∙ c.in_err-check_string.was)

pub part-requires : goal.part-requires
part-requires c =
    omega (arith, string-within _ _ _ _ _ (sym c.check_string.ensures ∙ c.in_ok-check_string.was))

pub returns-then-barred : goal.returns-then-barred
returns-then-barred c =
    rw c.at.ensures
    (dll-10 _ _ _ (sym c.check_string.ensures ∙ c.in_ok-check_string.was)
    (sym (ap barred_dll c.part.ensures) ∙ sym c.barred.ensures ∙ c.if-barred.true) (omega arith) (omega arith))

pub returns : goal.returns
returns c =
    dll-fine _ _ _ (sym c.check_string.ensures ∙ c.in_ok-check_string.was)
    (sym (ap barred_dll c.part.ensures) ∙ sym c.barred.ensures ∙ c.if-barred.false) (omega arith) (omega arith)
