-- `lists::check_list` meets its contract, of any bytes.
use mathlib.Core.Path.{sym, ◌∙◌}
use Rattle.format.proofs.Header.{header-shaped}
use Rattle.format.proofs.Rows.{passed-on}
use Rattle.format.proofs.Strings.{list-stop, list-rest}
use Rattle.lists.proofs.check_list.Goals as goal

pub returns-in_err-check_header : goal.returns-in_err-check_header
returns-in_err-check_header c =
    passed-on _ c.from_residual.ensures.1 ∙ list-stop _ _ (sym c.check_header.ensures ∙ c.in_err-check_header.was)

pub check_rest-requires : goal.check_rest-requires
check_rest-requires c = header-shaped _ (sym c.check_header.ensures ∙ c.in_ok-check_header.was)

pub returns : goal.returns
returns c = c.check_rest.ensures ∙ list-rest _ (sym c.check_header.ensures ∙ c.in_ok-check_header.was)
