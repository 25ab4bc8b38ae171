-- `library::total` meets its contract.
use mathlib.Core.Path.{◌∙◌}
use Rattle.format.proofs.Rows.{passed-on}
use Rattle.plans.proofs.Accepting.{accepted-by, refused-by}
use Rattle.library.proofs.MemberSets.{asked-stop, asked-total}
use Rattle.library.proofs.total.Goals as goal

pub returns-in_err-known : goal.returns-in_err-known
returns-in_err-known c =
    passed-on _ c.from_residual.ensures.1 ∙ asked-stop _ _ _ (refused-by c.in_err-known.was (c.accept.ensures _))

pub total_accepted-requires : goal.total_accepted-requires
total_accepted-requires c =
    let (e, n) = accepted-by c.in_ok-known.was (c.accept.ensures c.args.whole_archive_compat) in
    rw n e

pub returns : goal.returns
returns c =
    let (e, n) = accepted-by c.in_ok-known.was (c.accept.ensures c.args.whole_archive_compat) in
    asked-total _ _ e (rw n at c.total_accepted.ensures)
