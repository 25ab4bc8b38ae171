-- `library::write` meets its contract.
use mathlib.Core.Path.{refl, ◌∙◌}
use Rattle.format.proofs.Rows.{passed-on}
use Rattle.plans.proofs.Accepting.{accepted-by, refused-by}
use Rattle.library.proofs.MemberSets.{written-stop, writes-by}
use Rattle.library.proofs.write.Goals as goal

pub write_accepted-requires : goal.write_accepted-requires
write_accepted-requires c =
    let (e, n) = accepted-by c.in_ok-m.was (c.accept.ensures c.args.whole_archive_compat) in
    rw n e

pub returns-in_err-m : goal.returns-in_err-m
returns-in_err-m c =
    let (answer, left) = written-stop _ _ _ _ _ (refused-by c.in_err-m.was (c.accept.ensures _)) in
    writes-by _ _ (passed-on _ c.from_residual.ensures.1 ∙ answer) left (λ _. refl)

pub returns : goal.returns
returns c =
    let (e, n) = accepted-by c.in_ok-m.was (c.accept.ensures c.args.whole_archive_compat) in
    rw n at c.write_accepted.ensures
