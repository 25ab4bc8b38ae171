-- `wire::index_of` meets its contract.
use borrow.Author.Tests.{eqb-true, eq-eqb}
use Rattle.wire.proofs.Parts.{before-at}
use Rattle.wire.proofs.index_of.Goals as goal

pub returns-then-s-lt-WORD : goal.returns-then-s-lt-WORD
returns-then-s-lt-WORD c =
    let e = c.index_short.ensures in
    before-at _ _ _ e.within (λ j l h. e.before j l (eqb-true _ _ h)) (λ l. eq-eqb _ _ (e.found l))
