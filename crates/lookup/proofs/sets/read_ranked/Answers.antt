-- `lookup::sets::read_ranked` meets its contract.
use mathlib.Core.Path.{sym, ◌∙◌}
use Rattle.lookup.proofs.Saying.{ranked-none, ranked-other, ranked-some}
use Rattle.lookup.proofs.sets.read_ranked.Goals as goal

pub returns-in_default : goal.returns-in_default
returns-in_default c = ranked-none _ _ (sym c.read.ensures ∙ c.in_default.is)

pub returns-then-rank-expected : goal.returns-then-rank-expected
returns-then-rank-expected c = ranked-other _ _ (sym c.read.ensures ∙ c.in-Ok.is) (λ e. c.if-rank-expected.true (c.rank.ensures ∙ e))

pub returns : goal.returns
returns c = ranked-some _ _ (sym c.read.ensures ∙ c.in-Ok.is) (sym c.rank.ensures ∙ c.if-rank-expected.false)
