-- What the records from k on tell is what all tell.
use Rattle.std.proofs.Common.{◌≡◌, ◌-◌}
use Rattle.keys.specs.Targets.{any_wanted}
use Rattle.keys.proofs.has_wanted.Given as goal

abbrev pub invariant-loop-k : goal.invariant-loop-k
invariant-loop-k l = any_wanted l.b l.k (l.to - l.k) ≡ any_wanted l.b l.from (l.to - l.from)
