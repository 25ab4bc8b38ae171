-- `wire::find` meets its contract: `b` stands at the place exactly where what stands from there on starts with it.
use native.Mathlib.Omega.{arith}
use mathlib.Core.Bool.{false≢true}
use mathlib.Core.Path.{sym, ◌∙◌}
use Rattle.wire.proofs.Writes.{starts-has, has-starts, found-here, found-nowhere}
use Rattle.wire.proofs.find.Goals as goal
use Rattle.wire.proofs.find.Goals.{in_default-via-in-Some+else-starts_with, in_default-via-in_default}

pub returns-in-Some : goal.returns-in-Some
returns-in-Some c =
    let e = c.in-Some.ensures.lookup in
    found-here (starts-has _ _ _ e.0.0 e.0.2 c.starts_with.ensures.value c.if-starts_with.true)

pub returns-in_default : goal.returns-in_default
returns-in_default c =
    elim c.in_default.branch [
      | in_default-via-in-Some+else-starts_with w ↦
          let e = w.in-Some.ensures.lookup in
          found-nowhere (λ h. false≢true (sym w.if-starts_with.false ∙ has-starts _ _ _ e.0.2 w.starts_with.ensures.value h))
      | in_default-via-in_default w ↦
          let e = w.in_default.ensures.lookup in
          found-nowhere (λ h. false≢true (e.1 (h.inside, omega arith)))
    ]
