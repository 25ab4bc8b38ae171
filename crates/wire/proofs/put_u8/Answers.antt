-- `wire::put_u8` meets its contract: within `out` one store, and past its end nothing.
use borrow.Author.Rules.{rules}
use mathlib.Core.Path.{refl}
use Rattle.wire.proofs.Writes.{wrote-one, wrote-out}
use Rattle.wire.proofs.put_u8.Goals as goal

pub returns-then-at-out : goal.returns-then-at-out
returns-then-at-out c = wrote-one _ _ _ (search rules) refl

pub returns : goal.returns
returns c = wrote-out _ _ _ c.if-at-out.false
