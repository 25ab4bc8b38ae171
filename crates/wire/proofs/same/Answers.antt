-- `wire::same` meets its contract.
use mathlib.Core.Path.{sym, ◌∙◌}
use native.Mathlib.Omega.{arith}
use Rattle.wire.proofs.Bytes.{same-longer}
use Rattle.wire.proofs.Parts.{same-whole}
use Rattle.wire.proofs.same.Goals as goal

pub returns-then-a-b : goal.returns-then-a-b
returns-then-a-b c = sym (same-longer _ _ c.if-a-b.true)

pub returns-then-a-lt-WORD : goal.returns-then-a-lt-WORD
returns-then-a-lt-WORD c = c.same_at.ensures ∙ same-whole _ _ (omega arith)
