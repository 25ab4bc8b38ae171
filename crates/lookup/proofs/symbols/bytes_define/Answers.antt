-- `lookup::symbols::bytes_define` meets its contract.
use mathlib.Core.Path.{sym, ◌∙◌}
use Rattle.lookup.proofs.Saying.{said-refused}
use Rattle.lookup.proofs.Defining.{mute-defines}
use Rattle.lookup.proofs.symbols.bytes_define.Goals as goal

pub returns-then-not-may_define : goal.returns-then-not-may_define
returns-then-not-may_define c = sym (c.may_define.ensures (c.if-not-may_define.true))

pub returns-in-Err : goal.returns-in-Err
returns-in-Err c = mute-defines _ _ (said-refused _ (sym c.in-Err.is ∙ c.read.ensures))
