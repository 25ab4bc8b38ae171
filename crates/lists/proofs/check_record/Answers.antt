-- `lists::check_record` meets its contract: the flags' test, then the five strings.
use mathlib.Core.Path.{◌∙◌}
use native.Mathlib.Omega.{arith}
use Rattle.format.proofs.Strings.{record-9, record-fields}
use Rattle.lists.proofs.check_record.Goals as goal

pub returns-then-u16_at-gt-ALL_FLAGS : goal.returns-then-u16_at-gt-ALL_FLAGS
returns-then-u16_at-gt-ALL_FLAGS c = rw c.at.ensures (record-9 _ _ (omega arith))

pub returns : goal.returns
returns c = c.check_fields.ensures ∙ record-fields _ _ (omega arith)
