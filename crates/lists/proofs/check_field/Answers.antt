-- `lists::check_field` meets its contract: `field_rows` is that call of `checkString`.
use Rattle.format.specs.Refusals.{field_rows}
use Rattle.lists.proofs.check_field.Goals as goal

pub returns : goal.returns
unfolding field_rows
returns c = c.check_string.ensures
