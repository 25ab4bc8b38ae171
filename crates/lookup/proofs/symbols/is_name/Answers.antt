-- `lookup::symbols::is_name` meets its contract.
use Rattle.lookup.proofs.Defining.{pieces-test}
use Rattle.lookup.proofs.symbols.is_name.Goals as goal

pub returns : goal.returns
returns c =
    pieces-test c.find-a.ensures c.find-b.ensures c.find.ensures
