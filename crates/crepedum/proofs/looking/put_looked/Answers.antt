-- `crepedum::looking::put_looked` meets its contract.
use Rattle.crepedum.proofs.Finding.{filled-not-found, filled-nowhere, filled-ordinal, filled-name, short-name}
use Rattle.crepedum.proofs.looking.put_looked.Goals as goal

pub returns-in-NotFound : goal.returns-in-NotFound
returns-in-NotFound c = filled-not-found _ c.args.fields.now c.in-NotFound.is

pub returns-in-Nowhere : goal.returns-in-Nowhere
returns-in-Nowhere c = filled-nowhere _ c.args.fields.now c.in-Nowhere.is

pub returns-in-Ordinal : goal.returns-in-Ordinal
returns-in-Ordinal c =
    filled-ordinal _ c.args.fields.now c.in-Ordinal.is c.put_all.ensures

pub put_name-requires : goal.put_name-requires
put_name-requires c = record { looked_count_in_bounds = c.requires.looked_count_in_bounds; short = short-name _ _ c.in-Name.is c.requires.short_looked }

pub returns-in-Name : goal.returns-in-Name
returns-in-Name c =
    filled-name _ c.args.fields.now c.in-Name.is c.put_name.ensures
