-- `names::types::apply_name_type` meets its contract.
use Rattle.names.proofs.NameTypes.{applied-noprefix, applied-undecorate, applied-left}
use Rattle.names.proofs.types.apply_name_type.Goals as goal

pub returns-in-NameNoprefix : goal.returns-in-NameNoprefix
returns-in-NameNoprefix c = applied-noprefix _ _ c.ltrim1-n.ensures.0 c.ltrim1-n.ensures.1 c.in-NameNoprefix.is

pub returns-in-NameUndecorate : goal.returns-in-NameUndecorate
returns-in-NameUndecorate c =
    applied-undecorate _ _ c.ltrim1-n-in-NameUndecorate.ensures.0 c.ltrim1-n-in-NameUndecorate.ensures.1 c.in-NameUndecorate.is c.index_of.ensures

pub returns-in-Ordinal : goal.returns-in-Ordinal
returns-in-Ordinal c = applied-left c.args.t _ c.in-Ordinal.is
