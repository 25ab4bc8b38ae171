-- `lookup::entries::entry` meets its contract.
use mathlib.Core.Path.{ap}
use native.Mathlib.Omega.{arith}
use lib.ListN.{length}
use Rattle.wire.proofs.Bytes.{length-part}
use Rattle.lookup.proofs.Entering.{typed, named-number, entry-ordinal, entry-exported, entry-named}
use Rattle.lookup.proofs.entries.entry.Goals as goal

pub overflow_add-result-in-Name-2 : goal.overflow_add-result-in-Name-2
overflow_add-result-in-Name-2 c =
    omega
    (arith, c.requires.inside.0.inside, c.requires.member_bound, c.apply_name_type-left.ensures.within, ap length c.part-name.ensures, length-part c.args.member.now c.args.symbol.start c.args.symbol.length c.requires.inside.0.inside)

pub returns-in-Ordinal : goal.returns-in-Ordinal
returns-in-Ordinal c = entry-ordinal _ _ _ _ _ (typed _ _ c.try_from.ensures c.unwrap_or-name_type.ensures) c.in-Ordinal.is

pub returns-in-NameExportas : goal.returns-in-NameExportas
returns-in-NameExportas c = entry-exported _ _ _ _ _ (typed _ _ c.try_from.ensures c.unwrap_or-name_type.ensures) c.in-NameExportas.is

pub returns-in-Name : goal.returns-in-Name
returns-in-Name c =
    let k = named-number c.in-Name.is in
    entry-named _ _ _ _ _ (typed _ _ c.try_from.ensures c.unwrap_or-name_type.ensures) k.0 k.1 c.part-name.ensures c.apply_name_type-left.ensures
