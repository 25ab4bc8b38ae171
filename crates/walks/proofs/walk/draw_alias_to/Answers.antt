-- `walks::walk::draw_alias_to` meets its contract.
use mathlib.Core.Path.{sym, ap}
use Rattle.walks.proofs.Pens.{room-as, drew-as}
use native.Mathlib.Omega.{arith}
use lib.ListN.{length}
use Rattle.lists.proofs.Records.{absent-is, string-is}
use Rattle.names.proofs.Renamings.{name-few}
use Rattle.plans.proofs.Publics.{base-length}
use Rattle.walks.proofs.Records.{alias-of, target-base, target-there, target-built}
use Rattle.walks.proofs.walk.draw_alias_to.Goals as goal

pub draw_alias-requires : goal.draw_alias-requires
draw_alias-requires c = record { room = room-as (sym (alias-of _ _ c.import_type-import_type.ensures (target-base _ _ (absent-is _ _ c.ext_name.ensures c.in_default.is) c.base.ensures))) c.requires.room; target_len_bound = (omega (arith, ap length c.base.ensures, base-length _ _ c.args.other.held), omega (arith, c.requires.public_len_bound)) }

pub returns-in_default : goal.returns-in_default
returns-in_default c =
    drew-as (alias-of _ _ c.import_type-import_type.ensures (target-base _ _ (absent-is _ _ c.ext_name.ensures c.in_default.is) c.base.ensures))
    c.draw_alias.ensures

pub renamed-requires : goal.renamed-requires
renamed-requires c = string-is _ _ c.ext_name.ensures c.in-Some.is

pub unwrap-name-requires : goal.unwrap-name-requires
unwrap-name-requires c = target-there _ _ c.renamed.ensures c.requires.other_value

pub draw_alias-requires-2 : goal.draw_alias-requires-2
draw_alias-requires-2 c =
    let name = target-built _ _ c.renamed.ensures c.unwrap-name.ensures c.as_slice.ensures.bytes in
    record { room = room-as (sym (alias-of _ _ c.import_type-import_type.ensures name)) c.requires.room; target_len_bound = (omega (arith, c.as_slice.ensures.len, name-few c.renamed.ensures c.unwrap-name.ensures), omega (arith, c.requires.public_len_bound)) }

pub returns : goal.returns
returns c =
    drew-as (alias-of _ _ c.import_type-import_type.ensures (target-built _ _ c.renamed.ensures c.unwrap-name.ensures c.as_slice.ensures.bytes))
    c.draw_alias-2.ensures
