-- `walks::walk::draw_source` meets its contract.
use mathlib.Core.Path.{refl, sym, ap}
use Rattle.walks.proofs.Pens.{room-as, drew-as}
use native.Mathlib.Omega.{arith}
use lib.ListN.{length}
use Rattle.lists.proofs.Records.{bytes-or}
use Rattle.plans.proofs.Publics.{string-length}
use Rattle.walks.proofs.Imports.{exporting, source-nothing, source-as, source-import, source-public, source-demangled}
use Rattle.walks.proofs.walk.draw_source.Goals as goal

pub draw_import-requires : goal.draw_import-requires
draw_import-requires c = record { room = room-as (exporting _ _ _ _ _ (sym (source-nothing _ _ _ _ c.in-Nothing.is))) c.requires.room; sym_len_bound = ((c.requires.sym_len_bound.0, c.requires.sym_len_bound.1), (omega arith, omega arith)) }

pub draw_import-requires-in-ExportAs : goal.draw_import-requires-in-ExportAs
draw_import-requires-in-ExportAs c = record { room = room-as (exporting _ _ _ _ _ (sym (source-as _ _ _ _ c.in-ExportAs.is (bytes-or _ _ _ _ c.export_as.ensures c.unwrap_or.ensures refl)))) c.requires.room; sym_len_bound = ((c.requires.sym_len_bound.0, c.requires.sym_len_bound.1), (omega (arith, ap length (bytes-or _ _ _ _ c.export_as.ensures c.unwrap_or.ensures refl), string-length _ _ 4 c.args.r.held (omega arith), c.args.r.held.few 4 (omega arith)), omega arith)) }

pub draw_import-requires-in-ImportName : goal.draw_import-requires-in-ImportName
draw_import-requires-in-ImportName c = record { room = room-as (exporting _ _ _ _ _ (sym (source-import _ _ _ _ c.in-ImportName.is (bytes-or _ _ _ _ c.import_name.ensures c.unwrap_or-in-ImportName.ensures refl)))) c.requires.room; sym_len_bound = ((c.requires.sym_len_bound.0, c.requires.sym_len_bound.1), (omega (arith, ap length (bytes-or _ _ _ _ c.import_name.ensures c.unwrap_or-in-ImportName.ensures refl), string-length _ _ 3 c.args.r.held (omega arith), c.args.r.held.few 3 (omega arith)), omega arith)) }

pub draw_import-requires-in-Public : goal.draw_import-requires-in-Public
draw_import-requires-in-Public c = record { room = room-as (exporting _ _ _ _ _ (sym (source-public _ _ _ _ c.in-Public.is))) c.requires.room; sym_len_bound = ((c.requires.sym_len_bound.0, c.requires.sym_len_bound.1), (c.requires.sym_len_bound.2, omega arith)) }

pub draw_demangled-requires : goal.draw_demangled-requires
draw_demangled-requires c = record { room = room-as (exporting _ _ _ _ _ (sym (source-demangled _ _ _ _ c.in-Demangled.is))) c.requires.room; sym_len_bound = c.requires.sym_len_bound }

pub returns-in-Nothing : goal.returns-in-Nothing
returns-in-Nothing c =
    drew-as (exporting _ _ _ _ _ (source-nothing _ _ _ _ c.in-Nothing.is)) c.draw_import.ensures

pub returns-in-ExportAs : goal.returns-in-ExportAs
returns-in-ExportAs c =
    drew-as (exporting _ _ _ _ _ (source-as _ _ _ _ c.in-ExportAs.is (bytes-or _ _ _ _ c.export_as.ensures c.unwrap_or.ensures refl))) c.draw_import-in-ExportAs.ensures

pub returns-in-ImportName : goal.returns-in-ImportName
returns-in-ImportName c =
    drew-as (exporting _ _ _ _ _ (source-import _ _ _ _ c.in-ImportName.is (bytes-or _ _ _ _ c.import_name.ensures c.unwrap_or-in-ImportName.ensures refl))) c.draw_import-in-ImportName.ensures

pub returns-in-Public : goal.returns-in-Public
returns-in-Public c =
    drew-as (exporting _ _ _ _ _ (source-public _ _ _ _ c.in-Public.is)) c.draw_import-in-Public.ensures

pub returns-in-Demangled : goal.returns-in-Demangled
returns-in-Demangled c =
    drew-as (exporting _ _ _ _ _ (source-demangled _ _ _ _ c.in-Demangled.is)) c.draw_demangled.ensures
