-- `reader::answers::as_descriptor` meets its contract.
use native.Mathlib.Omega.{arith}
use Rattle.reader.proofs.Answering.{lost, found, dll-most, admits-descriptor, descriptor-fields}
use Rattle.reader.proofs.answers.as_descriptor.Goals as goal

pub find_import_descriptor-requires : goal.find_import_descriptor-requires
find_import_descriptor-requires c = record { dll_len_bound = dll-most 255 _ c.requires.dll_value (omega arith); stem = c.requires.stem }

pub returns-then-find_import_descriptor-b : goal.returns-then-find_import_descriptor-b
returns-then-find_import_descriptor-b c =
    lost _ _ (admits-descriptor _ _ _ c.requires.ordinary c.requires.dll_value) c.find_import_descriptor.ensures c.if-find_import_descriptor-b.true

pub returns : goal.returns
returns c =
    found _ _ (admits-descriptor _ _ _ c.requires.ordinary c.requires.dll_value) c.find_import_descriptor.ensures c.if-find_import_descriptor-b.false
    (descriptor-fields c.args.machine.number c.args.dll.now c.args.compat c.args.stem.now c.requires.stem)
