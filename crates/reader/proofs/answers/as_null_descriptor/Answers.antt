-- `reader::answers::as_null_descriptor` meets its contract.
use mathlib.Core.List.{[]}
use Rattle.reader.proofs.Answering.{lost, found, admits-null, null-fields, null-plain}
use Rattle.reader.proofs.answers.as_null_descriptor.Goals as goal

pub returns-then-find_null_import_descriptor-b : goal.returns-then-find_null_import_descriptor-b
returns-then-find_null_import_descriptor-b c =
    let m = c.args.machine.number in
    lost _ _ (admits-null m c.requires) (null-plain m [] c.find_null_import_descriptor.ensures) c.if-find_null_import_descriptor-b.true

pub returns : goal.returns
returns c =
    let m = c.args.machine.number in
    found _ _ (admits-null m c.requires) (null-plain m [] c.find_null_import_descriptor.ensures) c.if-find_null_import_descriptor-b.false (null-fields m)
