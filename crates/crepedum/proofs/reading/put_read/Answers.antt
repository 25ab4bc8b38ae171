-- `crepedum::reading::put_read` meets its contract.
use Rattle.crepedum.proofs.Fields.{filled-descriptor, filled-null, filled-thunk, filled-short, filled-weak, short-absent, shorts-as}
use Rattle.crepedum.proofs.reading.put_read.Goals as goal

pub put_values-requires : goal.put_values-requires
put_values-requires c =
    let h = shorts-as _ _ c.in-Descriptor.is c.requires.shorts in
    record { field_count_in_bounds = c.requires.field_count_in_bounds; short = (h.0, h.1, short-absent) }

pub returns-in-Descriptor : goal.returns-in-Descriptor
returns-in-Descriptor c =
    filled-descriptor c.args.read c.args.fields.now _ c.in-Descriptor.is c.put_values.ensures

pub put_values-requires-in-NullDescriptor : goal.put_values-requires-in-NullDescriptor
put_values-requires-in-NullDescriptor c =
    let h = shorts-as _ _ c.in-NullDescriptor.is c.requires.shorts in
    record { field_count_in_bounds = c.requires.field_count_in_bounds; short = (h, short-absent, short-absent) }

pub returns-in-NullDescriptor : goal.returns-in-NullDescriptor
returns-in-NullDescriptor c =
    filled-null c.args.read c.args.fields.now _ c.in-NullDescriptor.is c.put_values-in-NullDescriptor.ensures

pub put_values-requires-in-NullThunk : goal.put_values-requires-in-NullThunk
put_values-requires-in-NullThunk c =
    let h = shorts-as _ _ c.in-NullThunk.is c.requires.shorts in
    record { field_count_in_bounds = c.requires.field_count_in_bounds; short = (h, short-absent, short-absent) }

pub returns-in-NullThunk : goal.returns-in-NullThunk
returns-in-NullThunk c =
    filled-thunk c.args.read c.args.fields.now _ c.in-NullThunk.is c.put_values-in-NullThunk.ensures

pub put_values-requires-in-ShortImport : goal.put_values-requires-in-ShortImport
put_values-requires-in-ShortImport c =
    let h = shorts-as _ _ c.in-ShortImport.is c.requires.shorts in
    record { field_count_in_bounds = c.requires.field_count_in_bounds; short = h }

pub returns-in-ShortImport : goal.returns-in-ShortImport
returns-in-ShortImport c =
    filled-short c.args.read c.args.fields.now _ c.in-ShortImport.is c.put_values-in-ShortImport.ensures

pub put_values-requires-in-WeakExternal : goal.put_values-requires-in-WeakExternal
put_values-requires-in-WeakExternal c =
    let h = shorts-as _ _ c.in-WeakExternal.is c.requires.shorts in
    record { field_count_in_bounds = c.requires.field_count_in_bounds; short = (h.0, h.1, short-absent) }

pub returns-in-WeakExternal : goal.returns-in-WeakExternal
returns-in-WeakExternal c =
    filled-weak c.args.read c.args.fields.now _ c.in-WeakExternal.is c.put_values-in-WeakExternal.ensures
