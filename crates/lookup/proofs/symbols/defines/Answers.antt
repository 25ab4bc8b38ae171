-- `lookup::symbols::defines` meets its contract.
use Rattle.lookup.proofs.Saying.{said-as, said-fixed}
use Rattle.lookup.proofs.Defining.{mute-defines, short-defines, weak-defines}
use Rattle.lookup.proofs.symbols.defines.Goals as goal

pub part-name-requires : goal.part-name-requires
part-name-requires c = (said-as _ _ c.requires c.in-ShortImport.is).symbol.inside

pub part-requires : goal.part-requires
part-requires c = (said-as _ _ c.requires c.in-WeakExternal.is).from.inside

pub returns-in-ShortImport : goal.returns-in-ShortImport
returns-in-ShortImport c =
    short-defines _ (said-as _ _ c.requires c.in-ShortImport.is) c.part-name.ensures c.defines_short.ensures

pub returns-in-WeakExternal : goal.returns-in-WeakExternal
returns-in-WeakExternal c =
    weak-defines _ (said-as _ _ c.requires c.in-WeakExternal.is) c.part.ensures c.same.ensures

pub returns-in-Descriptor : goal.returns-in-Descriptor
returns-in-Descriptor c = mute-defines _ _ (said-fixed _ c.requires c.in-Descriptor.is)
