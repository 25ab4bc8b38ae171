-- `reader::answers::as_short_as` meets its contract.
use Prim.Native.Nat.{◌<◌, ◌/◌, ◌%◌}
use mathlib.Core.Path.{sym, ◌∙◌}
use native.Mathlib.Omega.{arith}
use Rattle.reader.proofs.Admitting.{clear-as}
use Rattle.reader.proofs.Answering.{barred, lost, found, between-most, names-most, short-unfit, short-exported-by, short-as-found, short-as-fields}
use borrow.Author.Rules.{rules}
use Rattle.reader.proofs.answers.as_short_as.Goals as goal

pub admits_names-requires : goal.admits_names-requires
admits_names-requires c =
    (clear-as _ _ c.requires.symbol_value, clear-as _ _ c.requires.dll_value)

pub returns-then-not-admits_names : goal.returns-then-not-admits_names
returns-then-not-admits_names c =
    let o : c.args.ordinal < 65536 = search rules in barred _ _
    (short-unfit c.args.machine c.args.ordinal (c.args.types % 4) (c.args.types / 4) c.args.symbol.now c.args.dll.now c.args.export.now c.requires.types_value o (sym c.admits_names.ensures ∙ c.if-not-admits_names.true))

pub fits-requires : goal.fits-requires
fits-requires c =
    clear-as _ _ c.requires.export_value

pub returns-then-not-fits : goal.returns-then-not-fits
returns-then-not-fits c =
    let o : c.args.ordinal < 65536 = search rules in let n = sym c.admits_names.ensures ∙
    c.if-not-admits_names.false in barred _ _
    (short-exported-by c.args.machine c.args.ordinal (c.args.types % 4) (c.args.types / 4) c.args.symbol.now c.args.dll.now c.args.export.now c.requires.types_value o n c.requires.types_value_2 (sym c.fits.ensures ∙ c.if-not-fits.true))

pub find_short_as-requires : goal.find_short_as-requires
find_short_as-requires c =
    let n = sym c.admits_names.ensures ∙ c.if-not-admits_names.false in
    let x = sym c.fits.ensures ∙ c.if-not-fits.false in
    record { symbol_len_bound = names-most 65536 _ _ n (omega arith); symbol_value = c.requires.symbol_value; dll_value = c.requires.dll_value; export_len_bound = between-most 1 8190 65536 _ x (omega arith); export_value = c.requires.export_value }

pub returns-then-find_short_as-b : goal.returns-then-find_short_as-b
returns-then-find_short_as-b c =
    let o : c.args.ordinal < 65536 = search rules in let n = sym c.admits_names.ensures ∙
    c.if-not-admits_names.false in let x = sym c.fits.ensures ∙ c.if-not-fits.false in lost _ _
    (short-exported-by c.args.machine c.args.ordinal (c.args.types % 4) (c.args.types / 4) c.args.symbol.now c.args.dll.now c.args.export.now c.requires.types_value o n c.requires.types_value_2 x)
    (short-as-found c.args.machine c.args.ordinal c.args.types c.args.symbol.now c.args.dll.now c.args.export.now c.requires.types_value_2 c.find_short_as.ensures)
    c.if-find_short_as-b.true

pub overflow_add-result-6 : goal.overflow_add-result-6
overflow_add-result-6 c =
    let n = sym c.admits_names.ensures ∙ c.if-not-admits_names.false in
    let (h, k) = names-most 8190 _ _ n (omega arith) in
    omega (arith, h, k)

pub returns : goal.returns
returns c =
    let o : c.args.ordinal < 65536 = search rules in let n = sym c.admits_names.ensures ∙
    c.if-not-admits_names.false in let x = sym c.fits.ensures ∙ c.if-not-fits.false in found _ _
    (short-exported-by c.args.machine c.args.ordinal (c.args.types % 4) (c.args.types / 4) c.args.symbol.now c.args.dll.now c.args.export.now c.requires.types_value o n c.requires.types_value_2 x)
    (short-as-found c.args.machine c.args.ordinal c.args.types c.args.symbol.now c.args.dll.now c.args.export.now c.requires.types_value_2 c.find_short_as.ensures)
    c.if-find_short_as-b.false (short-as-fields c.args.machine c.args.ordinal (c.args.types % 4) (c.args.types / 4) c.args.symbol.now c.args.dll.now c.args.export.now c.requires.types_value_2)
