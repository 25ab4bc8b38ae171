-- `reader::answers::as_short` meets its contract.
use Prim.Native.Nat.{◌<◌, ◌/◌, ◌%◌}
use mathlib.Core.Path.{sym, ◌∙◌}
use mathlib.Core.List.{[]}
use native.Mathlib.Omega.{arith}
use Rattle.reader.proofs.Admitting.{clear-as}
use Rattle.reader.proofs.Answering.{barred, lost, found, names-most, short-unfit, short-unexported, short-found, short-fields}
use borrow.Author.Rules.{rules}
use Rattle.reader.proofs.answers.as_short.Goals as goal

pub admits_names-requires : goal.admits_names-requires
admits_names-requires c =
    (clear-as _ _ c.requires.symbol_value, clear-as _ _ c.requires.dll_value)

pub returns-then-not-admits_names : goal.returns-then-not-admits_names
returns-then-not-admits_names c =
    let o : c.args.ordinal < 65536 = search rules in barred _ _
    (short-unfit c.args.machine c.args.ordinal (c.args.types % 4) (c.args.types / 4) c.args.symbol.now c.args.dll.now [] c.requires.types_value o (sym c.admits_names.ensures ∙ c.if-not-admits_names.true))

pub find_short-requires : goal.find_short-requires
find_short-requires c =
    record {
      symbol_len_bound = names-most 65536 _ _ (sym c.admits_names.ensures ∙ c.if-not-admits_names.false) (omega arith);
      symbol_value = c.requires.symbol_value;
      dll_value = c.requires.dll_value;
    }

pub returns-then-find_short-b : goal.returns-then-find_short-b
returns-then-find_short-b c =
    let o : c.args.ordinal < 65536 = search rules in let n = sym c.admits_names.ensures ∙
    c.if-not-admits_names.false in lost _ _
    (short-unexported c.args.machine c.args.ordinal (c.args.types % 4) (c.args.types / 4) c.args.symbol.now c.args.dll.now c.requires.types_value o n c.requires.not_exportas)
    (short-found c.args.machine c.args.ordinal c.args.types c.args.symbol.now c.args.dll.now c.requires.not_exportas c.find_short.ensures)
    (λ e. omega (arith, c.if-find_short-b.true))

pub returns : goal.returns
returns c =
    let o : c.args.ordinal < 65536 = search rules in
    let n = sym c.admits_names.ensures ∙ c.if-not-admits_names.false in
    found _ _ (short-unexported c.args.machine c.args.ordinal (c.args.types % 4) (c.args.types / 4) c.args.symbol.now c.args.dll.now c.requires.types_value o n c.requires.not_exportas)
    (short-found c.args.machine c.args.ordinal c.args.types c.args.symbol.now c.args.dll.now c.requires.not_exportas c.find_short.ensures) c.if-find_short-b.false
    (short-fields c.args.machine c.args.ordinal (c.args.types % 4) (c.args.types / 4) c.args.symbol.now c.args.dll.now [] c.requires.not_exportas)
