-- `reader::read_short` meets its contract.
use Prim.Native.Nat.{◌+◌}
use mathlib.Core.Path.{sym, ap, ◌∙◌}
use native.Mathlib.Omega.{arith}
use lib.ListN.{length}
use Rattle.reader.specs.Answers.{answer}
use Rattle.reader.proofs.Answering.{barred}
use Rattle.finds.proofs.Texts.{length-text}
use Rattle.reader.proofs.Guessing.{short-plain-guessed, short-as-guessed, short-types-barred}
use Rattle.reader.proofs.read_short.Goals as goal

pub returns-then-not-admits_types : goal.returns-then-not-admits_types
returns-then-not-admits_types c =
    barred _ _ (short-types-barred _ c.read-h.ensures (sym c.admits_types.ensures ∙ c.if-not-admits_types.true))

pub overflow_add-dll_at-then-name_type-eq-EXPORT_AS : goal.overflow_add-dll_at-then-name_type-eq-EXPORT_AS
overflow_add-dll_at-then-name_type-eq-EXPORT_AS c =
    let b = c.args.b.now in
    omega (arith, ap length c.text-symbol.ensures, ap length c.text-dll.ensures, length-text b 20, length-text b (20 + (length c.text-symbol.result.now + 1)))

pub as_short_as-requires : goal.as_short_as-requires
as_short_as-requires c = record { types_value = sym c.admits_types.ensures ∙ c.if-not-admits_types.false; types_value_2 = c.if-name_type-eq-EXPORT_AS.true; symbol_value = c.text-symbol.ensures; dll_value = c.text-dll.ensures; export_value = c.text.ensures }

pub returns-then-name_type-eq-EXPORT_AS : goal.returns-then-name_type-eq-EXPORT_AS
returns-then-name_type-eq-EXPORT_AS c =
    c.as_short_as.ensures ∙ ap (answer c.args.b.now)
    (short-as-guessed _ c.read-h.ensures c.text-symbol.ensures c.text-dll.ensures c.text.ensures c.if-name_type-eq-EXPORT_AS.true)

pub as_short-requires : goal.as_short-requires
as_short-requires c = record { types_value = sym c.admits_types.ensures ∙ c.if-not-admits_types.false; not_exportas = c.if-name_type-eq-EXPORT_AS.false; symbol_value = c.text-symbol.ensures; dll_value = c.text-dll.ensures }

pub returns : goal.returns
returns c =
    c.as_short.ensures ∙ ap (answer c.args.b.now)
    (short-plain-guessed _ c.read-h.ensures c.text-symbol.ensures c.text-dll.ensures c.if-name_type-eq-EXPORT_AS.false)
