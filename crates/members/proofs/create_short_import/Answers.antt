-- `members::create_short_import` meets its contract.
use Prim.Native.Nat.{ℕ, ◌+◌, ◌-◌, ◌*◌}
use mathlib.Core.List.{[], ◌∷◌, ◌++◌}
use mathlib.Core.Path.{◌≡◌, ap}
use native.Mathlib.Omega.{arith}
use lib.ListN.{length, length-append}
use Rattle.wire.proofs.Writes.{◌⨾◌, wrote-as}
use Rattle.format.specs.Layouts.{import_header, strings}
use Rattle.coff.specs.Import.{type_number}
use Rattle.layout.proofs.Runs.{◌⊞◌}
use Rattle.members.proofs.Cases.{type-small, kind-small, short-exported, short-plain}
use Rattle.members.proofs.Extending as extent
use Rattle.members.proofs.Sizes.{short-within, size-exported, size-short}
use Rattle.members.proofs.create_short_import.Goals as goal

-- either of the two numbers would fit above the other: which one stands there is told by what is returned
pub overflow_mul-types : goal.overflow_mul-types
overflow_mul-types c =
    omega (arith, c.number-number.ensures, type-small c.args.name_type, kind-small c.args.import_type)

pub overflow_add-types : goal.overflow_add-types
overflow_add-types c =
    omega (arith, c.number-number.ensures, c.number.ensures, type-small c.args.name_type, kind-small c.args.import_type)

-- the size is that of the layout, so that its header goes from it
pub overflow_sub-size : goal.overflow_sub-size
overflow_sub-size c =
    omega (arith, c.short_size-size.ensures 0 0 0, short-within 0 0 0 (type_number c.args.name_type) c.args.sym.now c.args.dll.now (c.args.head.now ++ c.args.tail.now))

pub overflow_cast-size : goal.overflow_cast-size
overflow_cast-size c =
    omega (arith, c.short_size-size.ensures 0 0 0, short-within 0 0 0 (type_number c.args.name_type) c.args.sym.now c.args.dll.now (c.args.head.now ++ c.args.tail.now), length-append c.args.head.now c.args.tail.now)

pub returns-then-number-eq-EXPORT_AS : goal.returns-then-number-eq-EXPORT_AS
returns-then-number-eq-EXPORT_AS c =
    let s = c.args.sym.now in
    let d = c.args.dll.now in
    let h = c.args.head.now in
    let t = c.args.tail.now in
    let types = c.number-number.result * 4 + c.number.result in
    let e : c.short_size-size.result - 20 ≡ length (strings (s ∷ d ∷ (h ++ t) ∷ [])) =
    omega (arith, c.short_size-size.ensures 0 0 0, extent.short-exported 0 0 0 _ _ s d h t c.number-number.ensures c.if-number-eq-EXPORT_AS.true, size-exported s d h t) in
    wrote-as
    (short-exported c.args.machine c.args.ordinal _ _ _ _ s d (h ++ t) c.number-number.ensures c.number.ensures c.if-number-eq-EXPORT_AS.true)
    (wrote-as (ap (λ (n : ℕ). import_header c.args.machine n c.args.ordinal types) e) c.write-a.ensures
    ⨾ (c.put_string-b.ensures ⊞ c.put_string-c.ensures ⊞ c.put_pieces.ensures).wrote)

pub returns : goal.returns
returns c =
    let s = c.args.sym.now in
    let d = c.args.dll.now in
    let h = c.args.head.now in
    let t = c.args.tail.now in
    let types = c.number-number.result * 4 + c.number.result in
    let e : c.short_size-size.result - 20 ≡ length (strings (s ∷ d ∷ [])) =
    omega (arith, c.short_size-size.ensures 0 0 0, extent.short-plain 0 0 0 _ _ s d h t c.number-number.ensures c.if-number-eq-EXPORT_AS.false, size-short s d) in
    wrote-as
    (short-plain c.args.machine c.args.ordinal _ _ _ _ s d (h ++ t) c.number-number.ensures c.number.ensures c.if-number-eq-EXPORT_AS.false)
    (wrote-as (ap (λ (n : ℕ). import_header c.args.machine n c.args.ordinal types) e) c.write-a.ensures
    ⨾ (c.put_string-b.ensures ⊞ c.put_string-c.ensures).wrote)
