-- `finds::layouts::find_short_as` meets its contract.
use Prim.Native.Nat.{ℕ, ◌+◌}
use mathlib.Core.Path.{◌≡◌, sym, ap, ◌∙◌}
use mathlib.Core.List.{[], ◌∷◌, ◌++◌}
use native.Mathlib.Omega.{arith}
use lib.ListN.{length}
use Rattle.wire.specs.Bytes.{Bytes}
use Rattle.wire.proofs.Writes.{◌⨟◌, found-as}
use Rattle.format.specs.Layouts.{import_header, strings}
use Rattle.layout.proofs.Runs.{strings-append}
use Rattle.laws.proofs.Lengths.{length-strings-nil, length-strings-cons}
use Rattle.finds.proofs.layouts.find_short_as.Goals as goal

size : (s dll x : Bytes) → length s + 1 + length dll + 1 + length x + 1 ≡ length (strings (s ∷ dll ∷ x ∷ []))
size s dll x = simp (length-strings-nil, length-strings-cons) (omega arith)

pub returns : goal.returns
returns c =
    let s = c.args.symbol.now in
    let d = c.args.dll.now in
    let x = c.args.export.now in
    let h = found-as (ap (λ (n : ℕ). import_header c.args.machine n c.args.ordinal c.args.types) (size s d x)) c.find-a.ensures in
    h ⨟ found-as (sym (strings-append (s ∷ d ∷ []) (x ∷ []) ∙ ap (λ (l : Bytes). l ++ strings (x ∷ [])) (strings-append (s ∷ []) (d ∷ [])))) (c.find_text-b.ensures ⨟ c.find_text-c.ensures ⨟ c.find_text.ensures)
