-- `library::set::write_resolved` meets its contract.
use Prim.Native.Nat.{ℕ, ◌≤◌, ◌<◌}
use mathlib.Core.Path.{◌≡◌, ◌∙◌}
use native.Mathlib.Omega.{arith}
use Rattle.wire.proofs.Parts.{octets}
use Rattle.laws.proofs.Accepted.{list-accepted}
use Rattle.library.proofs.MemberSets.{room-at, all-at, after-nothing, drew-after-nothing, measured-small, measured-total, set-room, set-written, written-15, written-total}
use Rattle.wire.specs.Bytes.{Bytes}
use Rattle.wire.specs.Writes.{Wrote}
use Rattle.library.specs.Sets.{header_bytes}
use Rattle.library.proofs.set.write_resolved.Goals as goal

less : {n t u : ℕ} → n < t → t ≡ u → n < u
less h e = omega arith

enough : {n t u : ℕ} → t ≤ n → t ≡ u → u ≤ n
enough h e = omega arith

headed : (firsts natives : ℕ) {l l' : Bytes} {at at₀ r : ℕ} → at ≡ at₀ → Wrote l 0 (header_bytes firsts natives at) l' r → Wrote l 0 (header_bytes firsts natives at₀) l' r
headed firsts natives e w = rw e at w

pub returns-then-room-total : goal.returns-then-room-total
returns-then-room-total c =
    let fine = c.requires.b_value in
    let (answer, left) = written-15 _ _ 8192 _ fine (omega arith)
    (less c.if-room-total.true (c.total_of-total.ensures ∙ measured-total _ _ (octets _ c.type_inv.b) fine c.measure-size.ensures.1))
    in (rw c.at.ensures answer, after-nothing _ _ c.measure-size.ensures.0 ∙ left)

pub draw_all-requires : goal.draw_all-requires
draw_all-requires c = record { room = room-at c.pen_at-pen.ensures.0 (c.pen_at-pen.ensures.1 ∙ c.entry_of-first_at.ensures) (set-room _ _ (octets _ c.type_inv.b) c.requires.b_value c.measure-size.ensures.1); b_value = list-accepted _ _ c.requires.b_value; resolved_all = c.requires.resolved_all }

pub put_header-requires : goal.put_header-requires
put_header-requires c =
    let (f, n, s, far, end) = measured-small _ _ (octets _ c.type_inv.b) c.requires.b_value c.measure-size.ensures.1 in
    (f, n, omega (arith, c.entry_of-first_at.ensures))

pub returns : goal.returns
returns c =
    let fine = c.requires.b_value in
    let total = c.total_of-total.ensures ∙ measured-total _ _ (octets _ c.type_inv.b) fine c.measure-size.ensures.1 in
    let fits = enough c.if-room-total.false total in
    written-total _ _ 8192 _ fine (omega arith) fits total
    (set-written _ _ (octets _ c.type_inv.b) fine c.measure-size.ensures.1 fits (drew-after-nothing _ _ c.measure-size.ensures.0 (all-at c.pen_at-pen.ensures.0 (c.pen_at-pen.ensures.1 ∙ c.entry_of-first_at.ensures) c.draw_all.ensures)) (headed _ _ c.entry_of-first_at.ensures c.put_header.ensures))
