use Prim.Native.Nat.{◌+◌}
use borrow.Author.Rules.{rules}
use mathlib.Core.Path.{refl, sym, ◌∙◌}
use native.Mathlib.Omega.{arith}
use Rattle.wire.proofs.Parts.{octets, same-word, same-word-differ, same-all}
use Rattle.wire.proofs.same_words.Goals as goal

pub loop-i-init : goal.loop-i-init
loop-i-init c = (search rules, refl)

pub returns-then-u32_at : goal.returns-then-u32_at
returns-then-u32_at c =
    sym (same-word-differ _ _ _ (λ e. c.if-u32_at.true (c.u32_at.ensures ∙ e ∙ sym c.u32_at-in-loop-i.ensures)))

pub loop-i-preserved : goal.loop-i-preserved
loop-i-preserved c =
    let o = octets _ c.type_inv.a in
    let p = octets _ c.type_inv.b in
    let e = sym c.u32_at.ensures ∙ c.if-u32_at.false ∙ c.u32_at-in-loop-i.ensures in
    (search rules, same-word _ _ c.loop-i.i o p (omega arith) (omega arith) e c.loop-i.invariant.1)

pub returns : goal.returns
returns c = sym (same-all _ _ c.loop-i.i (omega arith) (omega arith) c.loop-i.invariant.1)

pub returns-else-u32_at : goal.returns-else-u32_at
returns-else-u32_at c =
    let o = octets _ c.type_inv.a in
    let p = octets _ c.type_inv.b in
    let e = sym c.u32_at.ensures ∙ c.if-u32_at.false ∙ c.u32_at-in-loop-i.ensures in
    sym (same-all _ _ (c.loop-i.i + 4) (omega arith) (omega arith) (same-word _ _ c.loop-i.i o p (omega arith) (omega arith) e c.loop-i.invariant.1))
