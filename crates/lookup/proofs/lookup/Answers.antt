-- `lookup::lookup` meets its contract.
use Rattle.std.specs.Prelude.{Err}
use mathlib.Core.Path.{refl, sym, ap, ◌∙◌}
use native.Mathlib.Omega.{arith}
use Rattle.std.proofs.lemmas.Result.{MatchResult-at_ok, MatchResult-at_err}
use Rattle.wire.specs.Bytes.{Bytes}
use Rattle.format.specs.Lookup.{lookup}
use Rattle.format.proofs.Rows.{passed-on}
use Rattle.lookup.proofs.Laying.{laid-count}
use Rattle.lookup.proofs.Refusing.{set-kept, set-refused}
use Rattle.lookup.proofs.Ordering.{unlaid, set-whole}
use Rattle.lookup.proofs.Numbering.{lookup-refused, looked-first, looked-native, looked-other}
use Rattle.lookup.proofs.lookup.Goals as goal

pub returns-in_err-set : goal.returns-in_err-set
returns-in_err-set c =
    let q = MatchResult-at_err _ _ _ c.in_err-set.was c.new.ensures in
    passed-on _ c.from_residual.ensures.1 ∙ ap Err q.0 ∙ lookup-refused _ _ _ (unlaid _ q.1)

pub invariant_of-first : goal.invariant_of-first
invariant_of-first c =
    record { within = (omega arith, omega arith, omega (arith, c.firsts-natives.ensures.0, laid-count _ c.in_ok-set.set.laid)) }

pub returns-then-list-eq-FIRST_LIST : goal.returns-then-list-eq-FIRST_LIST
returns-then-list-eq-FIRST_LIST c =
    looked-first _ _ _ c.if-list-eq-FIRST_LIST.true c.firsts-natives.ensures.0 c.look.ensures
    ∙ ap (λ (b : Bytes). lookup b c.args.list c.args.symbol.now) (MatchResult-at_ok _ _ _ c.in_ok-set.was c.new.ensures)

pub invariant_of-native : goal.invariant_of-native
invariant_of-native c =
    let laid = c.in_ok-set.set.laid in
    record { within = (omega arith, omega (arith, c.firsts-natives.ensures.0, c.count-n.ensures.0, laid-count _ laid), omega (arith, c.count-n.ensures.0)) }

pub returns-then-list-eq-NATIVE_LIST : goal.returns-then-list-eq-NATIVE_LIST
returns-then-list-eq-NATIVE_LIST c =
    looked-native _ _ _ c.if-list-eq-NATIVE_LIST.true c.firsts-natives.ensures.0 c.count-n.ensures.0 c.look-then-list-eq-NATIVE_LIST.ensures
    ∙ ap (λ (b : Bytes). lookup b c.args.list c.args.symbol.now) (MatchResult-at_ok _ _ _ c.in_ok-set.was c.new.ensures)

pub returns-in_err-check : goal.returns-in_err-check
returns-in_err-check c =
    let k = set-refused _ _ (sym c.check.ensures ∙ c.in_err-check.was) in
    passed-on _ c.from_residual-in_err-check.ensures.1 ∙ ap Err k.1
    ∙ lookup-refused _ _ _ (set-whole _ c.in_ok-set.set.laid c.count-n.ensures.0 refl ∙ k.0)
    ∙ ap (λ (b : Bytes). lookup b c.args.list c.args.symbol.now) (MatchResult-at_ok _ _ _ c.in_ok-set.was c.new.ensures)

pub returns : goal.returns
returns c =
    let k = set-kept _ _ (sym c.check.ensures ∙ c.in_ok-check.was) in
    looked-other _ _ _ c.if-list-eq-FIRST_LIST.false c.if-list-eq-NATIVE_LIST.false
    (set-whole _ c.in_ok-set.set.laid c.count-n.ensures.0 refl ∙ k.0)
    ∙ ap (λ (b : Bytes). lookup b c.args.list c.args.symbol.now) (MatchResult-at_ok _ _ _ c.in_ok-set.was c.new.ensures)
