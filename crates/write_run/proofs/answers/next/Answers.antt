-- `write_run::answers::next` meets its contract.
use Prim.Native.Nat.{◌+◌}
use mathlib.Core.Path.{◌≡◌, sym, ap, ◌∙◌}
use native.Mathlib.Omega.{arith}
use Rattle.write_run.specs.Cases.{word_at, after_at, answer_at}
use Rattle.write_run.proofs.Places.{next-written, next-refused, next-past, next-within}
use Rattle.write_run.proofs.answers.next.Goals as goal

pub returns-then-word-eq0 : goal.returns-then-word-eq0
returns-then-word-eq0 c =
    let t = c.args.t.now in
    let at = c.args.at in
    let answer = c.answer-answer.ensures.0 in
    let number = sym (c.word.ensures ∙ ap (λ x. word_at t (x + 4)) answer) ∙ c.if-word-eq0.true in
    let e = next-written t at c.after.result number (c.after.ensures.0 ∙ ap (λ x. after_at t (x + 8)) answer) in
    (e, omega (arith, e, next-past t at (omega arith)), omega arith)

pub returns : goal.returns
returns c =
    let t = c.args.t.now in
    let at = c.args.at in
    let answer = c.answer-answer.ensures.0 in
    let number : word_at t (answer_at t at + 4) ≡ 0 → ⊥ = λ z. c.if-word-eq0.false (c.word.ensures ∙ ap (λ x. word_at t (x + 4)) answer ∙ z) in
    let e = ap (λ x. x + 8) answer ∙ next-refused t at number in
    (e, omega (arith, e, next-past t at (omega arith)), omega (arith, e, next-within t at number))
