use mathlib.Core.Path.{sym, ap, ◌∙◌}
use native.Mathlib.Omega.{arith}
use borrow.Author.Rules.{rules}
use Rattle.search.specs.Search.{place_of}
use Rattle.search.proofs.Searches.{find-start, find-empty, find-here, find-later, find-short, skipped, agree-later, agree-stop, agree-end}
use Rattle.search.proofs.find.Goals as goal

pub returns-in_default : goal.returns-in_default
returns-in_default c = sym (ap place_of (find-empty _ _ c.in_default.ensures.value))

pub search-init : goal.search-init
search-init c = (search rules, find-start _ _)

pub returns-then-n-k : goal.returns-then-n-k
returns-then-n-k c =
    let from = skipped c.args.pattern.now c.args.text.now c.search.i c.skip-k.result c.in-Some.ensures.value c.search.invariant.0 c.skip-k.ensures.0 c.search.invariant.1 in
    sym (ap place_of (sym from ∙ find-short _ _ c.skip-k.result c.skip-k.ensures.1 (omega (arith, c.skip-k.ensures.1))))

pub loop-j-preserved : goal.loop-j-preserved
loop-j-preserved c =
    let k = c.skip-k.result in
    (omega arith, c.loop-j.invariant.1 ∙ agree-later c.args.pattern.now c.args.text.now k c.loop-j.j (omega arith) (omega arith) c.if-text-k.false)

pub search-preserved : goal.search-preserved
search-preserved c =
    let from = skipped c.args.pattern.now c.args.text.now c.search.i c.skip-k.result c.in-Some.ensures.value c.search.invariant.0 c.skip-k.ensures.0 c.search.invariant.1 in
    let no = c.loop-j.invariant.1 ∙ agree-stop c.args.pattern.now c.args.text.now c.skip-k.result c.loop-j.j (omega arith) (omega arith) c.if-text-k.true in
    (omega arith, sym (find-later _ _ c.skip-k.result c.skip-k.ensures.1 no) ∙ from)

pub returns : goal.returns
returns c =
    let from = skipped c.args.pattern.now c.args.text.now c.search.i c.skip-k.result c.in-Some.ensures.value c.search.invariant.0 c.skip-k.ensures.0 c.search.invariant.1 in
    let yes = c.loop-j.invariant.1 ∙ agree-end c.args.pattern.now c.args.text.now c.skip-k.result c.loop-j.j (omega arith) in
    sym (ap place_of (sym from ∙ find-here _ _ c.skip-k.result c.skip-k.ensures.1 yes))
