-- `wire::find_words` meets its contract.
use native.Mathlib.Omega.{arith}
use mathlib.Core.Bool.{false≢true}
use mathlib.Core.Path.{refl, sym, ap, ◌∙◌}
use Rattle.std.proofs.lemmas.Slice.{between_to_end}
use lib.ListN.{length, take}
use lib.Seq.{length-take-le}
use Rattle.wire.specs.Bytes.{part}
use Rattle.wire.proofs.Bytes.{same-eq}
use Rattle.wire.proofs.Writes.{found-there, found-differ, found-short, found-nowhere}
use Rattle.wire.proofs.find_words.Goals as goal
use Rattle.wire.proofs.find_words.Goals.{in_default-via-in-Some+then-b-rest+else-same_words, in_default-via-in-Some+else-b-rest, in_default-via-in_default}

pub same_words-requires : goal.same_words-requires
same_words-requires c = record { a_len = length-take-le _ _ (omega (arith, c.in-Some.ensures.lookup.0)); b_len = c.requires }

pub returns-in-Some : goal.returns-in-Some
unfolding part
returns-in-Some c =
    let e = c.in-Some.ensures.lookup.0 in
    let n = length c.args.b.now in
    let s = c.args.s.now in
    found-there s c.args.at c.args.b.now n refl (omega arith)
    (ap (take n) (sym (e.2 ∙ between_to_end s c.args.at (length s) (omega arith))) ∙ same-eq _ _ (sym c.same_words.ensures ∙ c.if-same_words.true))

pub returns-in_default : goal.returns-in_default
unfolding part
returns-in_default c =
    let s = c.args.s.now in
    let n = length c.args.b.now in
    elim c.in_default.branch [
      | in_default-via-in-Some+then-b-rest+else-same_words w ↦
          let e = w.in-Some.ensures.lookup.0 in
          found-differ s c.args.at c.args.b.now n refl (ap (take n) (e.2 ∙ between_to_end s c.args.at (length s) (omega arith))) (sym w.same_words.ensures ∙ w.if-same_words.false)
      | in_default-via-in-Some+else-b-rest w ↦ found-short s c.args.at c.args.b.now n refl (omega (arith, w.in-Some.ensures.lookup.0))
      | in_default-via-in_default w ↦ found-nowhere (λ h. false≢true (w.in_default.ensures.lookup.1 (h.inside, omega arith)))
    ]
