use Rattle.std.proofs.Common.{◌≡◌, ◌≤◌, ◌+◌, ◌-◌, ◌++◌, ℕ, List, length, take, ap, ◌∙◌, append_assoc, rules}
use Rattle.std.specs.Prelude.{Option, None, Some}
use Rattle.std.specs.Io.KnownBytes.{Consumes}
use Rattle.std.proofs.Math.Seq.{take-append-add, length-take-le}
use Rattle.std.proofs.lemmas.List.{take-append-le}
use borrow.Rule.Slice.PartMut.{put_mid, post_of}
use Rattle.input.proofs.read_full.Goals as goal

-- what stands in a slice up to n places past a, after a write to the part from a on
take-put_mid-part : (a k n : ℕ) (xs ys : List ℕ) → a ≤ length xs → n ≤ length ys → take (a + n) (put_mid a k xs ys) ≡ take a xs ++ take n ys
take-put_mid-part a k n xs ys h i =
    let e : length (take a xs) ≡ a = length-take-le a xs h in
    let seam : take (length (take a xs) + n) (put_mid a k xs ys) ≡ take a xs ++ take n (ys ++ post_of a k xs) = take-append-add (take a xs) (ys ++ post_of a k xs) n in
    (rw e at seam)
    ∙ ap (λ (t : List ℕ). take a xs ++ t) (take-append-le n ys (post_of a k xs) i)

-- what was taken, and what was taken then
consumes-more : (x y z : Option (List ℕ)) (p q : List ℕ) → Consumes x y p → Consumes y z q → Consumes x z (p ++ q)
consumes-more None y z p q e f = tt
consumes-more (Some xs) None z p q e f = elim e [ ]
consumes-more (Some xs) (Some ys) None p q e f = elim f [ ]
consumes-more (Some xs) (Some ys) (Some zs) p q e f = rw (e, f) (rw append_assoc)

pub loop-done-preserved : goal.loop-done-preserved
loop-done-preserved g c =
    let part = take-put_mid-part c.loop-done.done (length c.loop-done.buf - c.loop-done.done) c.in_ok-n.n c.loop-done.buf c.read.new.buf c.loop-done.invariant.0 c.in_ok-n.ensures.bound.0 in
    (search rules, rw part (consumes-more _ _ _ _ _ c.loop-done.invariant.1 c.in_ok-n.ensures.bytes.0))
