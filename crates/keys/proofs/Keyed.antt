-- The keys of records: one at most for each.
use Rattle.std.specs.Prelude.{if◌then◌else◌}
use Rattle.std.proofs.Common.{◌≡◌, ℕ, Bool, true, false, sym, ◌∙◌}
use mathlib.Core.Bool.{false≢true}
use Rattle.wire.specs.Bytes.{Bytes, same}
use Rattle.wire.proofs.Bytes.{same-eq, same-refl}
use Rattle.format.specs.Exports.{is_private, export_at}
use Rattle.format.specs.Names.{apply}
use Rattle.format.specs.Plan.{Plan, plain, deferred, refused, plan}
use Rattle.format.specs.Library.{answers_to}
use Rattle.plans.specs.Keys.{key_at}

pub key-one : (machine : ℕ) (mingw : Bool) (b w v : Bytes) (k : ℕ) → key_at machine mingw b w k ≡ true → key_at machine mingw b v k ≡ true → w ≡ v
unfolding key_at answers_to
key-one machine mingw b w v k e f = pick (is_private (export_at b k)) (plan machine mingw (export_at b k)) e f
  where
    pick : (q : Bool) (p : Plan) → (if q then false else answers_to w p) ≡ true → (if q then false else answers_to v p) ≡ true → w ≡ v
    pick true p e f = absurd (false≢true e)
    pick false (plain g t x) e f = sym (same-eq _ _ e) ∙ same-eq _ _ f
    pick false (deferred g x) e f = absurd (false≢true e)
    pick false (refused n) e f = absurd (false≢true e)

-- what a type leaves of a name answers to itself
pub applied-same : {w : Bytes} (t : ℕ) (p : Bytes) → w ≡ apply t p → true ≡ same (apply t p) w
applied-same t p e = rw e (sym (same-refl (apply t p)))
