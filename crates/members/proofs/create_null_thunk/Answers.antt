-- `members::create_null_thunk` meets its contract.
use Prim.Native.Nat.{ℕ}
use mathlib.Core.Path.{ap, ◌∙◌}
use Rattle.wire.proofs.Writes.{wrote-as}
use Rattle.format.specs.Layouts.{null_thunk_bytes, thunk_name, encode, slot_size}
use Rattle.members.proofs.create_null_thunk.Goals as goal

pub returns : goal.returns
unfolding encode
returns c =
    let m = c.args.machine.number in
    let t = thunk_name c.args.stem.now in
    wrote-as (ap (λ (n : ℕ). null_thunk_bytes m n c.slot_alignment-alignment.result t) c.slot_size-slot.ensures.0
    ∙ ap (λ (n : ℕ). null_thunk_bytes m (slot_size m) n t) c.slot_alignment-alignment.ensures.0)
    c.put_null_thunk.ensures
