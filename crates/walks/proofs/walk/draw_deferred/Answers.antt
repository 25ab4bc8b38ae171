-- `walks::walk::draw_deferred` meets its contract.
use Prim.Native.Nat.{ℕ, ◌+◌, ◌-◌, ◌≤◌, ◌<◌}
use mathlib.Core.Path.{◌≡◌, sym, ap}
use mathlib.Core.Bool.{Bool, false}
use mathlib.Core.List.{List}
use native.Mathlib.Omega.{arith}
use lib.ListN.{length, get_or}
use Rattle.wire.specs.Bytes.{Bytes}
use Rattle.format.specs.Exports.{field_at, absent_at, bytes_at, both_counts}
use Rattle.format.specs.Refusals.{check_list}
use Rattle.std.specs.Prelude.{Ok}
use Rattle.format.proofs.Listed.{listed}
use Rattle.lists.proofs.Records.{held, bytes-are, some-there}
use Rattle.plans.specs.Keys.{key_at, last_in}
use Rattle.plans.proofs.Publics.{string-length}
use Rattle.keys.specs.Targets.{target_of, Resolved}
use Rattle.walks.proofs.Pens.{room-as, drew-as}
use Rattle.walks.proofs.Records.{deferred-none, answers-below, answers-named, deferred-some}
use Rattle.walks.proofs.walk.draw_deferred.Goals as goal

-- the target that was found for a record of the list
target : {machine : ℕ} {mingw : Bool} {b : Bytes} {from to k : ℕ} {targets : List ℕ} → Resolved machine mingw b from (to - from) targets → (from ≤ k) × (k < to) × (to ≤ both_counts b)
    → absent_at b (field_at k 3) ≡ false → get_or targets k 0 ≡ target_of (last_in (key_at machine mingw b (bytes_at b (field_at k 3))) from (to - from))
target r (l, h, u) a = r.each _ l (omega arith) a

-- a list has 8,192 records at most
few : (b : Bytes) {from to k : ℕ} → check_list b ≡ Ok tt → (from ≤ k) × (k < to) × (to ≤ both_counts b) → from + (to - from) ≤ 8192
few b e (l, h, u) = let s = listed b e in omega (arith, s.shape.firsts, s.shape.natives)

below : (b : Bytes) {from to k t : ℕ} → t < from + (to - from) → (from ≤ k) × (k < to) × (to ≤ both_counts b) → t < both_counts b
below b i (l, h, u) = omega arith

pub unwrap-wanted-requires : goal.unwrap-wanted-requires
unwrap-wanted-requires c = some-there _ _ _ c.import_name.ensures c.requires.k_value

pub bounds-targets-r : goal.bounds-targets-r
bounds-targets-r c =
    let resolved = c.requires.resolved in
    let absent = c.requires.k_value in
    let (l, h, u) = c.requires.from_le_k in
    resolved.held _ l (omega arith) absent

pub draw_import-requires : goal.draw_import-requires
draw_import-requires c =
    let range = c.requires.from_le_k in
    let lengths = c.requires.dll_len_bound in
    let resolved = c.requires.resolved in
    let absent = c.requires.k_value in
    let none = deferred-none _ _ _ c.args.dll.now c.args.public.now _ _ _ (target resolved range absent) (bytes-are _ _ c.import_name.ensures c.unwrap-wanted.ensures) (few _ c.requires.b_value range) c.if-target.true in
    let short = string-length _ _ 3 c.args.r.held (omega arith) in
    record { room = room-as (sym none) c.requires.room; sym_len_bound = ((omega (arith, lengths.1), omega (arith, lengths.0)), (omega (arith, ap length (bytes-are _ _ c.import_name.ensures c.unwrap-wanted.ensures), short, c.args.r.held.few 3 (omega arith)), omega arith)) }

pub returns-then-target : goal.returns-then-target
returns-then-target c =
    let range = c.requires.from_le_k in
    let resolved = c.requires.resolved in
    let absent = c.requires.k_value in
    drew-as
    (deferred-none _ _ _ c.args.dll.now c.args.public.now _ _ _ (target resolved range absent) (bytes-are _ _ c.import_name.ensures c.unwrap-wanted.ensures) (few _ c.requires.b_value range) c.if-target.true)
    c.draw_import.ensures

pub overflow_cast-other : goal.overflow_cast-other
overflow_cast-other c =
    omega (arith, c.type_inv.targets c.args.r.index)

pub invariant_of-other : goal.invariant_of-other
invariant_of-other c =
    let range = c.requires.from_le_k in
    let is = target c.requires.resolved range c.requires.k_value in
    record { held = held _ _ c.requires.b_value (below _ (answers-below _ _ _ c.args.dll.now c.args.public.now _ _ _ is c.if-target.false) range) }

pub draw_alias_to-requires : goal.draw_alias_to-requires
draw_alias_to-requires c =
    let native = c.requires.not_arm64ec in
    let range = c.requires.from_le_k in
    let resolved = c.requires.resolved in
    let absent = c.requires.k_value in
    let is = target resolved range absent in
    let other = c.if-target.false in
    let dll = c.args.dll.now in
    let public = c.args.public.now in
    record { room = room-as (sym (deferred-some _ _ _ dll public _ _ _ is other native)) c.requires.room; other_value = answers-named _ _ _ dll public _ _ _ is other native; public_len_bound = c.requires.dll_len_bound.1 }

pub returns : goal.returns
returns c =
    let resolved = c.requires.resolved in
    let absent = c.requires.k_value in
    drew-as
    (deferred-some _ _ _ c.args.dll.now c.args.public.now _ _ _ (target resolved c.requires.from_le_k absent) c.if-target.false c.requires.not_arm64ec)
    c.draw_alias_to.ensures
