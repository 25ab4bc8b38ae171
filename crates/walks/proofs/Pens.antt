-- Laws of members drawn: nothing, one, one list after another; and of the room that they take.
use Prim.Native.Nat.{ℕ, ◌+◌, ◌*◌, ◌≤◌, ◌<◌}
use mathlib.Core.Path.{◌≡◌, refl, sym, ap, ap₂, ◌∙◌}
use mathlib.Core.Bool.{Bool}
use mathlib.Core.List.{List, [], ◌∷◌, ◌++◌, map, append-nil, map-append}
use native.Mathlib.Nat.{add-zero}
use native.Mathlib.Omega.{arith}
use lib.ListN.{length, length-append, length-map}
use Rattle.wire.specs.Bytes.{Bytes, le32, join}
use Rattle.wire.specs.Writes.{over, Wrote}
use Rattle.wire.proofs.Writes.{over-nil, over-over, over-comm, over-out, length-over, ◌⨾◌}
use Rattle.format.specs.Names.{stem}
use Rattle.format.specs.Layouts.{Member, descriptor, null_descriptor, null_thunk, compat_stem, encode}
use Rattle.format.specs.Library.{entry_size, directory}
use Rattle.laws.proofs.Totals.{length-directory}
use Rattle.wire.proofs.Bytes.{join-append}
use Rattle.walks.specs.Pen.{Room, Drew, Noted, fixed_of}

-- ---- directories, one after another

directory-append : (at : ℕ) (a b : List Bytes) → directory at (a ++ b) ≡ directory at a ++ directory (at + length (join a)) b
unfolding directory join
directory-append at [] b = rw (add-zero at)
directory-append at (x ∷ a) b =
    let place : at + length x + length (join a) ≡ at + length (x ++ join a) = omega (arith, length-append x (join a)) in
    ap (λ (t : Bytes). le32 at ++ le32 (length x) ++ t) (directory-append (at + length x) a b ∙ ap (λ (k : ℕ). directory (at + length x) a ++ directory k b) place)

-- ---- Drew

pub drew-none : (l : Bytes) (entry at : ℕ) → Drew l entry at [] l entry at
unfolding directory join
drew-none l entry at =
    record {
      bytes = sym (over-nil entry (over at [] l) ∙ over-nil at l);
      entries = omega arith;
      next = omega arith;
    }

-- a member written, and then its entry
pub drew-noted : {l l₁ l₂ : Bytes} {entry at place next size entry' at' : ℕ} (m : Member) → size ≡ length (encode m) → place ≡ at → Wrote l place (encode m) l₁ next
    → Noted l₁ entry at size l₂ entry' at' → Drew l entry at (m ∷ []) l₂ entry' at'
unfolding directory join
drew-noted {l} {l₁} {l₂} {entry} {at} {place} {next} {size} {entry'} {at'} m e p w n =
    record {
      bytes =
          n.wrote.bytes ∙ ap₂ (λ (k : ℕ) (t : Bytes). over entry (le32 at ++ le32 k) t) e (w.bytes ∙ ap₂ (λ (k : ℕ) (t : Bytes). over k t l) p (sym (append-nil (encode m))));
      entries = omega (arith, n.entries);
      next = n.ends ∙ ap (λ (k : ℕ). at + k) (e ∙ ap length (sym (append-nil (encode m))));
    }

-- an entry written in two halves
pub noted-by : {l l₁ l₂ : Bytes} {entry at size entry₀ at₀ r end entry' at' : ℕ} → entry₀ ≡ entry → at₀ ≡ at → Wrote l entry₀ (le32 at₀) l₁ r → Wrote l₁ r (le32 size) l₂ end
    → entry' ≡ entry + entry_size → at' ≡ at + size → Noted l entry at size l₂ entry' at'
noted-by {end = end} e f w v g h = record { end = end; wrote = rw (← e, ← f) (w ⨾ v); entries = g; ends = h }

-- nothing is laid over an empty output
pub drew-empty : {l : Bytes} {entry at size entry' at' : ℕ} (m : Member) → size ≡ length (encode m) → length l ≡ 0 → entry' ≡ entry + entry_size → at' ≡ at + size
    → Drew l entry at (m ∷ []) l entry' at'
unfolding join
drew-empty {l} {entry} {at} m e z p q =
    let under = over at (join (map encode (m ∷ []))) l in
    let same-as : under ≡ l = over-out at _ l (omega arith) in
    record {
      bytes = sym (over-out entry _ under (omega (arith, length-over at (join (map encode (m ∷ []))) l)) ∙ same-as);
      entries = omega arith;
      next = q ∙ ap (λ (k : ℕ). at + k) (e ∙ ap length (sym (append-nil (encode m))));
    }

-- and of two members of one size nothing is laid alike
pub drew-sized : {l l' : Bytes} {entry at entry' at' : ℕ} {m n : Member} → length l ≡ 0 → length (encode m) ≡ length (encode n) → Drew l entry at (m ∷ []) l' entry' at'
    → Drew l entry at (n ∷ []) l' entry' at'
unfolding join
drew-sized {l} {l'} {entry} {at} {entry'} {at'} {m} {n} z e d =
    let unmoved : l' ≡ l = d.bytes ∙ over-out entry _ (over at (encode m ++ []) l) (omega (arith, length-over at (encode m ++ []) l)) ∙ over-out at _ l (omega arith) in
    let moved : at' ≡ at + length (encode n) = d.next ∙ ap (λ (k : ℕ). at + k) (ap length (append-nil (encode m)) ∙ e) in
    rw unmoved (drew-empty n refl z d.entries moved)

pub drew-more : {l l₁ l₂ : Bytes} {entry at entry₁ at₁ entry₂ at₂ : ℕ} {ms ns : List Member} → entry + entry_size * length ms ≤ at
    → Drew l entry at ms l₁ entry₁ at₁ → Drew l₁ entry₁ at₁ ns l₂ entry₂ at₂ → Drew l entry at (ms ++ ns) l₂ entry₂ at₂
drew-more {l} {l₁} {l₂} {entry} {at} {entry₁} {at₁} {entry₂} {at₂} {ms} {ns} apart p q =
    let dirs = directory at (map encode ms) in
    let js = join (map encode ms) in
    let dirn : ℕ → Bytes = λ k. directory k (map encode ns) in
    let jn = join (map encode ns) in
    let long : length dirs ≡ entry_size * length ms = length-directory at (map encode ms) ∙ ap (λ (k : ℕ). 8 * k) (length-map ms encode) in
    let e₁ : entry₁ ≡ entry + length dirs = p.entries ∙ ap (λ (k : ℕ). entry + k) (sym long) in
    let both : join (map encode (ms ++ ns)) ≡ js ++ jn = ap join (map-append encode ms ns) ∙ join-append (map encode ms) (map encode ns) in
    let dir : directory at (map encode (ms ++ ns)) ≡ dirs ++ dirn (at + length js) = ap (directory at) (map-append encode ms ns) ∙ directory-append at (map encode ms) (map encode ns) in
    record {
      bytes =
          q.bytes ∙ ap₂ (λ (e a : ℕ). over e (dirn a) (over a jn l₁)) e₁ p.next
          ∙ ap (λ (t : Bytes). over (entry + length dirs) (dirn (at + length js)) (over (at + length js) jn t)) p.bytes
          ∙ ap (over (entry + length dirs) (dirn (at + length js))) (over-comm entry (at + length js) dirs jn (over at js l) (omega arith) ∙ ap (over entry dirs) (over-over at js jn l))
          ∙ over-over entry dirs (dirn (at + length js)) (over at (js ++ jn) l)
          ∙ ap₂ (λ (d j : Bytes). over entry d (over at j l)) (sym dir) (sym both);
      entries = omega (arith, p.entries, q.entries, length-append ms ns);
      next = q.next ∙ ap (λ (k : ℕ). k + length jn) p.next ∙ total both;
    }
  where
    total : join (map encode (ms ++ ns)) ≡ join (map encode ms) ++ join (map encode ns)
        → at + length (join (map encode ms)) + length (join (map encode ns)) ≡ at + length (join (map encode (ms ++ ns)))
    total both = omega (arith, ap length both, length-append (join (map encode ms)) (join (map encode ns)))

pub drew-length : {l l' : Bytes} {entry at entry' at' : ℕ} {ms : List Member} → Drew l entry at ms l' entry' at' → length l' ≡ length l
drew-length {l} {l'} {entry} {at} d = ap length d.bytes ∙ length-over entry _ _ ∙ length-over at _ l

-- ---- Room

both-encoded : (ms ns : List Member) → join (map encode (ms ++ ns)) ≡ join (map encode ms) ++ join (map encode ns)
both-encoded ms ns = ap join (map-append encode ms ns) ∙ join-append (map encode ms) (map encode ns)

module _ {entry at : ℕ} (ms ns : List Member) (room : Room entry at (ms ++ ns)) where
  all-length : length (join (map encode (ms ++ ns))) ≡ length (join (map encode ms)) + length (join (map encode ns))
  all-length = ap length (both-encoded ms ns) ∙ length-append (join (map encode ms)) (join (map encode ns))

  pub room-first : Room entry at ms
  room-first = record { apart = omega (arith, room.apart, length-append ms ns); small = omega (arith, room.small, all-length) }

  -- what was drawn first took its places, and leaves room for the rest
  pub room-next : {l l' : Bytes} {entry' at' : ℕ} → Drew l entry at ms l' entry' at' → Room entry' at' ns
  room-next d =
      record {
        apart = omega (arith, room.apart, length-append ms ns, d.entries, d.next);
        small = omega (arith, room.small, all-length, d.next);
      }

pub room-one : {entry at size : ℕ} {m : Member} → Room entry at (m ∷ []) → size ≡ length (encode m) → (entry + 8 ≤ at) × (at + size < 4294967296)
unfolding join
room-one {entry} {at} {size} {m} r e = (omega (arith, r.apart), omega (arith, r.small, e, ap length (append-nil (encode m))))

pub room-sized : {entry at : ℕ} {m n : Member} → length (encode m) ≡ length (encode n) → Room entry at (m ∷ []) → Room entry at (n ∷ [])
unfolding join
room-sized {m = m} {n} e r =
    record { apart = r.apart; small = omega (arith, r.small, e, ap length (append-nil (encode m)), ap length (append-nil (encode n))) }

pub room-as : {entry at : ℕ} {ms ns : List Member} → ms ≡ ns → Room entry at ms → Room entry at ns
room-as e r = rw (← e) r

pub drew-as : {l l' : Bytes} {entry at entry' at' : ℕ} {ms ns : List Member} → ms ≡ ns → Drew l entry at ms l' entry' at' → Drew l entry at ns l' entry' at'
drew-as e d = rw (← e) d

-- ---- the three fixed members, drawn with a stem that is the DLL name's

module _ (m : ℕ) (dll s : Bytes) (compat : Bool) {entry at : ℕ} (room : Room entry at (fixed_of m dll compat)) (e : s ≡ stem dll) where
  abbrev one : List Member
  one = descriptor m dll compat ∷ []

  abbrev two : List Member
  two = null_descriptor m (compat_stem compat (stem dll)) ∷ []

  abbrev three : List Member
  three = null_thunk m (stem dll) ∷ []

  pub fixed-first : Room entry at (descriptor m dll compat ∷ [])
  fixed-first = room-first one (two ++ three) room

  module _ {l l₁ : Bytes} {entry₁ at₁ : ℕ} (p : Drew l entry at (descriptor m dll compat ∷ []) l₁ entry₁ at₁) where
    pub fixed-second : Room entry₁ at₁ (null_descriptor m (compat_stem compat s) ∷ [])
    fixed-second = rw e (room-first two three (room-next one (two ++ three) room p))

    module _ {l₂ : Bytes} {entry₂ at₂ : ℕ} (q : Drew l₁ entry₁ at₁ (null_descriptor m (compat_stem compat s) ∷ []) l₂ entry₂ at₂) where
      both : Drew l entry at (one ++ two) l₂ entry₂ at₂
      both = drew-more fixed-first.apart p (rw e at q)

      pub fixed-third : Room entry₂ at₂ (null_thunk m s ∷ [])
      fixed-third = rw e (room-next (one ++ two) three room both)

      pub drew-fixed : {l₃ : Bytes} {entry₃ at₃ : ℕ} → Drew l₂ entry₂ at₂ (null_thunk m s ∷ []) l₃ entry₃ at₃ → Drew l entry at (fixed_of m dll compat) l₃ entry₃ at₃
      drew-fixed r = drew-more (room-first (one ++ two) three room).apart both (rw e at r)
