-- The member set: all members drawn, the header before them, and the writer's answer.
use Rattle.std.specs.Prelude.{Ok, Err}
use Prim.Native.Nat.{ℕ, ◌+◌, ◌-◌, ◌/◌, ◌≤◌, ◌<◌}
use mathlib.Core.Path.{◌≡◌, refl, sym, ap, ap₂, ◌∙◌}
use mathlib.Core.Bool.{Bool}
use mathlib.Core.List.{List, [], ◌∷◌, ◌++◌, map, append-nil}
use native.Mathlib.Nat.{sub-zero}
use native.Mathlib.Omega.{arith}
use lib.Dec.{ltb}
use lib.ListN.{length, drop, length-append, length-map}
use borrow.Author.Tests.{lt-ltb, le-ltb}
use Rattle.wire.specs.Bytes.{Bytes, Octets, join}
use Rattle.wire.specs.Writes.{over, Wrote}
use Rattle.wire.proofs.Bytes.{length-part}
use Rattle.wire.proofs.Writes.{over-over, over-comm, over-exact}
use Rattle.format.specs.Machines.{first_machine, native_machine}
use Rattle.format.specs.Exports.{first_count, native_count, both_counts, names_at, dll_field, offset_of, length_of, bytes_at, dll_name, exports_from, first_exports, native_exports}
use Rattle.format.specs.Layouts.{Member, encode}
use Rattle.format.specs.Library.{Options, set_header_size, first_member_at, directory, members_of, fixed_members, first_members, native_members, all_members, set_bytes, member_set}
use Rattle.format.specs.Refusals.{Checked, refusal, Row, row, earliest, table_slots, own_rows, check_list, check_exports}
use Rattle.format.specs.Answers.{Written, total, asked, unless, written, leaves, output_after, answer_number, Writes}
use Rattle.format.specs.Asking.{TotalIs}
use Rattle.format.specs.declared.Reason.TheVariants.{NoRoom, FewSlots}
use Rattle.format.specs.declared.Refusal.{Refusal}
use Rattle.format.proofs.Rows.{earliest-given, earliest-passed, earliest-none}
use Rattle.format.proofs.Listed.{listed, dll-few, dll-inside}
use Rattle.laws.proofs.Accepted.{accepted}
use Rattle.laws.proofs.Refusals.{accepted-own}
use Rattle.laws.proofs.Asking.{split}
use Rattle.laws.proofs.Totals.{first-few, native-few, members-small, length-directory, length-set_bytes}
use Rattle.walks.specs.Pen.{Room, Drew, fixed_of}
use Rattle.library.specs.Sets.{members_by, DrewBy, DrewAll, farthest, Measured, header_bytes}
use Rattle.walks.proofs.Pens.{room-as, room-first, room-next, drew-as, drew-more, drew-length}

-- ---- the fixed members, the first list, the native list

pub counts-small : (b : Bytes) {first native : ℕ} → check_list b ≡ Ok tt → first ≡ first_count b → native ≡ native_count b → (first ≤ 4096) × (native ≤ 4096) × (first + native ≡ both_counts b)
counts-small b e f g = let l = listed b e in (omega (arith, l.shape.firsts), omega (arith, l.shape.natives), omega (arith, f, g))

pub both-small : (b : Bytes) → check_list b ≡ Ok tt → both_counts b ≤ 8192
both-small b e = let l = listed b e in omega (arith, l.shape.firsts, l.shape.natives)

pub dll-small : (b : Bytes) {s : Bytes} → check_list b ≡ Ok tt → s ≡ dll_name b → length s ≤ 255
unfolding bytes_at
dll-small b {s} e f =
    let l = listed b e in
    omega (arith, ap length f, length-part b (names_at b + offset_of b dll_field) (length_of b dll_field) (dll-inside b l), dll-few b l)

module _ (first native : ℕ) (mingw compat : Bool) (dll b : Bytes) {entry at : ℕ} (room : Room entry at (members_by first native mingw compat dll b)) where
  abbrev fixed : List Member
  fixed = fixed_of native dll compat

  abbrev firsts : List Member
  firsts = members_of first mingw dll (first_exports b)

  abbrev natives : List Member
  natives = members_of native mingw dll (native_exports b)

  two-room : Room entry at (fixed ++ firsts)
  two-room = room-first (fixed ++ firsts) natives room

  pub set-fixed : Room entry at (fixed_of native dll compat)
  set-fixed = room-first fixed firsts two-room

  module _ {l l₁ : Bytes} {entry₁ at₁ : ℕ} (p : Drew l entry at (fixed_of native dll compat) l₁ entry₁ at₁) {count : ℕ} (c : count ≡ first_count b) where
    first-is : members_of first mingw dll (exports_from b 0 (count - 0)) ≡ firsts
    unfolding first_exports
    first-is = ap (λ (n : ℕ). members_of first mingw dll (exports_from b 0 n)) (sub-zero count ∙ c)

    pub set-first : Room entry₁ at₁ (members_of first mingw dll (exports_from b 0 (count - 0)))
    set-first = room-as (sym first-is) (room-next fixed firsts two-room p)

    module _ {l₂ : Bytes} {entry₂ at₂ : ℕ} (q : Drew l₁ entry₁ at₁ (members_of first mingw dll (exports_from b 0 (count - 0))) l₂ entry₂ at₂) {both : ℕ} (d : both ≡ count + native_count b) where
      native-is : members_of native mingw dll (exports_from b count (both - count)) ≡ natives
      unfolding native_exports
      native-is =
          let n : both - count ≡ native_count b = omega arith in
          ap₂ (λ (k n : ℕ). members_of native mingw dll (exports_from b k n)) c n

      two-drew : Drew l entry at (fixed ++ firsts) l₂ entry₂ at₂
      two-drew = drew-more set-fixed.apart p (drew-as first-is q)

      pub set-native : Room entry₂ at₂ (members_of native mingw dll (exports_from b count (both - count)))
      set-native = room-as (sym native-is) (room-next (fixed ++ firsts) natives room two-drew)

      pub set-drew : {l₃ : Bytes} {entry₃ at₃ : ℕ} → Drew l₂ entry₂ at₂ (members_of native mingw dll (exports_from b count (both - count))) l₃ entry₃ at₃
          → DrewBy first native mingw compat dll b l entry at l₃ entry₃ at₃ ((entry₂ - entry₁) / 8) ((entry₃ - entry₂) / 8)
      set-drew r =
          record {
            drew = drew-more two-room.apart two-drew (drew-as native-is r);
            first_count = omega (arith, (drew-as first-is q).entries);
            native_count = omega (arith, (drew-as native-is r).entries);
          }

-- how many members each list has, by the places of the entries
pub counted-by : {first native : ℕ} {mingw compat : Bool} {dll b l l' : Bytes} {entry at entry' at' e₁ e₂ e₃ f₁ f₂ f₃ f₄ : ℕ} → f₁ ≡ e₂ → f₂ ≡ e₁ → f₃ ≡ e₃ → f₄ ≡ e₂
    → DrewBy first native mingw compat dll b l entry at l' entry' at' ((e₂ - e₁) / 8) ((e₃ - e₂) / 8)
    → DrewBy first native mingw compat dll b l entry at l' entry' at' ((f₁ - f₂) / 8) ((f₃ - f₄) / 8)
counted-by p q r s d = rw (p, q, r, s) d

-- ---- the same under the options of a list

module _ (o : Options) (b : Bytes) where
  all-is : members_by (first_machine o.machine) (native_machine o.machine) o.mingw o.compat (dll_name b) b ≡ all_members o b
  unfolding all_members fixed_members first_members native_members
  all-is = refl

  module _ {first native : ℕ} {dll : Bytes} (e : first ≡ first_machine o.machine) (f : native ≡ native_machine o.machine) (g : dll ≡ dll_name b) where
    pub all-room : {entry at : ℕ} → Room entry at (all_members o b) → Room entry at (members_by first native o.mingw o.compat dll b)
    all-room r = rw (e, f, g) (room-as (sym all-is) r)

    pub all-drew : {l l' : Bytes} {entry at entry' at' firsts natives : ℕ} → DrewBy first native o.mingw o.compat dll b l entry at l' entry' at' firsts natives
        → DrewAll o b l entry at l' entry' at' firsts natives
    unfolding first_members native_members
    all-drew d =
        let d' = rw (e, f, g) at d in
        record { drew = drew-as all-is d'.drew; first_count = d'.first_count; native_count = d'.native_count }

-- ---- the same at the places of a pen

module _ {entry at entry₀ at₀ : ℕ} (e : entry ≡ entry₀) (f : at ≡ at₀) where
  pub room-at : {ms : List Member} → Room entry₀ at₀ ms → Room entry at ms
  room-at r = rw (e, f) r

  pub all-at : {o : Options} {b l l' : Bytes} {entry' at' firsts natives : ℕ} → DrewAll o b l entry at l' entry' at' firsts natives → DrewAll o b l entry₀ at₀ l' entry' at' firsts natives
  all-at d = rw (e, f) at d

-- ---- nothing is drawn into nothing

pub drew-nothing : {o : Options} {b l l' : Bytes} {entry at entry' at' firsts natives : ℕ} → length l ≡ 0 → DrewAll o b l entry at l' entry' at' firsts natives → l' ≡ []
drew-nothing z d = nil _ (drew-length d.drew ∙ z)
  where
    nil : (l : Bytes) → length l ≡ 0 → l ≡ []
    nil [] e = refl
    nil (x ∷ l) e = absurd (omega arith)

module _ (n out : Bytes) (e : n ≡ []) where
  pub after-nothing : n ++ out ≡ out
  after-nothing = rw e

  pub drew-after-nothing : {o : Options} {b l' : Bytes} {entry at entry' at' firsts natives : ℕ} → DrewAll o b (n ++ out) entry at l' entry' at' firsts natives
      → DrewAll o b out entry at l' entry' at' firsts natives
  drew-after-nothing d = rw e at d

-- ---- an accepted list

zero-more : (n : ℕ) → n ≡ 0 + n
zero-more n = omega arith

count-all : (o : Options) (b : Bytes) → length (all_members o b) ≡ 3 + length (first_members o b) + length (native_members o b)
unfolding all_members fixed_members
count-all o b =
    omega (arith, length-append (fixed_members o b ++ first_members o b) (native_members o b), length-append (fixed_members o b) (first_members o b))

module _ (o : Options) (b : Bytes) (small : Octets b) (e : check_exports o b ≡ Ok tt) where
  pub far-room : Room set_header_size farthest (all_members o b)
  far-room = let (few, long) = members-small o b small e in record { apart = omega arith; small = omega arith }

  module _ {first_at end firsts natives : ℕ} (m : Measured o b first_at end firsts natives) where
    pub measured-small : (firsts ≤ 8192) × (natives ≤ 8192) × (first_at < 4294967296) × (farthest ≤ end) × (end < 4294967296)
    measured-small =
        let (few, long) = members-small o b small e in
        let a = accepted o b e in (
          omega (arith, m.first_count, first-few o b a),
          omega (arith, m.native_count, native-few o b a),
          omega (arith, m.entries),
          omega (arith, m.bytes),
          omega (arith, m.bytes),
        )

    pub set-room : Room set_header_size first_at (all_members o b)
    set-room = let (few, long) = members-small o b small e in record { apart = omega (arith, m.entries); small = omega (arith, m.entries) }

    pub measured-total : first_at + (end - farthest) ≡ length (member_set o b)
    unfolding member_set
    measured-total =
        omega (arith, m.entries, m.bytes, length-map (all_members o b) encode, length-set_bytes (length (first_members o b)) (length (native_members o b)) (map encode (all_members o b)))

    -- members and directory drawn, then the header: the set
    module _ {l l₁ l₂ : Bytes} {entry₁ at₁ f n r : ℕ} (fits : length (member_set o b) ≤ length l) (d : DrewAll o b l set_header_size first_at l₁ entry₁ at₁ f n)
        (w : Wrote l₁ 0 (header_bytes firsts natives first_at) l₂ r) where
      abbrev ms : List Bytes
      ms = map encode (all_members o b)

      abbrev header : Bytes
      header = header_bytes firsts natives first_at

      before : length (header ++ directory first_at ms) ≡ first_at
      before = omega (arith, m.entries, length-append header (directory first_at ms), length-directory first_at ms, length-map (all_members o b) encode)

      abbrev at₀ : ℕ
      at₀ = first_member_at (3 + length (first_members o b) + length (native_members o b))

      whole : (header ++ directory first_at ms) ++ join ms ≡ member_set o b
      unfolding member_set set_bytes join
      whole =
          let count : first_at ≡ first_member_at (3 + length (first_members o b) + length (native_members o b)) = omega (arith, m.entries, count-all o b) in
          rw (m.first_count, m.native_count, count)
          (ap (λ (t : Bytes). (header_bytes (length (first_members o b)) (length (native_members o b)) at₀ ++ directory at₀ ms) ++ t) (sym (append-nil (join ms))))

      laid : l₂ ≡ over 0 (member_set o b) l
      laid =
          w.bytes ∙ ap (over 0 header) d.drew.bytes ∙ sym (over-comm 0 16 header (directory first_at ms) (over first_at (join ms) l) (omega arith))
          ∙ over-over 0 header (directory first_at ms) (over first_at (join ms) l)
          ∙ sym (over-comm 0 first_at (header ++ directory first_at ms) (join ms) l (omega (arith, before)))
          ∙ ap (λ (k : ℕ). over k (join ms) (over 0 (header ++ directory first_at ms) l)) (sym before ∙ zero-more (length (header ++ directory first_at ms)))
          ∙ over-over 0 (header ++ directory first_at ms) (join ms) l ∙ ap (λ (t : Bytes). over 0 t l) whole

      pub set-written : l₂ ≡ member_set o b ++ drop (length (member_set o b)) l
      set-written = laid ∙ over-exact 0 (member_set o b) l (omega (arith, fits)) ∙ ap (λ (k : ℕ). member_set o b ++ drop k l) (sym (zero-more (length (member_set o b))))

-- ---- what asking and writing answer

module _ (o : Options) (b : Bytes) where
  pub asked-stop : (r : Refusal) → check_exports o b ≡ Err r → Err r ≡ asked o b
  unfolding asked total
  asked-stop r e = rw e

  pub asked-total : {t : ℕ} → check_exports o b ≡ Ok tt → t ≡ length (member_set o b) → Ok t ≡ asked o b
  unfolding asked total
  asked-total e t = rw (e, t)

module _ (o : Options) (b : Bytes) (slots : ℕ) (out : Bytes) where
  pub written-stop : (r : Refusal) → check_exports o b ≡ Err r → (Err r ≡ written o b slots (length out)) × (out ≡ output_after o b slots out)
  unfolding written asked unless total output_after leaves
  written-stop r e = (rw e, rw e)

  module _ (e : check_exports o b ≡ Ok tt) where
    abbrev slot-row : Row
    slot-row = row FewSlots 0 (ltb slots table_slots)

    abbrev room-row : Row
    room-row = row NoRoom 0 (ltb (length out) (length (member_set o b)))

    by-own : {c : Checked} → earliest (slot-row ∷ room-row ∷ []) ≡ c → written o b slots (length out) ≡ total c (length (member_set o b))
    unfolding own_rows
    by-own f = accepted-own o b slots (length out) e ∙ ap (λ (c : Checked). total c (length (member_set o b))) f

    pub written-19 : slots < table_slots → (Err (refusal FewSlots 0) ≡ written o b slots (length out)) × (out ≡ output_after o b slots out)
    unfolding total output_after leaves
    written-19 h =
        let stops : written o b slots (length out) ≡ Err (refusal FewSlots 0) = by-own (earliest-given slot-row (room-row ∷ []) (lt-ltb slots table_slots h)) in
        (sym stops, rw stops)

    module _ (enough : table_slots ≤ slots) where
      by-room : {c : Checked} → earliest (room-row ∷ []) ≡ c → written o b slots (length out) ≡ total c (length (member_set o b))
      by-room f = by-own (earliest-passed slot-row (room-row ∷ []) (le-ltb slots table_slots enough) ∙ f)

      pub written-15 : length out < length (member_set o b) → (Err (refusal NoRoom 0) ≡ written o b slots (length out)) × (out ≡ output_after o b slots out)
      unfolding total output_after leaves
      written-15 h =
          let stops : written o b slots (length out) ≡ Err (refusal NoRoom 0) = by-room (earliest-given room-row [] (lt-ltb (length out) (length (member_set o b)) h)) in
          (sym stops, rw stops)

      pub written-total : {t : ℕ} {l : Bytes} → length (member_set o b) ≤ length out → t ≡ length (member_set o b) → l ≡ member_set o b ++ drop (length (member_set o b)) out
          → (Ok t ≡ written o b slots (length out)) × (l ≡ output_after o b slots out)
      unfolding total output_after leaves
      written-total h t l =
          let fine : written o b slots (length out) ≡ Ok (length (member_set o b)) = by-room (earliest-passed room-row [] (le-ltb (length out) (length (member_set o b)) h) ∙ earliest-none) in
          (ap Ok t ∙ sym fine, rw fine l)

-- any table that is large enough is as good as another
enough-slots : (o : Options) (b : Bytes) (slots room : ℕ) → table_slots ≤ slots → written o b table_slots room ≡ written o b slots room
unfolding written own_rows
enough-slots o b slots room h = rw (le-ltb slots table_slots h)

never-19 : (o : Options) (b : Bytes) (room : ℕ) → answer_number (written o b table_slots room) ≡ 19 → ⊥
never-19 o b room e = pick (asked o b) ((split o b table_slots room).few e)
  where
    pick : (r : Written) → TotalIs (λ n. table_slots < table_slots) r → ⊥
    pick (Ok n) h = absurd (omega (arith, h))
    pick (Err r) h = h

module _ {A : Type 0} (o : Options) (b : Bytes) {slots slots' : List A} {out out' : Bytes} {r : Written} where
  pub writes-by : r ≡ written o b (length slots) (length out) → out' ≡ output_after o b (length slots) out → (answer_number r ≡ 19 → slots' ≡ slots) → Writes o b slots out r slots' out'
  writes-by e f g = record { answers = e; output = f; table = g }

  pub enough-writes : table_slots ≤ length slots → r ≡ written o b table_slots (length out) → out' ≡ output_after o b table_slots out → Writes o b slots out r slots' out'
  unfolding output_after
  enough-writes h e f =
      let same = enough-slots o b (length slots) (length out) h in
      writes-by (e ∙ same) (f ∙ ap (λ (w : Written). leaves w (member_set o b) out) same) (λ n. absurd (never-19 o b (length out) (ap answer_number (sym e) ∙ n)))
