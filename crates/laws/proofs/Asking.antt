-- 02, "Split asking from writing": the two operations agree wherever writing has no refusal of its own.
use Rattle.std.specs.Prelude.{if◌then◌else◌, Ok, Err}
use Prim.Native.Nat.{ℕ, zero, suc, ◌+◌, ◌≤◌, ◌<◌}
use mathlib.Core.Path.{◌≡◌, refl, sym, ◌∙◌}
use mathlib.Core.Bool.{Bool, true, false, ◌&&◌, ◌||◌, not}
use mathlib.Core.Option.{Option, none, some}
use mathlib.Core.List.{List, [], ◌∷◌, ◌++◌}
use native.Mathlib.Omega.{arith}
use lib.ListN.{length}
use lib.Dec.{ltb, eqb}
use borrow.Author.Tests.{ltb-true, ltb-false}
use Rattle.wire.specs.Bytes.{Bytes, starts, is_some}
use Rattle.format.specs.Machines.{first_machine, native_machine}
use Rattle.format.specs.Exports.{Export, first_count, native_count, field_at, dll_field, is_private, export_at}
use Rattle.format.specs.Names.{hash, question, tagged, demangle}
use Rattle.format.specs.Plan.{Plan, plain, deferred, refused, public_name, plan}
use Rattle.format.specs.Library.{Options, member_set}
use Rattle.format.specs.Numbers.{number_of}
use Rattle.format.specs.Refusals.{Checked, refusal, Row, earliest, machine_rows, header_rows, string_rows, dll_rows, max_dll, max_string, rows_from, field_rows, record_rows, rest_rows, list_rows, plan_rows, name_rows, export_rows, accept_rows, table_slots, own_rows, check_exports}
use Rattle.format.specs.Answers.{total, asked, unless, written, answer_number}
use Rattle.format.specs.Asking.{Split}
use Rattle.format.specs.declared.Reason.{Reason}
use Rattle.format.specs.declared.Reason.TheVariants.{NotRenamed, NoPublicName, NotMangled, NotDemangled, NoRoom, FewSlots}
use Rattle.format.proofs.Rows.{◌and_then◌, earliest-append}
use Rattle.laws.proofs.Refusals.{refused_by, by_table, free_code, plan-refused}

-- ---- the rows of asking have the numbers 1 to 14

abbrev Asked : Reason → Type 0
Asked r = (1 ≤ number_of r) × (number_of r ≤ 14)

abbrev Low : Checked → Type 0
Low (Ok t) = Unit {0}
Low (Err r) = Asked r.reason

low-then : (c d : Checked) → Low c → Low d → Low (c and_then d)
unfolding ◌and_then◌
low-then (Ok t) d p q = q
low-then (Err r) d p q = p

low-append : (rs ss : List Row) → Low (earliest rs) → Low (earliest ss) → Low (earliest (rs ++ ss))
low-append rs ss p q = rw (earliest-append rs ss) (low-then (earliest rs) (earliest ss) p q)

low-row : (r : Row) (rs : List Row) → Asked r.reason → Low (earliest rs) → Low (earliest (r ∷ rs))
unfolding earliest
low-row r rs p h = pick r.given
  where
    pick : (g : Bool) → Low (if g then Err (refusal r.reason r.place) else earliest rs)
    pick true = p
    pick false = h

low-none : Low (earliest [])
unfolding earliest
low-none = tt

low-from : (f : ℕ → List Row) → ((k : ℕ) → Low (earliest (f k))) → (k n : ℕ) → Low (earliest (rows_from f k n))
unfolding rows_from
low-from f h k zero = low-none
low-from f h k (suc n) = low-append (f k) (rows_from f (k + 1) n) (h k) (low-from f h (k + 1) n)

low-string : (b : Bytes) (place at limit : ℕ) (required : Bool) → Low (earliest (string_rows b place at limit required))
unfolding string_rows number_of
low-string b place at limit required =
    low-row _ _ (omega arith, omega arith) (low-row _ _ (omega arith, omega arith) (low-row _ _ (omega arith, omega arith) (low-row _ _ (omega arith, omega arith) low-none)))

low-list : (b : Bytes) → Low (earliest (list_rows b))
unfolding list_rows header_rows rest_rows dll_rows record_rows field_rows number_of
low-list b =
    low-append (header_rows b) (rest_rows b)
    (low-row _ _ (omega arith, omega arith) (low-row _ _ (omega arith, omega arith) (low-row _ _ (omega arith, omega arith) low-none)))
    (low-append (dll_rows b) _
    (low-append (string_rows b 0 dll_field max_dll true) _ (low-string b 0 dll_field max_dll true) (low-row _ _ (omega arith, omega arith) low-none))
    (low-from (record_rows b) (λ k. low-row _ _ (omega arith, omega arith) (low-from (field_rows b k) (λ f. low-string b k (field_at k f) max_string (eqb f 0)) 0 5)) 0 _))

low-table : (machine : ℕ) (e : Export) (q : Option Bytes) (n : Reason) → by_table machine e q ≡ some n → Asked n
unfolding by_table number_of
low-table machine e none n h = let is : n ≡ NotRenamed = cc in rw is (omega arith, omega arith)
low-table machine e (some []) n h = let is : n ≡ NoPublicName = cc in rw is (omega arith, omega arith)
low-table machine e (some (x ∷ xs)) n h =
    pick (free_code machine e && starts question (x ∷ xs) && not (tagged (x ∷ xs))) (free_code machine e && (starts question (x ∷ xs) || starts hash (x ∷ xs)) && not (is_some (demangle (x ∷ xs)))) h
  where
    pick : (s t : Bool) → (if s then some NotMangled else if t then some NotDemangled else none) ≡ some n → Asked n
    pick true t h = let is : n ≡ NotMangled = cc in rw is (omega arith, omega arith)
    pick false true h = let is : n ≡ NotDemangled = cc in rw is (omega arith, omega arith)
    pick false false h = let z : ◌≡◌ {A = ℕ} 0 1 = cc in absurd (omega arith)

low-plan : (k machine : ℕ) (mingw : Bool) (e : Export) → Low (earliest (plan_rows k (plan machine mingw e)))
unfolding plan_rows refused_by
low-plan k machine mingw e = pick (plan machine mingw e) (plan-refused machine mingw e)
  where
    pick : (p : Plan) → refused_by p ≡ by_table machine e (public_name e) → Low (earliest (plan_rows k p))
    pick (plain f t x) h = low-none
    pick (deferred p w) h = low-none
    pick (refused n) h = low-row _ _ (low-table machine e (public_name e) n (sym h)) low-none

low-names : (machine : ℕ) (mingw : Bool) (b : Bytes) (k : ℕ) → Low (earliest (name_rows machine mingw b k))
unfolding name_rows
low-names machine mingw b k = pick (is_private (export_at b k))
  where
    pick : (t : Bool) → Low (earliest (if t then [] else plan_rows k (plan machine mingw (export_at b k))))
    pick true = low-none
    pick false = low-plan k machine mingw (export_at b k)

asking-low : (o : Options) (b : Bytes) → Low (check_exports o b)
unfolding check_exports accept_rows machine_rows export_rows number_of
asking-low o b =
    low-append (machine_rows o.machine ++ list_rows b) (export_rows o b)
    (low-append (machine_rows o.machine) (list_rows b) (low-row _ _ (omega arith, omega arith) low-none) (low-list b))
    (low-append _ _ (low-from _ (low-names (first_machine o.machine) o.mingw b) 0 (first_count b))
    (low-from _ (low-names (native_machine o.machine) o.mingw b) (first_count b) (native_count b)))

-- ---- the two operations

-- for every list, its options, any number of slots and any room
pub split : (o : Options) (b : Bytes) (slots room : ℕ) → Split slots room (asked o b) (written o b slots room)
unfolding asked written unless total own_rows earliest answer_number number_of
split o b slots room =
    pick (check_exports o b) (asking-low o b) (ltb slots table_slots) refl (ltb room (length (member_set o b))) refl
  where
    pick : (c : Checked) → Low c → (f : Bool) → ltb slots table_slots ≡ f → (t : Bool) → ltb room (length (member_set o b)) ≡ t
        → Split slots room (total c (length (member_set o b))) (unless (if f then Err (refusal FewSlots 0) else if t then Err (refusal NoRoom 0) else Ok tt) (total c (length (member_set o b))))
    pick (Ok u) l true g t h =
        record {
          asks = λ q e. let z : ◌≡◌ {A = ℕ} 0 1 = cc in absurd (omega arith);
          agree = λ x y. absurd (x refl);
          few = λ e. ltb-true slots table_slots g;
          short = λ e. absurd (omega arith);
        }
    pick (Ok u) l false g true h =
        record {
          asks = λ q e. let z : ◌≡◌ {A = ℕ} 0 1 = cc in absurd (omega arith);
          agree = λ x y. absurd (y refl);
          few = λ e. absurd (omega arith);
          short = λ e. (ltb-false slots table_slots g, ltb-true room (length (member_set o b)) h);
        }
    pick (Ok u) l false g false h =
        record {
          asks = λ q e. let z : ◌≡◌ {A = ℕ} 0 1 = cc in absurd (omega arith);
          agree = λ x y. refl;
          few = λ e. absurd (omega arith);
          short = λ e. absurd (omega arith);
        }
    pick (Err k) (low, high) f g t h =
        record {
          asks = λ q e. let is : q ≡ k = cc in rw is (low, high);
          agree = λ x y. refl;
          few = λ e. absurd (omega arith);
          short = λ e. absurd (omega arith);
        }

-- so whoever asked and lends the total, or more, and a table, is not refused
pub reserved : (o : Options) (b : Bytes) (slots room : ℕ) {n : ℕ} → asked o b ≡ Ok n → table_slots ≤ slots → n ≤ room → written o b slots room ≡ Ok n
reserved o b slots room {n} e enough h =
    let s = split o b slots room in
    sym
    (s.agree (λ is. let few : slots < table_slots = rw e at (s.few is) in absurd (omega arith))
    (λ is. let over : (table_slots ≤ slots) × (room < n) = rw e at (s.short is) in absurd (omega (arith, over.1))))
    ∙ e
