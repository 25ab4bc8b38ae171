-- Rows 1 to 14 by their parts: each answer by the facts that lead to it.
use Rattle.std.specs.Prelude.{Result, Ok, Err}
use Prim.Native.Nat.{ℕ, ◌+◌, ◌-◌}
use mathlib.Core.Path.{◌≡◌, sym, ap, ◌∙◌}
use mathlib.Core.Bool.{true, false}
use mathlib.Core.List.{List, ◌++◌}
use native.Mathlib.Nat.{sub-zero}
use native.Mathlib.Omega.{arith}
use Rattle.wire.specs.Bytes.{Bytes}
use Rattle.format.specs.Machines.{known, first_machine, native_machine}
use Rattle.format.specs.Exports.{first_count, native_count}
use Rattle.format.specs.Library.{Options}
use Rattle.format.specs.Refusals.{Checked, refusal, Row, earliest, rows_from, machine_rows, list_rows, name_rows, export_rows, accept_rows, check_list, check_exports}
use Rattle.format.specs.declared.Reason.TheVariants.{UnknownMachine}
use Rattle.format.specs.declared.Refusal.{Refusal}
use Rattle.coff.specs.declared.machines.Machine.{Machine}
use Rattle.plans.specs.Accepting.{AcceptedAs, taken, refused}
use Rattle.format.proofs.Rows.{earliest-given, earliest-passed, earliest-append, and_then-stops, and_then-goes-on}

-- ---- a list that was accepted, or not

module _ {o : Options} {b : Bytes} where
  pub accepted-by : {r : Result Machine Refusal} {m : Machine} → r ≡ Ok m → AcceptedAs o b r → (check_exports o b ≡ Ok tt) × (m.number ≡ o.machine)
  accepted-by e a = told (rw e at a)
    where
      told : {m : Machine} → AcceptedAs o b (Ok m) → (check_exports o b ≡ Ok tt) × (m.number ≡ o.machine)
      told (taken f n) = (f, n)

  pub refused-by : {r : Result Machine Refusal} {q : Refusal} → r ≡ Err q → AcceptedAs o b r → check_exports o b ≡ Err q
  refused-by e a = told (rw e at a)
    where
      told : {q : Refusal} → AcceptedAs o b (Err q) → check_exports o b ≡ Err q
      told (refused f) = f

-- ---- the rows

module _ (o : Options) (b : Bytes) where
  abbrev firsts : ℕ → List Row
  firsts = name_rows (first_machine o.machine) o.mingw b

  abbrev natives : ℕ → List Row
  natives = name_rows (native_machine o.machine) o.mingw b

  -- what is said of the number of a machine is said of the number that it was found by
  pub asked-by : {m : ℕ} {r : Checked} → m ≡ o.machine → r ≡ earliest (export_rows (record { machine = m; mingw = o.mingw; compat = o.compat }) b)
      → r ≡ earliest (export_rows o b)
  asked-by n e = e ∙ ap (λ (k : ℕ). earliest (export_rows (record { machine = k; mingw = o.mingw; compat = o.compat }) b)) n

  pub both-stop : (r : Refusal) (n : ℕ) → n ≡ first_count b → earliest (rows_from (name_rows (first_machine o.machine) o.mingw b) 0 (n - 0)) ≡ Err r
      → Err r ≡ earliest (export_rows o b)
  unfolding export_rows
  both-stop r n c e =
      let e' : earliest (rows_from firsts 0 (first_count b)) ≡ Err r = rw (sub-zero n, c) at e in
      sym (earliest-append (rows_from firsts 0 (first_count b)) _ ∙ and_then-stops _ _ r e')

  pub both-on : (n m : ℕ) → n ≡ first_count b → m ≡ n + native_count b → earliest (rows_from (name_rows (first_machine o.machine) o.mingw b) 0 (n - 0)) ≡ Ok tt
      → earliest (rows_from (name_rows (native_machine o.machine) o.mingw b) n (m - n)) ≡ earliest (export_rows o b)
  unfolding export_rows
  both-on n m c d e =
      let e' : earliest (rows_from firsts 0 (first_count b)) ≡ Ok tt = rw (sub-zero n, c) at e in
      let k : m - n ≡ native_count b = omega arith in
      rw (k, c) (sym (earliest-append (rows_from firsts 0 (first_count b)) _ ∙ and_then-goes-on _ _ e'))

  pub accept-1 : known o.machine ≡ false → Err (refusal UnknownMachine 0) ≡ check_exports o b
  unfolding check_exports accept_rows machine_rows
  accept-1 k =
      let e : earliest (machine_rows o.machine ++ list_rows b) ≡ Err (refusal UnknownMachine 0) = earliest-given _ _ (rw k) in
      sym (earliest-append (machine_rows o.machine ++ list_rows b) (export_rows o b) ∙ and_then-stops _ _ _ e)

  machine-passed : known o.machine ≡ true → earliest (machine_rows o.machine ++ list_rows b) ≡ check_list b
  unfolding machine_rows check_list
  machine-passed k = earliest-passed _ _ (rw k)

  pub accept-stop : (r : Refusal) → known o.machine ≡ true → check_list b ≡ Err r → Err r ≡ check_exports o b
  unfolding check_exports accept_rows
  accept-stop r k e =
      sym (earliest-append (machine_rows o.machine ++ list_rows b) (export_rows o b) ∙ and_then-stops _ _ r (machine-passed k ∙ e))

  pub accept-on : known o.machine ≡ true → check_list b ≡ Ok tt → earliest (export_rows o b) ≡ check_exports o b
  unfolding check_exports accept_rows
  accept-on k e =
      sym (earliest-append (machine_rows o.machine ++ list_rows b) (export_rows o b) ∙ and_then-goes-on _ _ (machine-passed k ∙ e))
