-- The numbers that the code works out are the layouts' own: where strings begin in string tables, how long tables and symbols are.
use Prim.Native.Nat.{ℕ, ◌+◌}
use mathlib.Core.Path.{◌≡◌}
use mathlib.Core.List.{List, [], ◌∷◌, ◌++◌}
use native.Mathlib.Omega.{arith}
use lib.ListN.{length, length-append}
use Rattle.wire.specs.Bytes.{Bytes, join}
use Rattle.format.specs.Layouts.{strings, strings_at, descriptor_name, thunk_name}
use Rattle.laws.proofs.Lengths.{length-symbol, length-long_name, length-auxiliary, length-strings-nil, length-strings-cons, length-descriptor_name, length-thunk_name}
use Rattle.layout.specs.Runs.{begins_at, descriptor_symbols, weak_symbols}

ruleset Names = (length-append, length-strings-nil, length-strings-cons, length-descriptor_name, length-thunk_name)

-- ---- where strings begin

pub begins-second : (s : Bytes) (ss : List Bytes) → begins_at (s ∷ ss) 1 ≡ strings_at + (length s + 1)
begins-second s ss = simp Names (omega arith)

pub begins-third : (s t : Bytes) (ss : List Bytes) → begins_at (s ∷ t ∷ ss) 2 ≡ strings_at + (length s + 1) + (length t + 1)
begins-third s t ss = simp Names (omega arith)

-- ---- the import descriptor, of a null name of n bytes

pub null-at : (s : Bytes) → strings_at + 20 + length s + 1 ≡ strings_at + (length (descriptor_name s) + 1)
null-at s = simp Names (omega arith)

pub thunk-at : (n : ℕ) (s null-name : Bytes) → n ≡ length null-name
    → strings_at + 20 + length s + 1 + n + 1 ≡ strings_at + (length (descriptor_name s) + 1) + (length null-name + 1)
thunk-at n s null-name e = simp Names (omega arith)

pub size-descriptor : (n : ℕ) (s null-name : Bytes) → n ≡ length null-name
    → strings_at + 20 + length s + 1 + n + 1 + 17 + length s + 1 ≡ strings_at + length (strings (descriptor_name s ∷ null-name ∷ thunk_name s ∷ []))
size-descriptor n s null-name e = simp Names (omega arith)

pub symbols-descriptor : (i j k : ℕ) → length (join (descriptor_symbols i j k)) ≡ 126
unfolding join
symbols-descriptor i j k = simp (length-append, length-symbol, length-long_name)

-- ---- the null import descriptor and the null thunk

pub size-null : (n : ℕ) (null-name : Bytes) → n ≡ length null-name → strings_at + n + 1 ≡ strings_at + length (strings (null-name ∷ []))
size-null n null-name e = simp Names (omega arith)

pub size-thunk : (s : Bytes) → strings_at + 17 + length s + 1 ≡ strings_at + length (strings (thunk_name s ∷ []))
size-thunk s = simp Names (omega arith)

-- ---- the weak external

pub alias-at : (p s : Bytes) → strings_at + length p + length s + 1 ≡ strings_at + (length (p ++ s) + 1)
alias-at p s = simp Names (omega arith)

pub size-weak : (p s w : Bytes) → strings_at + length p + length s + 1 + length p + length w + 1 ≡ strings_at + length (strings ((p ++ s) ∷ (p ++ w) ∷ []))
size-weak p s w = simp Names (omega arith)

pub symbols-weak : (i j : ℕ) → length (join (weak_symbols i j)) ≡ 90
unfolding join
symbols-weak i j = simp (length-append, length-symbol, length-long_name, length-auxiliary)
