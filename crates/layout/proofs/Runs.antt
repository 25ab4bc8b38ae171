-- Parts, strings and string tables, written one after the other.
use Prim.Native.Nat.{ℕ, ◌+◌}
use mathlib.Core.Path.{◌≡◌, refl, sym, ap, ◌∙◌}
use mathlib.Core.List.{List, [], ◌∷◌, ◌++◌, append_assoc}
use lib.ListN.{length, take, drop, take-append-drop}
use lib.Seq.{drop-append-add, drop-append_seam}
use Rattle.wire.specs.Bytes.{Bytes, join, le32, zeros}
use Rattle.wire.specs.Writes.{stop, Wrote}
use Rattle.wire.proofs.Bytes.{join-append, join-one}
use Rattle.wire.proofs.Writes.{◌⨾◌, behind, wrote-as}
use Rattle.format.specs.Layouts.{strings, strings_at, string_table, file_header}
use Rattle.layout.specs.Runs.{Parts, Strings, Table, begins_at}

-- ---- parts

-- one part
pub one : {l x l' : Bytes} {at r : ℕ} → Wrote l at x l' r → Parts l at (x ∷ []) l' r
one {x = x} w = record { wrote = wrote-as (sym (join-one x)) w }

infixl 60 ◌⊕◌
-- parts after parts
pub ◌⊕◌ : {l l₁ l₂ : Bytes} {xs ys : List Bytes} {at r s : ℕ} → Parts l at xs l₁ r → Parts l₁ r ys l₂ s → Parts l at (xs ++ ys) l₂ s
◌⊕◌ {xs = xs} {ys} v w = record { wrote = wrote-as (sym (join-append xs ys)) (v.wrote ⨾ w.wrote) }

-- parts before parts that were written first
pub behind-parts : {l l₁ l₂ : Bytes} {xs ys : List Bytes} {at m n r s : ℕ} → length (join xs) ≡ n → m ≡ stop at n (length l) → Parts l m ys l₁ r → Parts l₁ at xs l₂ s
    → Parts l at (xs ++ ys) l₂ r
behind-parts {l} {xs = xs} {ys} {at} k e v w =
    record { wrote = wrote-as (sym (join-append xs ys)) (behind (e ∙ ap (λ (n : ℕ). stop at n (length l)) (sym k)) v.wrote w.wrote) }

-- the same parts said in another way
pub parts-as : {l l' : Bytes} {xs ys : List Bytes} {at r : ℕ} → xs ≡ ys → Parts l at xs l' r → Parts l at ys l' r
parts-as e w = record { wrote = wrote-as (ap join e) w.wrote }

-- a header, whose characteristics are said in another way
pub headed : {l l' : Bytes} {at r k k' : ℕ} (m n p s : ℕ) → k ≡ k' → Wrote l at (file_header m n p s k) l' r → Parts l at (file_header m n p s k' ∷ []) l' r
headed m n p s e w = one (wrote-as (ap (file_header m n p s) e) w)

-- ---- strings

pub strings-append : (xs ys : List Bytes) → strings (xs ++ ys) ≡ strings xs ++ strings ys
unfolding strings
strings-append [] ys = refl
strings-append (x ∷ xs) ys =
    ap (λ (t : Bytes). x ++ (0 ∷ t)) (strings-append xs ys) ∙ sym (append_assoc x (0 ∷ strings xs) (strings ys))

infixl 60 ◌⊞◌
-- strings after strings
pub ◌⊞◌ : {l l₁ l₂ : Bytes} {xs ys : List Bytes} {at r s : ℕ} → Strings l at xs l₁ r → Strings l₁ r ys l₂ s → Strings l at (xs ++ ys) l₂ s
◌⊞◌ {xs = xs} {ys} v w = record { wrote = wrote-as (sym (strings-append xs ys)) (v.wrote ⨾ w.wrote) }

-- a string and its NUL
pub ended : {l l₁ l₂ x : Bytes} {at r s : ℕ} → Wrote l at x l₁ r → Wrote l₁ r (zeros 1) l₂ s → Strings l at (x ∷ []) l₂ s
unfolding strings
ended v w = record { wrote = v ⨾ w }

-- a piece before the rest of a string
pub before : {l l₁ l₂ h t : Bytes} {at r s : ℕ} → Wrote l at h l₁ r → Strings l₁ r (t ∷ []) l₂ s → Strings l at ((h ++ t) ∷ []) l₂ s
unfolding strings
before {h = h} {t} v w = record { wrote = wrote-as (sym (append_assoc h t (0 ∷ []))) (v ⨾ w.wrote) }

-- the same string said in another way
pub string-as : {l l' x y : Bytes} {at r : ℕ} → x ≡ y → Strings l at (x ∷ []) l' r → Strings l at (y ∷ []) l' r
string-as e w = record { wrote = wrote-as (ap (λ (x : Bytes). strings (x ∷ [])) e) w.wrote }

-- a string as two parts
pub string-parts : {l l' x : Bytes} {at r : ℕ} → Strings l at (x ∷ []) l' r → Parts l at (x ∷ zeros 1 ∷ []) l' r
unfolding strings join
string-parts w = record { wrote = w.wrote }

-- ---- string tables

-- strings after their size
pub table : {l l₁ l₂ : Bytes} {ss : List Bytes} {at r s : ℕ} (size : ℕ) → size ≡ strings_at + length (strings ss) → Wrote l at (le32 size) l₁ r → Strings l₁ r ss l₂ s → Table l at ss l₂ s
unfolding string_table
table {ss = ss} size e v w = record { wrote = wrote-as (ap (λ (n : ℕ). le32 n ++ strings ss) e) (v ⨾ w.wrote) }

-- it is one part of a layout
pub table-part : {l l' : Bytes} {ss : List Bytes} {at r : ℕ} → Table l at ss l' r → Parts l at (string_table ss ∷ []) l' r
table-part w = one w.wrote

-- at the place where a string begins the table has it, and those after it
pub begins-there : (ss : List Bytes) (n : ℕ) → drop (begins_at ss n) (string_table ss) ≡ strings (drop n ss)
unfolding string_table
begins-there ss n =
    let k = length (strings (take n ss)) in
    let both : strings ss ≡ strings (take n ss) ++ strings (drop n ss) = ap strings (sym (take-append-drop n ss)) ∙ strings-append (take n ss) (drop n ss) in
    drop-append-add (le32 (strings_at + length (strings ss))) (strings ss) k ∙ ap (drop k) both ∙ drop-append_seam (strings (take n ss)) (strings (drop n ss))
