-- The reader finds what the writer wrote, and accepts nothing else; so a member's bytes are no other member's.
use Rattle.std.specs.Prelude.{Result, if◌then◌else◌}
use Prim.Native.Nat.{ℕ, ◌+◌, ◌*◌, ◌-◌, ◌/◌, ◌%◌, ◌≤◌, ◌<◌}
use mathlib.Core.Path.{◌≡◌, refl, sym, ap, ◌∙◌}
use mathlib.Core.Bool.{Bool, true, false, not}
use mathlib.Core.Option.{Option, none, some}
use mathlib.Core.List.{List, [], ◌∷◌, ◌++◌}
use native.Mathlib.Omega.{arith}
use lib.ListN.{length, drop, drop_of_length-le}
use lib.Seq.{take_at}
use lib.Dec.{eqb, leb, ltb}
use borrow.Author.Tests.{eq-eqb, ne_eqb, eqb-true, leb-true, ltb-true}
use Rattle.wire.specs.Bytes.{Bytes, ascii, u16_at, u32_at, part, join, same, holds}
use Rattle.wire.proofs.Bytes.{and-first, and-each, or-either, not-true, same-refl, same-eq, holds-neither, before-seam, le16-back}
use Rattle.format.specs.Machines.{i386, armnt, amd64, arm64, arm64ec, arm64x, known}
use Rattle.format.specs.Names.{stem}
use Rattle.format.specs.Layouts.{Member, descriptor, null_descriptor, null_thunk, short, weak, import_header_size, dll_at, file_header, strings, null_name, thunk_name, descriptor_bytes, null_descriptor_bytes, null_thunk_bytes, import_header, short_bytes, weak_bytes, encode}
use Rattle.format.specs.Reader.{between, admits_dll, admits_stem, admits_export, ordinary, admits, Reads, text_at, null_strings_at, thunk_strings_at, weak_strings_at, descriptor_guess, null_guess, thunk_guess, short_guess, weak_guess, guess, right, read, fields_or_refused, read_fields, names_answered}
use Rattle.format.specs.Demands.{Demand2}
use Rattle.format.specs.declared.Read.{Read}
use Rattle.format.specs.declared.Refusal.{Refusal}
use Rattle.laws.proofs.Lengths.{length-thunk_name, length-encode-descriptor}
use Rattle.laws.proofs.Places.{drop-encode-descriptor-dll, drop-encode-null_descriptor, drop-encode-null_thunk, drop-encode-short, drop-encode-short-dll, drop-encode-short-exported, drop-encode-weak, drop-encode-weak-alias, fields-shown}

-- ---- machines

-- what holds of the six holds of each known one
pub known-each : (P : ℕ → Type 0) → P i386 → P armnt → P amd64 → P arm64 → P arm64ec → P arm64x → (m : ℕ) → known m ≡ true → P m
unfolding known
known-each P p1 p2 p3 p4 p5 p6 m =
    or-either _ _
    (or-either _ _ (or-either _ _ (or-either _ _ (or-either _ _ (is i386 p1) (is armnt p2)) (is amd64 p3)) (is arm64 p4)) (is arm64ec p5))
    (is arm64x p6)
  where
    is : (n : ℕ) → P n → eqb m n ≡ true → P m
    is n p e = rw (eqb-true m n e) p

-- a machine's number fits its field, and is not the 0 of a short import's first signature
abbrev pub MachineNumber : ℕ → Type 0
MachineNumber m = (0 < m) × (m < 65536)

pub known-number : (m : ℕ) → known m ≡ true → MachineNumber m
known-number = known-each MachineNumber (omega arith) (omega arith) (omega arith) (omega arith) (omega arith) (omega arith)

pub ordinary-number : (m : ℕ) → ordinary m ≡ true → MachineNumber m
ordinary-number m e = known-number m (and-first _ _ e)

-- ---- names without NUL

pub between-true : (low high : ℕ) (s : Bytes) → between low high s ≡ true → (low ≤ length s) × (length s ≤ high) × (holds 0 s ≡ false)
unfolding between
between-true low high s e =
    let (l, (h, c)) = and-each (leb low (length s)) (leb (length s) high ∷ not (holds 0 s) ∷ []) e in
    (leb-true low (length s) l, leb-true (length s) high h, not-true (holds 0 s) c)

pub between-clear : (low high : ℕ) (s : Bytes) → between low high s ≡ true → holds 0 s ≡ false
between-clear low high s e = (between-true low high s e).2

-- how long an export string is at most
pub export-true : (t : ℕ) (x : Bytes) → admits_export t x ≡ true → (length x ≤ (if eqb t 4 then 8190 else 0)) × (holds 0 x ≡ false)
unfolding admits_export holds
export-true t x e = pick (eqb t 4) e
  where
    pick : (q : Bool) → (if q then between 1 8190 x else same x []) ≡ true → (length x ≤ (if q then 8190 else 0)) × (holds 0 x ≡ false)
    pick true e = let (l, h, c) = between-true 1 8190 x e in (h, c)
    pick false e = rw (same-eq x [] e) (omega arith, refl)

pub admits_dll-clear : (dll : Bytes) → admits_dll dll ≡ true → holds 0 dll ≡ false
unfolding admits_dll
admits_dll-clear dll e = between-clear 1 255 dll (and-first _ _ e)

pub null_name-clear : (s : Option Bytes) → admits_stem s ≡ true → holds 0 (null_name s) ≡ false
unfolding admits_stem null_name holds
null_name-clear none e = refl
null_name-clear (some s) e = between-clear 1 255 s e

pub thunk_name-clear : (s : Bytes) → holds 0 s ≡ false → holds 0 (thunk_name s) ≡ false
unfolding thunk_name holds
thunk_name-clear s e = holds-neither 0 s (ascii "_NULL_THUNK_DATA") e refl

-- ---- texts

-- the text at a place from which the bytes are known
pub text_at-seam : (b : Bytes) (at : ℕ) (s r : Bytes) → drop at b ≡ s ++ 0 ∷ r → holds 0 s ≡ false → text_at b at ≡ s
unfolding text_at
text_at-seam b at s r e h = rw e (before-seam 0 s r h)

pub text_at-strings : (b : Bytes) (at : ℕ) (s : Bytes) (ss : List Bytes) → drop at b ≡ strings (s ∷ ss) → holds 0 s ≡ false → text_at b at ≡ s
unfolding strings
text_at-strings b at s ss e h = text_at-seam b at s (strings ss) e h

-- ---- the fields of a file header that tell the layouts apart

record Headed (b : Bytes) (m n k : ℕ) : Type 0 where
  machine : u16_at b 0 ≡ m
  sections : u16_at b 2 ≡ n
  symbols : u32_at b 12 ≡ k

guess-headed : (b : Bytes) (m n k : ℕ) → Headed b m n k → 0 < m
    → guess b ≡ (if eqb k 7 then descriptor_guess b else if eqb k 5 then weak_guess b else if eqb n 1 then null_guess b else thunk_guess b)
unfolding guess
guess-headed b m n k h l = rw (h.machine, h.sections, h.symbols, ne_eqb m 0 (λ e. omega arith))

-- ---- the import descriptor

module _ (m : ℕ) (dll : Bytes) (compat : Bool) (numbered : MachineNumber m) (clear : holds 0 dll ≡ false) where
  abbrev descriptor-bytes : Bytes
  descriptor-bytes = encode (descriptor m dll compat)

  descriptor-headed : Headed descriptor-bytes m 2 7
  unfolding u16_at u32_at encode descriptor_bytes join file_header
  descriptor-headed = record { machine = le16-back m numbered.1; sections = refl; symbols = refl }

  descriptor-text : text_at descriptor-bytes dll_at ≡ dll
  descriptor-text = text_at-seam descriptor-bytes dll_at dll (drop (dll_at + (length dll + 1)) descriptor-bytes) (drop-encode-descriptor-dll m dll compat) clear

  descriptor-compat : not (eqb (length descriptor-bytes) (length (encode (descriptor m dll false)))) ≡ compat
  descriptor-compat =
      rw (length-encode-descriptor m dll compat, length-encode-descriptor m dll false)
      (longer (345 + length dll + 2 * length (stem dll)) (length (stem dll)) compat)
    where
      longer : (n k : ℕ) (c : Bool) → not (eqb (n + (if c then k + 1 else 0)) (n + 0)) ≡ c
      longer n k true = ap not (ne_eqb (n + (k + 1)) (n + 0) (λ e. omega arith))
      longer n k false = ap not (eq-eqb (n + 0) (n + 0) refl)

  pub guess-descriptor : guess (encode (descriptor m dll compat)) ≡ descriptor m dll compat
  unfolding descriptor_guess
  guess-descriptor =
      rw (guess-headed descriptor-bytes m 2 7 descriptor-headed numbered.0, descriptor-headed.machine, descriptor-text, descriptor-compat)

-- ---- the null import descriptor

-- the stem that a null name holds, read back
null_name-back : (s : Option Bytes) → (if same (null_name s) (null_name none) then none else some (drop (length (null_name none) + 1) (null_name s))) ≡ s
unfolding null_name same
null_name-back none = refl
null_name-back (some s) = refl

module _ (m : ℕ) (s : Option Bytes) (numbered : MachineNumber m) (clear : holds 0 (null_name s) ≡ false) where
  abbrev null-bytes : Bytes
  null-bytes = encode (null_descriptor m s)

  null-headed : Headed null-bytes m 1 1
  unfolding u16_at u32_at encode null_descriptor_bytes join file_header
  null-headed = record { machine = le16-back m numbered.1; sections = refl; symbols = refl }

  null-name : text_at null-bytes null_strings_at ≡ null_name s
  null-name = text_at-strings null-bytes null_strings_at (null_name s) [] (drop-encode-null_descriptor m s) clear

  pub guess-null_descriptor : guess (encode (null_descriptor m s)) ≡ null_descriptor m s
  unfolding null_guess
  guess-null_descriptor = rw (guess-headed null-bytes m 1 1 null-headed numbered.0, null-headed.machine, null-name, null_name-back s)

-- ---- the null thunk

thunk_name-back : (s : Bytes) → part (thunk_name s) 1 (length (thunk_name s) - length (thunk_name [])) ≡ s
unfolding part thunk_name
thunk_name-back s = rw (length-thunk_name s) (take_at s (ascii "_NULL_THUNK_DATA") (17 + length s - 17) (omega arith))

module _ (m : ℕ) (s : Bytes) (numbered : MachineNumber m) (clear : holds 0 s ≡ false) where
  abbrev thunk-bytes : Bytes
  thunk-bytes = encode (null_thunk m s)

  thunk-headed : Headed thunk-bytes m 2 1
  unfolding u16_at u32_at encode null_thunk_bytes join file_header
  thunk-headed = record { machine = le16-back m numbered.1; sections = refl; symbols = refl }

  thunk-name : text_at thunk-bytes (thunk_strings_at m) ≡ thunk_name s
  thunk-name = text_at-strings thunk-bytes (thunk_strings_at m) (thunk_name s) [] (drop-encode-null_thunk m s) (thunk_name-clear s clear)

  pub guess-null_thunk : guess (encode (null_thunk m s)) ≡ null_thunk m s
  unfolding thunk_guess
  guess-null_thunk = rw (guess-headed thunk-bytes m 2 1 thunk-headed numbered.0, thunk-headed.machine, thunk-name, thunk_name-back s)

-- ---- the short import

module _ (m o k t : ℕ) (s dll x : Bytes) (machine : m < 65536) (ordinal : o < 65536) (kinds : k ≤ 2) (types : t ≤ 4)
    (clear : holds 0 s ≡ false) (clear_dll : holds 0 dll ≡ false) (clear_exported : holds 0 x ≡ false) (unexported : eqb t 4 ≡ false → x ≡ []) where
  abbrev short-bytes : Bytes
  short-bytes = encode (short m o k t s dll x)

  short-signature : u16_at short-bytes 0 ≡ 0
  unfolding u16_at encode short_bytes import_header join
  short-signature = refl

  short-machine : u16_at short-bytes 6 ≡ m
  unfolding u16_at encode short_bytes import_header join
  short-machine = le16-back m machine

  short-ordinal : u16_at short-bytes 16 ≡ o
  unfolding u16_at encode short_bytes import_header join
  short-ordinal = le16-back o ordinal

  short-typed : u16_at short-bytes 18 ≡ t * 4 + k
  unfolding u16_at encode short_bytes import_header join
  short-typed = le16-back (t * 4 + k) (omega arith)

  short-type : u16_at short-bytes 18 / 4 ≡ t
  short-type = rw short-typed (omega arith)

  short-kind : u16_at short-bytes 18 % 4 ≡ k
  short-kind = rw short-typed (omega arith)

  abbrev exports : List Bytes
  exports = if eqb t 4 then x ∷ [] else []

  abbrev short_dll_at : ℕ
  short_dll_at = import_header_size + (length s + 1)

  abbrev exported_at : ℕ
  exported_at = short_dll_at + (length dll + 1)

  short-symbol : text_at short-bytes import_header_size ≡ s
  short-symbol = text_at-strings short-bytes import_header_size s (dll ∷ exports) (drop-encode-short m o k t s dll x) clear

  short-dll : text_at short-bytes short_dll_at ≡ dll
  short-dll = text_at-strings short-bytes short_dll_at dll exports (drop-encode-short-dll m o k t s dll x) clear_dll

  short-exported : (if eqb t 4 then text_at short-bytes exported_at else []) ≡ x
  short-exported = pick (eqb t 4) unexported (drop-encode-short-exported m o k t s dll x)
    where
      pick : (q : Bool) → (q ≡ false → x ≡ []) → drop exported_at short-bytes ≡ strings (if q then x ∷ [] else [])
          → (if q then text_at short-bytes exported_at else []) ≡ x
      pick true e r = text_at-strings short-bytes exported_at x [] r clear_exported
      pick false e r = sym (e refl)

  pub guess-short : guess (encode (short m o k t s dll x)) ≡ short m o k t s dll x
  unfolding guess short_guess
  guess-short = rw short-signature (simp (short-machine, short-ordinal, short-type, short-kind, short-symbol, short-dll, short-exported))

-- ---- the weak external

module _ (m : ℕ) (target alias : Bytes) (numbered : MachineNumber m) (clear : holds 0 target ≡ false) (clear_alias : holds 0 alias ≡ false) where
  abbrev weak-bytes : Bytes
  weak-bytes = encode (weak m target alias)

  weak-headed : Headed weak-bytes m 1 5
  unfolding u16_at u32_at encode weak_bytes join file_header
  weak-headed = record { machine = le16-back m numbered.1; sections = refl; symbols = refl }

  weak-target : text_at weak-bytes weak_strings_at ≡ target
  weak-target = text_at-strings weak-bytes weak_strings_at target (alias ∷ []) (drop-encode-weak m target alias) clear

  weak-alias : text_at weak-bytes (weak_strings_at + (length target + 1)) ≡ alias
  weak-alias = text_at-strings weak-bytes (weak_strings_at + (length target + 1)) alias [] (drop-encode-weak-alias m target alias) clear_alias

  pub guess-weak : guess (encode (weak m target alias)) ≡ weak m target alias
  unfolding weak_guess
  guess-weak = rw (guess-headed weak-bytes m 1 5 weak-headed numbered.0, weak-headed.machine, weak-target, weak-alias)

-- ---- all five

pub guess-back : (m : Member) → admits m ≡ true → guess (encode m) ≡ m
unfolding admits
guess-back (descriptor m dll compat) e =
    let (machine, name) = and-each (ordinary m) (admits_dll dll ∷ []) e in
    guess-descriptor m dll compat (ordinary-number m machine) (admits_dll-clear dll name)
guess-back (null_descriptor m s) e =
    let (machine, name) = and-each (ordinary m) (admits_stem s ∷ []) e in
    guess-null_descriptor m s (ordinary-number m machine) (null_name-clear s name)
guess-back (null_thunk m s) e =
    let (machine, name) = and-each (ordinary m) (between 1 255 s ∷ []) e in
    guess-null_thunk m s (ordinary-number m machine) (between-clear 1 255 s name)
guess-back (short m o k t s dll x) e =
    let tests : List Bool = not (eqb m arm64x) ∷ ltb o 65536 ∷ leb k 2 ∷ leb t 4 ∷ between 1 8190 s ∷ admits_dll dll ∷ admits_export t x ∷ [] in
    let (machine, (not_x, (ordinal, (kinds, (types, (symbol, (name, exported))))))) = and-each (known m) tests e in
    guess-short m o k t s dll x (known-number m machine).1 (ltb-true o 65536 ordinal) (leb-true k 2 kinds) (leb-true t 4 types)
    (between-clear 1 8190 s symbol) (admits_dll-clear dll name) (export-true t x exported).1
    (λ q. drop_of_length-le x (rw q at (export-true t x exported).0))
guess-back (weak m target alias) e =
    let (machine, (first, second)) = and-each (ordinary m) (between 1 8195 target ∷ between 1 8195 alias ∷ []) e in
    guess-weak m target alias (ordinary-number m machine) (between-clear 1 8195 target first) (between-clear 1 8195 alias second)

pub read-back : (m : Member) → admits m ≡ true → read (encode m) ≡ some m
unfolding read right
read-back m a = simp (guess-back m a, a, same-refl)

pub encode-injective : (m n : Member) → admits m ≡ true → admits n ≡ true → encode m ≡ encode n → m ≡ n
encode-injective m n a b e = sym (guess-back m a) ∙ ap guess e ∙ guess-back n b

-- ---- the function reads exactly what reading means

pub read-sound : (b : Bytes) (m : Member) → read b ≡ some m → Reads b m
unfolding read right
read-sound b m e = pick (right b (guess b)) refl e
  where
    pick : (q : Bool) → right b (guess b) ≡ q → (if q then some (guess b) else none) ≡ some m → Reads b m
    pick true q e =
        let (admitted, equal) = and-each (admits (guess b)) (same (encode (guess b)) b ∷ []) q in
        let guessed : guess b ≡ m = cc in
        record { admitted = rw guessed at admitted; is = rw guessed at (same-eq (encode (guess b)) b equal) }
    pick false q e = let z : ◌≡◌ {A = ℕ} 0 1 = cc in absurd (omega arith)

pub read-complete : (b : Bytes) (m : Member) → Reads b m → read b ≡ some m
read-complete b m r = rw (← r.is) (read-back m r.admitted)

pub read-none : (b : Bytes) → ((m : Member) → Reads b m → ⊥) → read b ≡ none
read-none b h = pick (read b) refl
  where
    pick : (o : Option Member) → read b ≡ o → o ≡ none
    pick none e = refl
    pick (some m) e = absurd (h m (read-sound b m e))

pub reads-none : (b : Bytes) → read b ≡ none → (m : Member) → Reads b m → ⊥
reads-none b e m r = let z : ◌≡◌ {A = ℕ} 0 1 = cc (read-complete b m r) in omega arith

pub reads-once : (b : Bytes) (m n : Member) → Reads b m → Reads b n → m ≡ n
reads-once b m n r s = encode-injective m n r.admitted s.admitted (r.is ∙ sym s.is)

-- ---- demand 2: the reader's definition meets it, and no other answer does

pub demand2 : (b : Bytes) → Demand2 b (read_fields b)
unfolding read_fields fields_or_refused names_answered
demand2 b =
    record {
      accepts = λ m r. rw (read-complete b m r);
      refuses = λ h. rw (read-none b h);
      returns = λ m r. rw (read-complete b m r, ← r.is) (fields-shown m);
    }

pub demand2-once : (b : Bytes) (r r' : Result Read Refusal) → Demand2 b r → Demand2 b r' → r ≡ r'
demand2-once b r r' d d' = pick (read b) refl
  where
    pick : (o : Option Member) → read b ≡ o → r ≡ r'
    pick none e = d.refuses (reads-none b e) ∙ sym (d'.refuses (reads-none b e))
    pick (some m) e = d.accepts m (read-sound b m e) ∙ sym (d'.accepts m (read-sound b m e))
