-- The member that the code's fields make is the one of the definition.
use Rattle.std.specs.Prelude.{if◌then◌else◌, Result, Err}
use Prim.Native.Nat.{ℕ, ◌+◌, ◌-◌, ◌/◌, ◌%◌, ◌≤◌, ◌<◌}
use mathlib.Core.Path.{◌≡◌, refl, sym, ap, ap₂, ◌∙◌}
use mathlib.Core.Bool.{Bool, true, false, ◌&&◌, not, true≢false}
use mathlib.Core.Option.{none, some}
use mathlib.Core.List.{[]}
use native.Mathlib.Omega.{arith}
use lib.ListN.{length, drop, drop_of_length-le}
use lib.Dec.{eqb, leb, ltb}
use borrow.Author.Tests.{eq-eqb, ne_eqb}
use Rattle.wire.specs.Bytes.{Bytes, ascii, u16_at, u32_at, same, part, join}
use Rattle.wire.proofs.Bytes.{same-longer}
use Rattle.wire.proofs.Parts.{part-last}
use Rattle.format.specs.Machines.{known, arm64x}
use Rattle.format.specs.Layouts.{Member, descriptor, null_descriptor, null_thunk, short, weak, dll_at, import_header_size, null_name, thunk_name, encode, data_at, IMAGE-SYM-ABSOLUTE, weak_bytes, file_header, section, symbol, word}
use Rattle.format.specs.Reader.{between, admits_dll, admits_export, ordinary, admits, text_at, null_strings_at, thunk_strings_at, weak_strings_at, descriptor_guess, null_guess, thunk_guess, short_guess, weak_guess, guess, right, read, fields_or_refused, read_fields}
use Rattle.format.specs.Refusals.{refusal}
use Rattle.format.specs.declared.Reason.TheVariants.{NotAMember}
use Rattle.format.specs.declared.Refusal.{Refusal}
use Rattle.format.specs.declared.Read.{Read}
use Rattle.laws.proofs.Lengths.{length-encode-descriptor, length-encode-null_descriptor-none, length-encode-null_descriptor-some, length-encode-null_thunk, length-encode-short, length-encode-weak}
use Rattle.records.specs.Records.{import_header_at, symbol_at, signed}
use Rattle.records.specs.declared.ImportObjectHeader.{ImportObjectHeader}
use Rattle.reader.specs.Answers.{answer, object_guess, admits_types}
use Rattle.reader.proofs.Admitting.{between-less}
use Rattle.reader.proofs.Answering.{barred, admits-null-of, admits-thunk}

-- ---- the import descriptor

pub descriptor-guessed : {m n : ℕ} {dll : Bytes} {c : Bool} (b : Bytes) → m ≡ u16_at b 0 → dll ≡ text_at b dll_at → n ≡ length (encode (descriptor m dll false))
    → c ≡ not (eqb (length b) n) → descriptor m dll c ≡ descriptor_guess b
unfolding descriptor_guess
descriptor-guessed {m} {n} {dll} {c} b em ed en ec =
    ap (descriptor m dll) (ec ∙ ap (λ (n : ℕ). not (eqb (length b) n)) en)
    ∙ ap₂ (λ (m : ℕ) (d : Bytes). descriptor m d (not (eqb (length b) (length (encode (descriptor m d false)))))) em ed

pub descriptor-barred : {dll : Bytes} (b : Bytes) → ordinary (u16_at b 0) ≡ true → dll ≡ text_at b dll_at → admits_dll dll ≡ false → admits (descriptor_guess b) ≡ false
unfolding descriptor_guess admits
descriptor-barred b o e f = rw (o, ap admits_dll (sym e) ∙ f)

-- ---- the null import descriptor

abbrev null_of : ℕ → Bytes → Member
null_of m s = null_descriptor m (if same s (null_name none) then none else some (drop (length (null_name none) + 1) s))

null-guessed : {m : ℕ} {name : Bytes} (b : Bytes) → m ≡ u16_at b 0 → name ≡ text_at b null_strings_at → null_of m name ≡ null_guess b
unfolding null_guess
null-guessed b em en = ap₂ null_of em en

pub null-plain-guessed : {m : ℕ} {name : Bytes} (b : Bytes) → m ≡ u16_at b 0 → name ≡ text_at b null_strings_at
    → same name (ascii "__NULL_IMPORT_DESCRIPTOR") ≡ true → null_descriptor m none ≡ null_guess b
unfolding null_name
null-plain-guessed {m} {name} b em en t =
    ap (λ (q : Bool). null_descriptor m (if q then none else some (drop 25 name))) (sym t) ∙ null-guessed b em en

pub null-of-guessed : {m : ℕ} {name s : Bytes} (b : Bytes) → m ≡ u16_at b 0 → name ≡ text_at b null_strings_at
    → same name (ascii "__NULL_IMPORT_DESCRIPTOR") ≡ false → s ≡ drop 25 name → null_descriptor m (some s) ≡ null_guess b
unfolding null_name
null-of-guessed {m} {name} b em en t es =
    ap (λ (s : Bytes). null_descriptor m (some s)) es
    ∙ ap (λ (q : Bool). null_descriptor m (if q then none else some (drop 25 name))) (sym t)
    ∙ null-guessed b em en

-- a name too short to hold a stem
pub null-barred : {m : ℕ} {name : Bytes} (b : Bytes) → ordinary m ≡ true → m ≡ u16_at b 0 → name ≡ text_at b null_strings_at
    → same name (ascii "__NULL_IMPORT_DESCRIPTOR") ≡ false → length name < 25 → Err (refusal NotAMember 0) ≡ answer b (null_guess b)
null-barred {m} {name} b o em en t h =
    barred b (null_descriptor m (some [])) (admits-null-of m [] o (sym (between-less 1 255 [] (omega arith))))
    ∙ ap (answer b) (null-of-guessed b em en t (sym (drop_of_length-le name {i = 25} (omega arith))))

-- the rest of a name
pub part-rest : (s : Bytes) (n : ℕ) → n ≤ length s → part s n (length s - n) ≡ drop n s
part-rest s n h = part-last s n (length s - n) (omega arith)

-- ---- the null thunk

pub thunk-guessed : {m at : ℕ} {name s : Bytes} (b : Bytes) → m ≡ u16_at b 0 → at ≡ thunk_strings_at m → name ≡ text_at b at → s ≡ part name 1 (length name - 17)
    → null_thunk m s ≡ thunk_guess b
unfolding thunk_guess thunk_name
thunk-guessed {m} {at} {name} b em ea en es =
    ap (null_thunk m) (es ∙ ap (λ (s : Bytes). part s 1 (length s - 17)) (en ∙ ap (text_at b) ea))
    ∙ ap (λ (m : ℕ). null_thunk m (part (text_at b (thunk_strings_at m)) 1 (length (text_at b (thunk_strings_at m)) - 17))) em

pub thunk-barred : {m at : ℕ} {name : Bytes} (b : Bytes) → ordinary m ≡ true → m ≡ u16_at b 0 → at ≡ thunk_strings_at m → name ≡ text_at b at → length name < 17
    → Err (refusal NotAMember 0) ≡ answer b (thunk_guess b)
unfolding part
thunk-barred {m} {at} {name} b o em ea en h =
    let z : 0 ≡ length name - 17 = omega arith in
    barred b (null_thunk m []) (admits-thunk m [] o (sym (between-less 1 255 [] (omega arith))))
    ∙ ap (answer b) (thunk-guessed b em ea en (ap (part name 1) z))

-- ---- the weak external

pub weak-guessed : {m : ℕ} {t a : Bytes} (b : Bytes) → m ≡ u16_at b 0 → t ≡ text_at b weak_strings_at → a ≡ text_at b (weak_strings_at + (length t + 1))
    → weak m t a ≡ weak_guess b
unfolding weak_guess
weak-guessed {m} {t} b em et ea =
    ap (weak m t) ea ∙ ap₂ (λ (m : ℕ) (t : Bytes). weak m t (text_at b (weak_strings_at + (length t + 1)))) em et

-- it is longer than what stands before its names, and its first symbol is absolute
pub weak-long : (b : Bytes) → length b < weak_strings_at → encode (weak_guess b) ≡ b → ⊥
unfolding weak_guess
weak-long b h e = absurd (omega (arith, ap length e, length-encode-weak (u16_at b 0) (text_at b weak_strings_at) (text_at b (weak_strings_at + (length (text_at b weak_strings_at) + 1)))))

pub weak-absolute : (b : Bytes) → encode (weak_guess b) ≡ b → (symbol_at b (data_at 1)).section_number ≡ IMAGE-SYM-ABSOLUTE
unfolding weak_guess encode weak_bytes join file_header section symbol word signed u16_at
weak-absolute b e = ap (λ (d : Bytes). (symbol_at d (data_at 1)).section_number) (sym e)

-- ---- the short import

abbrev short_with : Bytes → ImportObjectHeader → Bytes → Bytes → Bytes → Member
short_with b h s dll x =
    short h.machine h.ordinal_or_hint (h.name_type % 4) (h.name_type / 4) s dll x

short-guessed : {h : ImportObjectHeader} {s dll : Bytes} (b : Bytes) → h ≡ import_header_at b 0 → s ≡ text_at b import_header_size
    → dll ≡ text_at b (import_header_size + (length s + 1))
    → short_with b h s dll (if eqb (h.name_type / 4) 4 then text_at b (import_header_size + (length s + 1) + (length dll + 1)) else []) ≡ short_guess b
unfolding short_guess
short-guessed {h} {s} {dll} b eh es ed =
    ap (λ (d : Bytes). short_with b h s d (if eqb (h.name_type / 4) 4 then text_at b (import_header_size + (length s + 1) + (length d + 1)) else [])) ed
    ∙ ap₂ (λ (h : ImportObjectHeader) (s : Bytes).
    let d = text_at b (import_header_size + (length s + 1)) in
    short_with b h s d (if eqb (h.name_type / 4) 4 then text_at b (import_header_size + (length s + 1) + (length d + 1)) else [])) eh es

pub short-plain-guessed : {h : ImportObjectHeader} {s dll : Bytes} (b : Bytes) → h ≡ import_header_at b 0 → s ≡ text_at b import_header_size
    → dll ≡ text_at b (import_header_size + (length s + 1)) → (h.name_type / 4 ≡ 4 → ⊥)
    → short h.machine h.ordinal_or_hint (h.name_type % 4) (h.name_type / 4) s dll [] ≡ short_guess b
short-plain-guessed {h} {s} {dll} b eh es ed n =
    ap (λ (q : Bool). short_with b h s dll (if q then text_at b (import_header_size + (length s + 1) + (length dll + 1)) else [])) (sym (ne_eqb (h.name_type / 4) 4 n))
    ∙ short-guessed b eh es ed

pub short-as-guessed : {h : ImportObjectHeader} {s dll x : Bytes} (b : Bytes) → h ≡ import_header_at b 0 → s ≡ text_at b import_header_size
    → dll ≡ text_at b (import_header_size + (length s + 1)) → x ≡ text_at b (import_header_size + (length s + 1) + (length dll + 1)) → h.name_type / 4 ≡ 4
    → short h.machine h.ordinal_or_hint (h.name_type % 4) (h.name_type / 4) s dll x ≡ short_guess b
short-as-guessed {h} {s} {dll} b eh es ed ex n =
    ap (short_with b h s dll) ex
    ∙ ap (λ (q : Bool). short_with b h s dll (if q then text_at b (import_header_size + (length s + 1) + (length dll + 1)) else [])) (sym (eq-eqb (h.name_type / 4) 4 n))
    ∙ short-guessed b eh es ed

-- of a machine or types that are not admitted
short-untyped : (m o k t : ℕ) (s dll x : Bytes) → admits_types m k t ≡ false → admits (short m o k t s dll x) ≡ false
unfolding admits admits_types
short-untyped m o k t s dll x e =
    pick (known m) (not (eqb m arm64x)) (ltb o 65536) (leb k 2) (leb t 4) (between 1 8190 s) (admits_dll dll) (admits_export t x) e
  where
    pick : (a b q c d f g h : Bool) → (a && b && c && d) ≡ false → (a && b && q && c && d && f && g && h) ≡ false
    pick false b q c d f g h e = refl
    pick true false q c d f g h e = refl
    pick true true false c d f g h e = refl
    pick true true true false d f g h e = refl
    pick true true true true false f g h e = refl
    pick true true true true true f g h e = absurd (true≢false e)

pub short-types-barred : {h : ImportObjectHeader} (b : Bytes) → h ≡ import_header_at b 0 → admits_types h.machine (h.name_type % 4) (h.name_type / 4) ≡ false
    → admits (short_guess b) ≡ false
unfolding short_guess
short-types-barred b eh e =
    short-untyped _ _ _ _ _ _ _ (ap (λ (h : ImportObjectHeader). admits_types h.machine (h.name_type % 4) (h.name_type / 4)) (sym eh) ∙ e)

-- ---- the layouts told apart

module _ (k n : ℕ) (b : Bytes) where
  pub object-descriptor : k ≡ 7 → descriptor_guess b ≡ object_guess k n b
  unfolding object_guess
  object-descriptor e = rw (eq-eqb k 7 e)

  pub object-weak : (k ≡ 7 → ⊥) → k ≡ 5 → weak_guess b ≡ object_guess k n b
  unfolding object_guess
  object-weak d e = rw (ne_eqb k 7 d, eq-eqb k 5 e)

  pub object-null : (k ≡ 7 → ⊥) → (k ≡ 5 → ⊥) → n ≡ 1 → null_guess b ≡ object_guess k n b
  unfolding object_guess
  object-null d w e = rw (ne_eqb k 7 d, ne_eqb k 5 w, eq-eqb n 1 e)

  pub object-thunk : (k ≡ 7 → ⊥) → (k ≡ 5 → ⊥) → (n ≡ 1 → ⊥) → thunk_guess b ≡ object_guess k n b
  unfolding object_guess
  object-thunk d w e = rw (ne_eqb k 7 d, ne_eqb k 5 w, ne_eqb n 1 e)

-- of a machine that is not ordinary
object-barred : (k n : ℕ) (b : Bytes) → ordinary (u16_at b 0) ≡ false → admits (object_guess k n b) ≡ false
unfolding object_guess descriptor_guess weak_guess null_guess thunk_guess admits
object-barred k n b e = pick (eqb k 7) (eqb k 5) (eqb n 1)
  where
    pick : (d w z : Bool) → admits (if d then descriptor_guess b else if w then weak_guess b else if z then null_guess b else thunk_guess b) ≡ false
    pick true w z = rw e
    pick false true z = rw e
    pick false false true = rw e
    pick false false false = rw e

-- ---- any bytes

pub answer-short : {r : Result Read Refusal} (b : Bytes) → u16_at b 0 ≡ 0 → r ≡ answer b (short_guess b) → r ≡ read_fields b
unfolding read_fields read answer guess
answer-short b e f = f ∙ rw (eq-eqb (u16_at b 0) 0 e)

guess-object : (b : Bytes) → (u16_at b 0 ≡ 0 → ⊥) → object_guess (u32_at b 12) (u16_at b 2) b ≡ guess b
unfolding guess object_guess
guess-object b n = rw (ne_eqb (u16_at b 0) 0 n)

answer-guess : (b : Bytes) → answer b (guess b) ≡ read_fields b
unfolding read_fields read answer
answer-guess b = refl

pub answer-object : {r : Result Read Refusal} {k n : ℕ} (b : Bytes) → (u16_at b 0 ≡ 0 → ⊥) → k ≡ u32_at b 12 → n ≡ u16_at b 2 → r ≡ answer b (object_guess k n b) → r ≡ read_fields b
answer-object b d ek en f =
    f ∙ ap₂ (λ (k n : ℕ). answer b (object_guess k n b)) ek en ∙ ap (answer b) (guess-object b d) ∙ answer-guess b

pub read-barred : (b : Bytes) → (u16_at b 0 ≡ 0 → ⊥) → ordinary (u16_at b 0) ≡ false → Err (refusal NotAMember 0) ≡ read_fields b
read-barred b d e =
    barred b (object_guess (u32_at b 12) (u16_at b 2) b) (object-barred (u32_at b 12) (u16_at b 2) b e) ∙ ap (answer b) (guess-object b d) ∙ answer-guess b

-- every member has a header
encode-long : (m : Member) → 20 ≤ length (encode m)
encode-long (descriptor m dll compat) = omega (arith, length-encode-descriptor m dll compat)
encode-long (null_descriptor m none) = omega (arith, length-encode-null_descriptor-none m)
encode-long (null_descriptor m (some s)) = omega (arith, length-encode-null_descriptor-some m s)
encode-long (null_thunk m s) = omega (arith, length-encode-null_thunk m s)
encode-long (short m o k t s dll x) = omega (arith, length-encode-short m o k t s dll x)
encode-long (weak m target alias) = omega (arith, length-encode-weak m target alias)

pub read-shorter : (b : Bytes) → length b < 20 → Err (refusal NotAMember 0) ≡ read_fields b
unfolding answer right fields_or_refused
read-shorter b h = rw (same-longer (encode (guess b)) b (λ e. omega (arith, encode-long (guess b)))) (pick (admits (guess b))) ∙ answer-guess b
  where
    pick : (a : Bool) → Err (refusal NotAMember 0) ≡ fields_or_refused (if a && false then some (guess b) else none)
    pick true = refl
    pick false = refl
