-- The reader of a record undoes its writer: where a record's bytes stand, the record at that place is that record.
use Prim.Native.Nat.{ℕ, ◌+◌, ◌<◌, ◌≤◌}
use mathlib.Core.Path.{◌≡◌, sym, ap, ◌∙◌}
use mathlib.Core.List.{◌++◌}
use native.Mathlib.Omega.{arith}
use lib.ListN.{length, drop, get_or, length-append}
use mir.Syntax.{w16}
use mir.Val.{SFits}
use Rattle.wire.specs.Bytes.{Bytes, join, part, u16_at, u32_at}
use Rattle.wire.specs.Writes.{Wrote, Has}
use Rattle.wire.proofs.Writes.{tab, array}
use Rattle.format.specs.Layouts.{file_header_size, symbol_size, import_header_size, file_header, symbol, import_header, word}
use Rattle.records.specs.declared.FileHeader.{FileHeader}
use Rattle.records.specs.declared.Symbol.{Symbol}
use Rattle.records.specs.declared.ImportObjectHeader.{ImportObjectHeader}
use Rattle.records.specs.Records.{file_header_bytes, file_header_at, symbol_bytes, symbol_at, import_header_bytes, import_header_at}
use Rattle.records.proofs.Words.{word-small, signed-word}
use Rattle.records.proofs.Fields.{drop-further, byte-there, part-there, u16-there, u32-there, wrote-has}

-- ---- the fields are within their widths, as those of every struct of the code

pub record FileHeaderFits (h : FileHeader) : Type 0 where
  pub machine : h.machine < 65536
  pub sections : h.number_of_sections < 65536
  pub symbol_table : h.pointer_to_symbol_table < 4294967296
  pub symbols : h.number_of_symbols < 4294967296
  pub characteristics : h.characteristics < 65536

pub record SymbolFits (h : Symbol) : Type 0 where
  pub name : length h.name ≡ 8
  pub section : SFits w16 h.section_number

pub record ImportHeaderFits (h : ImportObjectHeader) : Type 0 where
  pub machine : h.machine < 65536
  pub size : h.size_of_data < 4294967296
  pub ordinal : h.ordinal_or_hint < 65536
  pub types : h.name_type < 65536

-- ---- a record that stands at a place is read back

module _ {b : Bytes} {at : ℕ} where
  pub file_header-back : {h : FileHeader} → FileHeaderFits h → Has b at (file_header_bytes h) → file_header_at b at ≡ h
  unfolding file_header join
  file_header-back {h} f p =
      let e = p.there in
      let m : u16_at b at ≡ h.machine = u16-there b at _ f.machine e in
      let n : u16_at b (at + 2) ≡ h.number_of_sections = u16-there b (at + 2) _ f.sections (drop-further b at 2 e) in
      let t : u32_at b (at + 8) ≡ h.pointer_to_symbol_table = u32-there b (at + 8) _ f.symbol_table (drop-further b at 8 e) in
      let k : u32_at b (at + 12) ≡ h.number_of_symbols = u32-there b (at + 12) _ f.symbols (drop-further b at 12 e) in
      let c : u16_at b (at + 18) ≡ h.characteristics = u16-there b (at + 18) _ f.characteristics (drop-further b at 18 e) in
      rw (m, n, t, k, c)

  pub symbol-back : {h : Symbol} → SymbolFits h → Has b at (symbol_bytes h) → symbol_at b at ≡ h
  unfolding symbol join
  symbol-back {h} f p =
      let a = array 8 h.name f.name in
      let z = h.section_number in
      let c = h.storage_class in
      let x = h.number_of_aux_symbols in
      let e : drop at b ≡ symbol (tab 8 0 h.name) z c x ++ p.rest = p.there ∙ ap (λ (n : Bytes). symbol n z c x ++ p.rest) a in
      let n : part b at 8 ≡ h.name = part-there b at 8 e ∙ sym a in
      let w : u16_at b (at + 12) ≡ word z = u16-there b (at + 12) _ (word-small z f.section) (drop-further b at 12 e) in
      let c : get_or b (at + 16) 0 ≡ c = byte-there b (at + 16) _ (drop-further b at 16 e) in
      let x : get_or b (at + 17) 0 ≡ x = byte-there b (at + 17) _ (drop-further b at 17 e) in
      rw (n, w, signed-word z f.section, c, x)

  pub import_header-back : {h : ImportObjectHeader} → ImportHeaderFits h → Has b at (import_header_bytes h) → import_header_at b at ≡ h
  unfolding import_header join
  import_header-back {h} f p =
      let e = p.there in
      let m : u16_at b (at + 6) ≡ h.machine = u16-there b (at + 6) _ f.machine (drop-further b at 6 e) in
      let z : u32_at b (at + 12) ≡ h.size_of_data = u32-there b (at + 12) _ f.size (drop-further b at 12 e) in
      let o : u16_at b (at + 16) ≡ h.ordinal_or_hint = u16-there b (at + 16) _ f.ordinal (drop-further b at 16 e) in
      let t : u16_at b (at + 18) ≡ h.name_type = u16-there b (at + 18) _ f.types (drop-further b at 18 e) in
      rw (m, z, o, t)

-- ---- what was written, where there is room for it, is read back

length-symbol : (h : Symbol) → length h.name ≡ 8 → length (symbol_bytes h) ≡ symbol_size
unfolding symbol join
length-symbol h e = simp length-append (omega arith)

module _ {l l' : Bytes} {at r : ℕ} where
  pub file_header-written : {h : FileHeader} → FileHeaderFits h → Wrote l at (file_header_bytes h) l' r → at + file_header_size ≤ length l → file_header_at l' at ≡ h
  unfolding file_header join
  file_header-written f w room = file_header-back f (wrote-has w room)

  pub symbol-written : {h : Symbol} → SymbolFits h → Wrote l at (symbol_bytes h) l' r → at + symbol_size ≤ length l → symbol_at l' at ≡ h
  symbol-written {h} f w room = symbol-back f (wrote-has w (omega (arith, length-symbol h f.name)))

  pub import_header-written : {h : ImportObjectHeader} → ImportHeaderFits h → Wrote l at (import_header_bytes h) l' r → at + import_header_size ≤ length l → import_header_at l' at ≡ h
  unfolding import_header join
  import_header-written f w room = import_header-back f (wrote-has w room)
