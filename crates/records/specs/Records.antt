-- The records' bytes, by the scope paper's layouts, and the records in the bytes at a place.
use Rattle.std.specs.Prelude.{ℕ, ◌+◌, ◌-◌, get_or, ℤ, pos, negsuc, ltb, if◌then◌else◌}
use Rattle.wire.specs.Bytes.{Bytes, u16_at, u32_at, part}
use Rattle.format.specs.Layouts.{file_header, section, reloc, symbol, import_header}
use Rattle.records.specs.declared.FileHeader.{FileHeader}
use Rattle.records.specs.declared.Section.{Section}
use Rattle.records.specs.declared.Relocation.{Relocation}
use Rattle.records.specs.declared.Symbol.{Symbol}
use Rattle.records.specs.declared.ImportObjectHeader.{ImportObjectHeader}

-- ---- a record's bytes

abbrev pub file_header_bytes : FileHeader → Bytes
file_header_bytes h =
    file_header h.machine h.number_of_sections h.pointer_to_symbol_table h.number_of_symbols h.characteristics

abbrev pub section_bytes : Section → Bytes
section_bytes h =
    section h.name h.size_of_raw_data h.pointer_to_raw_data h.pointer_to_relocations h.number_of_relocations h.characteristics

abbrev pub relocation_bytes : Relocation → Bytes
relocation_bytes h = reloc h.virtual_address h.symbol_table_index h.typ

abbrev pub symbol_bytes : Symbol → Bytes
symbol_bytes h = symbol h.name h.section_number h.storage_class h.number_of_aux_symbols

abbrev pub import_header_bytes : ImportObjectHeader → Bytes
import_header_bytes h = import_header h.machine h.size_of_data h.ordinal_or_hint h.name_type

-- ---- the record at a place

abbrev pub file_header_at : Bytes → ℕ → FileHeader
file_header_at b at =
    record {
      machine = u16_at b at;
      number_of_sections = u16_at b (at + 2);
      pointer_to_symbol_table = u32_at b (at + 8);
      number_of_symbols = u32_at b (at + 12);
      characteristics = u16_at b (at + 18);
    }

-- the signed number of sixteen bits: below 32768 itself, else 65536 less (negsuc k is -(k + 1))
unfoldable pub signed : ℕ → ℤ
signed w = if ltb w 32768 then pos w else negsuc (65535 - w)

abbrev pub symbol_at : Bytes → ℕ → Symbol
symbol_at b at =
    record {
      name = part b at 8;
      section_number = signed (u16_at b (at + 12));
      storage_class = get_or b (at + 16) 0;
      number_of_aux_symbols = get_or b (at + 17) 0;
    }

abbrev pub import_header_at : Bytes → ℕ → ImportObjectHeader
import_header_at b at =
    record {
      machine = u16_at b (at + 6);
      size_of_data = u32_at b (at + 12);
      ordinal_or_hint = u16_at b (at + 16);
      name_type = u16_at b (at + 18);
    }
