-- What a built name holds.
use Rattle.std.specs.Prelude.{◌≤◌, ◌≡◌, length, take}
use Rattle.wire.specs.Bytes.{Bytes}
use Rattle.names.specs.declared.built.BuiltName.{BuiltName}

-- its used part
abbrev pub name_of : BuiltName → Bytes
name_of n = take n.len n.bytes

-- it holds b
pub record Built (b : Bytes) (n : BuiltName) : Type 0 where
  pub name : name_of n ≡ b
  pub len : n.len ≡ length b
  pub fits : n.len ≤ 8190
