-- What becomes of a name that is renamed.
use Rattle.std.specs.Prelude.{◌+◌, ◌-◌, ◌≤◌, ◌≡◌, ◌++◌, length, take, drop, Option, None, Some, IfSome}
use Rattle.std.proofs.Math.Option as definition
use Rattle.std.proofs.Math.Option.{none, some}
use Rattle.wire.specs.Bytes.{Bytes}
use Rattle.names.specs.Built.{name_of}
use Rattle.names.specs.declared.built.BuiltName.{BuiltName}
use Rattle.names.specs.declared.rename.Splice.{Splice}

-- the bytes of s, with those from at to end replaced by those of to from skip on
abbrev pub spliced_of : Bytes → Bytes → Splice → Bytes
spliced_of s to p = take p.at s ++ drop p.skip to ++ drop p.end s

-- the name that comes about
unfoldable pub renamed_of : Bytes → Bytes → Option Splice → definition.Option Bytes
renamed_of s to (Some p) = some (spliced_of s to p)
renamed_of s to None = none

-- the places of a splice are in order, and within s and to
pub record Ordered (s to : Bytes) (p : Splice) : Type 0 where
  pub ordered : p.at ≤ p.end
  pub inside : p.end ≤ length s
  pub skipped : p.skip ≤ length to

-- r says how the wanted name comes about, by places within s and to
pub record Located (s to : Bytes) (wanted : definition.Option Bytes) (r : Option Splice) : Type 0 where
  pub name : renamed_of s to r ≡ wanted
  pub places : IfSome r (Ordered s to)

-- the places of a splice are within, and a built name holds the result
pub record Room (s to : Bytes) (p : Splice) : Type 0 where
  pub before : p.at ≤ length s
  pub after : p.end ≤ length s
  pub skipped : p.skip ≤ length to
  pub fits : p.at + (length to - p.skip) + (length s - p.end) ≤ 8190

-- the name that r holds
abbrev pub named_of : Option BuiltName → definition.Option Bytes
named_of (Some n) = some (name_of n)
named_of None = none

-- r holds the wanted name, or says that there is none
pub record Renamed (wanted : definition.Option Bytes) (r : Option BuiltName) : Type 0 where
  pub name : named_of r ≡ wanted
  pub fits : IfSome r (λ n. n.len ≤ 8189)
