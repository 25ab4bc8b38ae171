-- A name type applied to a name.
use Rattle.std.specs.Prelude.{ℕ, ◌+◌, ◌≤◌, ◌≡◌, length}
use Rattle.wire.specs.Bytes.{Bytes, part}
use Rattle.format.specs.Names.{apply, dropped}
use Rattle.format.specs.declared.Span.{Span}

-- r is the part of the name that type t leaves
pub record Applied (t : ℕ) (name : Bytes) (r : Span) : Type 0 where
  pub start : r.start ≡ dropped t name
  pub size : r.length ≡ length (apply t name)
  pub bytes : part name r.start r.length ≡ apply t name
  pub within : r.start + r.length ≤ length name
