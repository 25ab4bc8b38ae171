-- The null import descriptor's name, by the flag that decides it.
use mathlib.Core.Path.{◌≡◌, refl, sym}
use mathlib.Core.Bool.{Bool, true, false, false≢true}
use mathlib.Core.List.{◌++◌}
use Rattle.wire.specs.Bytes.{Bytes, ascii}
use Rattle.format.specs.Layouts.{null_name, compat_stem}

pub null_name-compat : (compat : Bool) (s : Bytes) → compat ≡ true → ascii "__NULL_IMPORT_DESCRIPTOR_" ++ s ≡ null_name (compat_stem compat s)
unfolding null_name compat_stem
null_name-compat true s e = refl
null_name-compat false s e = absurd (false≢true e)

pub null_name-plain : (compat : Bool) (s : Bytes) → compat ≡ false → ascii "__NULL_IMPORT_DESCRIPTOR" ≡ null_name (compat_stem compat s)
unfolding null_name compat_stem
null_name-plain true s e = absurd (false≢true (sym e))
null_name-plain false s e = refl
