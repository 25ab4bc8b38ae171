-- The six rows of the table are those of their numbers.
use mathlib.Core.Path.{refl}
use mathlib.Core.Bool.{true, false}
use Rattle.format.specs.Machines.{known, relocation, wide, i386, armnt, amd64, arm64, arm64ec, arm64x, IMAGE-REL-I386-DIR32NB, IMAGE-REL-ARM-ADDR32NB, IMAGE-REL-AMD64-ADDR32NB, IMAGE-REL-ARM64-ADDR32NB}
use Rattle.coff.specs.Rows.{IsRow}

pub i386-row : IsRow i386 IMAGE-REL-I386-DIR32NB false
unfolding known relocation wide
i386-row = record { known = refl; relocation = refl; wide = refl }

pub armnt-row : IsRow armnt IMAGE-REL-ARM-ADDR32NB false
unfolding known relocation wide
armnt-row = record { known = refl; relocation = refl; wide = refl }

pub amd64-row : IsRow amd64 IMAGE-REL-AMD64-ADDR32NB true
unfolding known relocation wide
amd64-row = record { known = refl; relocation = refl; wide = refl }

pub arm64-row : IsRow arm64 IMAGE-REL-ARM64-ADDR32NB true
unfolding known relocation wide
arm64-row = record { known = refl; relocation = refl; wide = refl }

pub arm64ec-row : IsRow arm64ec IMAGE-REL-ARM64-ADDR32NB true
unfolding known relocation wide
arm64ec-row = record { known = refl; relocation = refl; wide = refl }

pub arm64x-row : IsRow arm64x IMAGE-REL-ARM64-ADDR32NB true
unfolding known relocation wide
arm64x-row = record { known = refl; relocation = refl; wide = refl }
