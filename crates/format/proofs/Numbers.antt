-- No reason has the number 0, which stands for none.
use Prim.Native.Nat.{◌≤◌}
use native.Mathlib.Omega.{arith}
use Rattle.format.specs.Numbers.{number_of}
use Rattle.format.specs.declared.Reason.{Reason}
use Rattle.format.specs.declared.Reason.TheVariants.{UnknownMachine, TooShort, TooMany, WrongLayout, OutsideNames, EmptyString, TooLong, HasNul, UnknownFlag, BarredDll, NotRenamed, NoPublicName, NotMangled, NotDemangled, NoRoom, NotAMember, NotASet, FewSlots}

pub number-some : (r : Reason) → 1 ≤ number_of r
unfolding number_of
number-some UnknownMachine = omega arith
number-some TooShort = omega arith
number-some TooMany = omega arith
number-some WrongLayout = omega arith
number-some OutsideNames = omega arith
number-some EmptyString = omega arith
number-some TooLong = omega arith
number-some HasNul = omega arith
number-some UnknownFlag = omega arith
number-some BarredDll = omega arith
number-some NotRenamed = omega arith
number-some NoPublicName = omega arith
number-some NotMangled = omega arith
number-some NotDemangled = omega arith
number-some NoRoom = omega arith
number-some NotAMember = omega arith
number-some NotASet = omega arith
number-some FewSlots = omega arith
