-- 01, "Refusal numbers", and 19 of document 02: the paper's number of each reason to refuse.
use Rattle.std.specs.Prelude.{ℕ}
use Rattle.format.specs.declared.Reason.{Reason}
use Rattle.format.specs.declared.Reason.TheVariants.{UnknownMachine, TooShort, TooMany, WrongLayout, OutsideNames, EmptyString, TooLong, HasNul, UnknownFlag, BarredDll, NotRenamed, NoPublicName, NotMangled, NotDemangled, NoRoom, NotAMember, NotASet, FewSlots}

unfoldable pub number_of : Reason → ℕ
number_of UnknownMachine = 1
number_of TooShort = 2
number_of TooMany = 3
number_of WrongLayout = 4
number_of OutsideNames = 5
number_of EmptyString = 6
number_of TooLong = 7
number_of HasNul = 8
number_of UnknownFlag = 9
number_of BarredDll = 10
number_of NotRenamed = 11
number_of NoPublicName = 12
number_of NotMangled = 13
number_of NotDemangled = 14
number_of NoRoom = 15
number_of NotAMember = 16
number_of NotASet = 17
number_of FewSlots = 19
