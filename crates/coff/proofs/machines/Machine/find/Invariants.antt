-- `coff::machines::Machine::find` meets its contract. The loop's invariant: what is left of the table has the number where it is known.
use mathlib.Core.Path.{◌≡◌}
use lib.ListN.{drop}
use Rattle.format.specs.Machines.{known}
use Rattle.coff.proofs.Table.{held}
use Rattle.coff.proofs.machines.Machine.find.Given as goal

abbrev pub invariant-loop-m : goal.invariant-loop-m
invariant-loop-m l = held l.number (drop l.m-index l.m-items) ≡ known l.number
