-- `coff::machines::Machine::native` meets its contract: each row of the table is its number's.
use Rattle.coff.proofs.Rows.{i386-row, armnt-row, amd64-row, arm64-row, arm64ec-row, arm64x-row}
use Rattle.coff.proofs.machines.Machine.native.Goals as goal

pub invariant_of-result : goal.invariant_of-result
invariant_of-result c = record { row = i386-row }

pub invariant_of-result-then-is_arm64ec : goal.invariant_of-result-then-is_arm64ec
invariant_of-result-then-is_arm64ec c = record { row = armnt-row }

pub invariant_of-result-then-is_arm64ec-2 : goal.invariant_of-result-then-is_arm64ec-2
invariant_of-result-then-is_arm64ec-2 c = record { row = amd64-row }

pub invariant_of-result-then-is_arm64ec-3 : goal.invariant_of-result-then-is_arm64ec-3
invariant_of-result-then-is_arm64ec-3 c = record { row = arm64-row }

pub invariant_of-result-then-is_arm64ec-4 : goal.invariant_of-result-then-is_arm64ec-4
invariant_of-result-then-is_arm64ec-4 c = record { row = arm64ec-row }

pub invariant_of-result-then-is_arm64ec-5 : goal.invariant_of-result-then-is_arm64ec-5
invariant_of-result-then-is_arm64ec-5 c = record { row = arm64x-row }
