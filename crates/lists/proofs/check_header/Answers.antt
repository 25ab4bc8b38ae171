-- `lists::check_header` meets its contract: each return has the facts that lead there.
use native.Mathlib.Omega.{arith}
use Rattle.format.proofs.Header.{header-2, header-3-first, header-3-native, header-4-records, header-4-names, header-4-end, header-fine}
use Rattle.lists.proofs.check_header.Goals as goal

pub returns-then-b-lt-HEADER_SIZE : goal.returns-then-b-lt-HEADER_SIZE
returns-then-b-lt-HEADER_SIZE c = rw c.at.ensures (header-2 _ (omega arith))

pub returns-then-first-gt-MAX_COUNT : goal.returns-then-first-gt-MAX_COUNT
returns-then-first-gt-MAX_COUNT c = rw c.at-then-first-gt-MAX_COUNT.ensures (header-3-first _ (omega arith) (omega arith))

pub returns-then-native-gt-MAX_COUNT : goal.returns-then-native-gt-MAX_COUNT
returns-then-native-gt-MAX_COUNT c = rw c.at-then-native-gt-MAX_COUNT.ensures (header-3-native _ (omega arith) (omega arith) (omega arith))

pub returns-then-u32_at-ne-HEADER_SIZE : goal.returns-then-u32_at-ne-HEADER_SIZE
returns-then-u32_at-ne-HEADER_SIZE c = rw c.at-then-u32_at-ne-HEADER_SIZE.ensures (header-4-records _ (omega arith) (omega arith) (omega arith) (omega arith))

pub returns-then-names-first : goal.returns-then-names-first
returns-then-names-first c = rw c.at-then-names-first.ensures (header-4-names _ (omega arith) (omega arith) (omega arith) (omega arith) (omega arith))

pub returns-then-b-names : goal.returns-then-b-names
returns-then-b-names c = rw c.at-then-b-names.ensures (header-4-end _ (omega arith) (omega arith) (omega arith) (omega arith) (omega arith) (omega arith))

pub returns : goal.returns
returns c = header-fine _ (omega arith) (omega arith) (omega arith) (omega arith) (omega arith) (omega arith)
