-- `keys::resolve` meets its contract.
use Rattle.std.proofs.Common.{sym, refl, ◌∙◌, arith}
use Rattle.keys.proofs.Targets.{resolved-none}
use Rattle.keys.proofs.resolve.Goals as goal

pub returns-then-machine-eq-IMAGE_FILE_MACHINE_ARM64EC : goal.returns-then-machine-eq-IMAGE_FILE_MACHINE_ARM64EC
returns-then-machine-eq-IMAGE_FILE_MACHINE_ARM64EC c = (λ m. absurd (m c.if-machine-eq-IMAGE_FILE_MACHINE_ARM64EC.true), λ j g. refl)

pub returns-then-not-has_wanted : goal.returns-then-not-has_wanted
returns-then-not-has_wanted c =
    (λ m. resolved-none _ _ _ _ _ _ _ _ (sym c.has_wanted.ensures ∙ c.if-not-has_wanted.true) (omega arith) (omega arith), λ j g. refl)

pub invariant_of-run : goal.invariant_of-run
invariant_of-run c = record { checked = c.requires.b_value; not_arm64ec = c.if-machine-eq-IMAGE_FILE_MACHINE_ARM64EC.false; within = c.requires.from_le_to }

pub find_all-requires : goal.find_all-requires
find_all-requires c = record { in_bounds = omega (arith, c.insert_all.auto.slots, c.requires.in_bounds); entered = c.insert_all.ensures; list_in_bounds = c.requires.b_in_bounds }

pub returns : goal.returns
returns c =
    (λ m. c.find_all.ensures.0, c.find_all.ensures.1)
