-- `lists::check_string` meets its contract.
use native.Mathlib.Omega.{arith}
use mathlib.Core.Path.{refl, sym, ◌∙◌}
use Rattle.format.specs.Exports.{offset_of}
use Rattle.format.proofs.Strings.{string-5, string-absent, string-required, string-empty, string-7, string-8, string-fine}
use Rattle.lists.proofs.Records.{clean-part}
use borrow.Author.Rules.{rules}
use Rattle.lists.proofs.check_string.Goals as goal

pub returns-then-total-offset : goal.returns-then-total-offset
returns-then-total-offset c = rw c.at.ensures (string-5 _ _ _ _ _ (omega arith))

pub returns-then-required : goal.returns-then-required
returns-then-required c = rw c.at-then-required.ensures (string-required _ _ _ _ _ (omega arith) (omega arith) (omega arith) (search rules))

pub returns-then-offset-eq0 : goal.returns-then-offset-eq0
returns-then-offset-eq0 c = string-absent _ _ _ _ _ (omega arith) (omega arith) (omega arith) (search rules)

pub returns-then-len-eq0 : goal.returns-then-len-eq0
returns-then-len-eq0 c = rw c.at-then-len-eq0.ensures (string-empty _ _ _ _ _ (omega arith) (omega arith) (omega arith))

pub returns-then-limit-len : goal.returns-then-limit-len
returns-then-limit-len c = rw c.at-then-limit-len.ensures (string-7 _ _ _ _ _ (omega arith) (omega arith) (omega arith))

pub returns-then-clean : goal.returns-then-clean
returns-then-clean c =
    string-fine _ _ _ _ _ (omega arith) (omega arith) (omega arith) _ _ (clean-part _ _ (offset_of _ _) _ (sym c.if-clean.true ∙ c.requires.clean_value) refl)
    refl refl

pub returns-then-held_in : goal.returns-then-held_in
returns-then-held_in c = rw c.at-then-held_in.ensures (string-8 _ _ _ _ _ (omega arith) (omega arith) (omega arith) _ _ (sym c.held_in.ensures ∙ c.if-held_in.true) (omega arith) (omega arith))

pub returns : goal.returns
returns c = string-fine _ _ _ _ _ (omega arith) (omega arith) (omega arith) _ _ (sym c.held_in.ensures ∙ c.if-held_in.false) (omega arith) (omega arith)
