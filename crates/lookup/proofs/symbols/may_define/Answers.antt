-- `lookup::symbols::may_define` meets its contract.
use mathlib.Core.Path.{sym, ap, ◌∙◌}
use Rattle.records.specs.declared.FileHeader.{FileHeader}
use Rattle.lookup.proofs.Defining.{may-short, may-weak}
use Rattle.lookup.proofs.symbols.may_define.Goals as goal

pub returns-then-file-eq0 : goal.returns-then-file-eq0
returns-then-file-eq0 c =
    may-short _ _ (sym (ap (λ (h : FileHeader). h.machine) c.read-file.ensures) ∙ c.if-file-eq0.true) c.read-header.ensures c.text-name.ensures c.defines_short.ensures

pub returns-then-file-eq-WEAK_SYMBOLS : goal.returns-then-file-eq-WEAK_SYMBOLS
returns-then-file-eq-WEAK_SYMBOLS c =
    may-weak _ _ (λ e. c.if-file-eq0.false (ap (λ (h : FileHeader). h.machine) c.read-file.ensures ∙ e))
    (sym (ap (λ (h : FileHeader). h.number_of_symbols) c.read-file.ensures) ∙ c.if-file-eq-WEAK_SYMBOLS.true) c.text-target.ensures c.text-alias.ensures c.same.ensures
