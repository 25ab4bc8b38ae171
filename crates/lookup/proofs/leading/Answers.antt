-- `lookup::leading` meets its contract.
use mathlib.Core.Path.{sym, ap, ◌∙◌}
use Rattle.std.specs.Result.{result_ok}
use Rattle.lookup.proofs.Saying.{said-as, said-fixed, read-some, read-none}
use Rattle.lookup.proofs.Numbering.{led-short, led-weak, led-mute}
use Rattle.lookup.proofs.leading.Goals as goal

pub returns-in_err-ordinal : goal.returns-in_err-ordinal
returns-in_err-ordinal c =
    rw c.from_residual.ensures
    (led-mute _ _ c.member_at-member.ensures.0 (read-none _ (ap result_ok (sym c.read.ensures) ∙ sym c.ok.ensures.value ∙ c.in_err-ordinal.was)))

pub entry-requires-clause-inside : goal.entry-requires-clause-inside
entry-requires-clause-inside c =
    let h = said-as _ _ (read-some _ (sym c.ok.ensures.value ∙ c.in_ok-ordinal.was) ∙ c.read.ensures) c.in-ShortImport.is in
    (h.symbol, h.export)

pub part-requires : goal.part-requires
part-requires c =
    (said-as _ _ (read-some _ (sym c.ok.ensures.value ∙ c.in_ok-ordinal.was) ∙ c.read.ensures) c.in-WeakExternal.is).to.inside

pub returns-in-ShortImport : goal.returns-in-ShortImport
returns-in-ShortImport c =
    let e = read-some _ (sym c.ok.ensures.value ∙ c.in_ok-ordinal.was) ∙ c.read.ensures in
    led-short _ _ c.member_at-member.ensures.0 (said-as _ _ e c.in-ShortImport.is) c.offset_at-at.ensures c.entry.ensures

pub returns-in-WeakExternal : goal.returns-in-WeakExternal
returns-in-WeakExternal c =
    let e = read-some _ (sym c.ok.ensures.value ∙ c.in_ok-ordinal.was) ∙ c.read.ensures in
    led-weak _ _ c.member_at-member.ensures.0 _ (said-as _ _ e c.in-WeakExternal.is) c.part.ensures

pub returns-in-Descriptor : goal.returns-in-Descriptor
returns-in-Descriptor c =
    let e = read-some _ (sym c.ok.ensures.value ∙ c.in_ok-ordinal.was) ∙ c.read.ensures in
    led-mute _ _ c.member_at-member.ensures.0 (said-fixed _ e c.in-Descriptor.is)
