-- `walks::walk::draw_final` meets its contract.
use mathlib.Core.Path.{sym, ◌∙◌}
use Rattle.wire.proofs.Bytes.{not-true, not-false}
use Rattle.walks.proofs.Pens.{room-as, drew-as}
use native.Mathlib.Omega.{arith}
use Rattle.walks.proofs.Imports.{naming, final-plain, final-hashed}
use Rattle.walks.proofs.walk.draw_final.Goals as goal

pub draw_source-requires : goal.draw_source-requires
draw_source-requires c = record { room = room-as (naming _ _ _ _ _ (sym (final-plain _ c.args.short.hashed (not-true _ c.if-not-short.true)))) c.requires.room; sym_len_bound = (omega (arith, c.requires.dll_len_bound.1), omega (arith, c.requires.dll_len_bound.0), omega (arith, c.requires.dll_len_bound.1)) }

pub returns-then-not-short : goal.returns-then-not-short
returns-then-not-short c =
    drew-as (naming _ _ _ _ _ (final-plain _ c.args.short.hashed (not-true _ c.if-not-short.true))) c.draw_source.ensures

pub draw_source-requires-2 : goal.draw_source-requires-2
draw_source-requires-2 c = record { room = room-as (naming _ _ _ _ _ (sym (final-hashed _ c.args.short.hashed (not-false _ c.if-not-short.false) (c.as_slice.ensures.bytes ∙ c.mangled-name.ensures.name)))) c.requires.room; sym_len_bound = (omega (arith, c.as_slice.ensures.len, c.mangled-name.ensures.fits), omega (arith, c.requires.dll_len_bound.0), omega (arith, c.requires.dll_len_bound.1)) }

pub returns : goal.returns
returns c =
    drew-as (naming _ _ _ _ _ (final-hashed _ c.args.short.hashed (not-false _ c.if-not-short.false) (c.as_slice.ensures.bytes ∙ c.mangled-name.ensures.name)))
    c.draw_source-2.ensures
