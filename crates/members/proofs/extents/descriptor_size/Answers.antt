-- `members::extents::descriptor_size` meets its contract.
use native.Mathlib.Omega.{arith}
use Rattle.members.proofs.Sizes.{stem-within}
use Rattle.members.proofs.Extending.{descriptor-extent}
use Rattle.members.proofs.extents.descriptor_size.Goals as goal

pub null_name_len-null_len-requires : goal.null_name_len-null_len-requires
null_name_len-null_len-requires c =
    stem-within _ c.requires.stem c.requires.dll_len_bound

pub overflow_add-result-3 : goal.overflow_add-result-3
overflow_add-result-3 c =
    omega (arith, stem-within _ c.requires.stem c.requires.dll_len_bound, c.requires.dll_len_bound, c.null_name_len-null_len.ensures.1)

pub returns : goal.returns
returns c =
    λ m. descriptor-extent m _ _ _ c.args.compat c.requires.stem c.null_name_len-null_len.ensures.0
