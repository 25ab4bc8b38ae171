-- `members::extents::null_descriptor_size` meets its contract.
use Rattle.members.proofs.Extending.{null-extent}
use Rattle.members.proofs.extents.null_descriptor_size.Goals as goal

pub returns : goal.returns
returns c =
    λ m. null-extent m _ c.args.stem.now c.args.compat c.null_name_len.ensures.0
