-- `put::word`: the bytes are copied to their part of the buffer.
use Rattle.listing.specs.Laws.Put.{copied}
use Rattle.listing.proofs.put.word.Goals as goal

pub returns : goal.returns
returns c = copied _ _ _ c.requires c.copy_from_slice.ensures.after
