-- No cells are no lists.
use Rattle.std.proofs.Common.{refl}
use Rattle.nomos_eval.specs.mirror.ListCell.{lists_of}
use Rattle.nomos_eval.proofs.list_store.Lists.new.Goals as goal

pub returns : goal.returns
unfolding lists_of
returns c = rw c.new.ensures.items refl
