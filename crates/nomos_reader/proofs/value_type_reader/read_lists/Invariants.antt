use Rattle.std.proofs.Common.{◌≡◌, [], length}
use Rattle.nomos_reader.specs.mirror.Front.{read_lists}
use Rattle.nomos_reader.proofs.value_type_reader.read_lists.Given as goal

abbrev pub decreases-loop-lists : goal.decreases-loop-lists
decreases-loop-lists l = length l.tokens

-- the words that are left, behind those that were read, are all of them
abbrev pub invariant-loop-lists : goal.invariant-loop-lists
invariant-loop-lists l = read_lists l.lists.items l.tokens ≡ read_lists [] l.fn.tokens
