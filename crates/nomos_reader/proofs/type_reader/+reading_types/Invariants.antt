use Rattle.std.proofs.Common.{◌≡◌, ◌+◌, ◌-◌, ◌*◌, [], length, map}
use Rattle.nomos_reader.specs.mirror.Front.{is_bar, read_parted}
use Rattle.nomos_reader.specs.mirror.Types.{read_branch, read_type}
use Rattle.nomos_surface.specs.TypeView.{branch_tree}
use Rattle.nomos_reader.proofs.type_reader.+reading_types.Given as goal

abbrev pub decreases-read_type : goal.decreases-read_type
decreases-read_type l = 7 * l.room

abbrev pub decreases-read_open_type : goal.decreases-read_open_type
decreases-read_open_type l = 7 * l.room + 6

abbrev pub decreases-read_up : goal.decreases-read_up
decreases-read_up l = 7 * l.room + 1

abbrev pub decreases-read_down : goal.decreases-read_down
decreases-read_down l = 7 * l.room + 1

abbrev pub decreases-read_paying : goal.decreases-read_paying
decreases-read_paying l = 7 * l.room + 1

abbrev pub decreases-read_valued : goal.decreases-read_valued
decreases-read_valued l = 7 * l.room + 1

abbrev pub decreases-read_carrying : goal.decreases-read_carrying
decreases-read_carrying l = 7 * l.room + 5

abbrev pub decreases-read_atom : goal.decreases-read_atom
decreases-read_atom l = 7 * l.room + 4

abbrev pub decreases-read_grouped : goal.decreases-read_grouped
decreases-read_grouped l = 7 * l.room + 1

abbrev pub decreases-read_choice : goal.decreases-read_choice
decreases-read_choice l = 7 * l.room + 3

abbrev pub decreases-read_branches : goal.decreases-read_branches
decreases-read_branches l = 7 * l.room + 2

abbrev pub decreases-read_branch : goal.decreases-read_branch
decreases-read_branch l = 7 * l.room + 1

-- the branches that are left, behind those that were read, are all of them
abbrev pub invariant-read_branches-loop : goal.invariant-read_branches-loop
invariant-read_branches-loop l =
    read_parted (read_branch (read_type l.room)) is_bar (l.end - l.counter) (map branch_tree l.branches.items) l.tokens
    ≡ read_parted (read_branch (read_type l.room)) is_bar (length l.fn.tokens) [] l.fn.tokens
