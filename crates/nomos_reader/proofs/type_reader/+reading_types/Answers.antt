use Rattle.std.proofs.Common.{[], length, sym, ◌∙◌}
use Rattle.nomos_reader.specs.mirror.Front.{is_bar, read_parted}
use Rattle.nomos_reader.specs.mirror.Types.{read_branch, read_type}
use Rattle.nomos_surface.specs.TypeView.{branch_tree}
use Rattle.nomos_reader.proofs.PartedLemmas.{last_item, next_item, no_item}
use Rattle.nomos_reader.proofs.RoomLemmas.{closed_type}
use Rattle.nomos_reader.proofs.type_reader.+reading_types.Goals as goal

pub read_branches-returns-then-not-at_bar : goal.read_branches-returns-then-not-at_bar
read_branches-returns-then-not-at_bar t c =
    last_item branch_tree (read_branch (read_type c.args.room)) is_bar c.len-end.result c.loop.counter
    c.loop.branches.items c.loop.tokens
    (read_parted (read_branch (read_type c.args.room)) is_bar (length c.args.tokens.now) [] c.args.tokens.now)
    c.in_ok-read_branch.field-0 c.read_branch.new.tokens c.push.new.self.items c.loop-test.true
    c.in_ok-read_branch.ensures
    (sym c.at_bar.ensures ∙ c.if-not-at_bar.true) c.in_ok-push.ensures.items c.loop.invariant

pub read_branches-loop-preserved : goal.read_branches-loop-preserved
read_branches-loop-preserved t c =
    next_item branch_tree (read_branch (read_type c.args.room)) is_bar c.len-end.result c.loop.counter
    c.loop.branches.items c.loop.tokens
    (read_parted (read_branch (read_type c.args.room)) is_bar (length c.args.tokens.now) [] c.args.tokens.now)
    c.in_ok-read_branch.field-0 c.read_branch.new.tokens c.push.new.self.items c.skip.new.self c.loop-test.true
    c.in_ok-read_branch.ensures
    (sym c.at_bar.ensures ∙ c.if-not-at_bar.false) c.in_ok-push.ensures.items c.skip.ensures.rest c.loop.invariant

pub read_branches-returns : goal.read_branches-returns
read_branches-returns t c =
    no_item branch_tree (read_branch (read_type c.args.room)) is_bar c.len-end.result c.loop.counter
    c.loop.branches.items c.loop.tokens
    (read_parted (read_branch (read_type c.args.room)) is_bar (length c.args.tokens.now) [] c.args.tokens.now)
    c.loop-test.false c.loop.invariant

pub read_type-returns-then-room-eq0 : goal.read_type-returns-then-room-eq0
read_type-returns-then-room-eq0 t c =
    c.read_one.ensures ∙ sym (closed_type c.args.room c.args.tokens.now c.if-room-eq0.true)
