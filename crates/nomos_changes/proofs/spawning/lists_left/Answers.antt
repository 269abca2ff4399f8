use Rattle.std.proofs.Common.{◌∙◌, sym}
use Rattle.nomos_changes.proofs.BirthLemmas.{hands-no_list}
use Rattle.nomos_changes.proofs.spawning.lists_left.Goals as goal

pub returns-in_ok-without_lists : goal.returns-in_ok-without_lists
returns-in_ok-without_lists g c a s p there =
    c.in_ok-without_lists.ensures a s p (sym (c.lists.ensures p there))

pub returns-else-has_list : goal.returns-else-has_list
returns-else-has_list g c a s p there =
    hands-no_list a s p c.args.args.now p (sym c.has_list.ensures ∙ c.if-has_list.false)
