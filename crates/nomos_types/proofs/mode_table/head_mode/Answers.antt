use Rattle.std.proofs.Common.{◌∙◌, Some, ap}
use Rattle.nomos_types.proofs.Nodes.{named-below}
use Rattle.nomos_types.proofs.mode_table.head_mode.Goals as goal

pub definition-requires : goal.definition-requires
definition-requires c =
    rw c.lists-lists.ensures.lists
    (named-below _ c.args.t.0 c.in-Named.id c.lists-lists.ensures.program (c.node.ensures ∙ ap Some c.in-Named.is))
