use Rattle.nomos_types.proofs.Nodes.{named-below, body-below, named-unfolds, constructor-unfolds, not_named-constructor}
use Rattle.std.proofs.Common.{Some, ap, ◌∙◌}
use Rattle.nomos_types.proofs.unfolding.unfold.Goals as goal

pub definition-requires : goal.definition-requires
definition-requires c =
    rw c.lists-lists.ensures.lists
    (named-below _ c.args.t.0 c.in-Named.id c.lists-lists.ensures.program (c.node.ensures ∙ ap Some c.in-Named.is))

pub returns-in-Named-clause-in_range : goal.returns-in-Named-clause-in_range
returns-in-Named-clause-in_range c =
    let there = rw c.lists-lists.ensures.lists at c.definition.ensures in
    body-below _ c.in-Named.id.0 c.definition.result.now c.lists-lists.ensures.program there

pub returns-in-Named-clause-unfolds : goal.returns-in-Named-clause-unfolds
returns-in-Named-clause-unfolds c =
    let there = rw c.lists-lists.ensures.lists at c.definition.ensures in
    named-unfolds _ c.args.t.0 c.in-Named.id c.definition.result.now c.lists-lists.ensures.program
    c.requires.contractive (c.node.ensures ∙ ap Some c.in-Named.is) there

pub returns-in_default : goal.returns-in_default
returns-in_default c =
    record {
      in_range = c.requires.in_range;
      unfolds =
          constructor-unfolds c.args.program.now c.args.t.0 c.node.result.now c.node.ensures
          (not_named-constructor _ c.in_default.not-Named);
    }
