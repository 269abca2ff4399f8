use Rattle.nomos_equality.specs.mirror.Linking.{same}
use Rattle.nomos_equality.proofs.type_classes.TypeClasses.over.Goals as goal

pub returns-in-None-clause-linked : goal.returns-in-None-clause-linked
returns-in-None-clause-linked c = same c.args.t
