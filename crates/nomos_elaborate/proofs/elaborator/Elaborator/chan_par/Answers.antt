use Rattle.std.proofs.Common.{arith}
use Rattle.nomos_elaborate.proofs.EntryLaws.{type_counts}
use Rattle.nomos_surface.specs.FileView.{chan_par_tree}
use Rattle.nomos_elaborate.proofs.elaborator.Elaborator.chan_par.Goals as goal

pub bind-requires : goal.bind-requires
bind-requires c = let one = type_counts (chan_par_tree c.args.par.now).goes in omega arith
