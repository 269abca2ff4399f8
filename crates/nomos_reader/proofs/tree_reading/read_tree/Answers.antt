use Rattle.nomos_reader.proofs.FoundLaws.{read-is_tree}
use Rattle.nomos_reader.proofs.tree_reading.read_tree.Goals as goal
use Rattle.nomos_surface.specs.FileView.{file_tree}

pub returns : goal.returns
returns c = read-is_tree file_tree c.read_file.result _ _ c.new.ensures c.read_file.ensures
