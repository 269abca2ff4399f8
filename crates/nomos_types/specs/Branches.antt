-- The branches of a choice, as a map from labels to types.
use Rattle.std.specs.Prelude.{◌==◌, List, find, Option}
use Rattle.std.specs.Option.{option_map}
use Rattle.nomos_ir.specs.declared.ids.Label.{Label}
use Rattle.nomos_ir.specs.declared.ids.TypeId.{TypeId}
use Rattle.nomos_ir.specs.declared.type_node.Branch.{Branch}

-- the type with which a choice goes on after a label
abbrev pub goes_by : List Branch → Label → Option TypeId
goes_by branches l = option_map (λ b. b.goes) (find (λ b. b.label.0 == l.0) branches)
