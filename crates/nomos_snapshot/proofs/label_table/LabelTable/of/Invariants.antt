-- The texts that were kept are the first labels.
use Rattle.std.proofs.Common.{◌≡◌, map, take}
use Rattle.nomos_snapshot.proofs.label_table.LabelTable.of.Given as goal

abbrev pub invariant-loop-label : goal.invariant-loop-label
invariant-loop-label l = map (λ text. text.items) l.texts.keys ≡ take l.label-index l.label-items
