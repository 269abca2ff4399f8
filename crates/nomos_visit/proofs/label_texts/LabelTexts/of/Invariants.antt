-- The texts that were kept are the first labels.
use Rattle.std.proofs.Common.{◌≡◌, map, take}
use Rattle.nomos_visit.proofs.label_texts.LabelTexts.of.Given as goal

abbrev pub invariant-loop-label : goal.invariant-loop-label
invariant-loop-label l = map (λ text. text.now) l.texts.keys ≡ take l.label-index l.label-items
