-- A mirror of the code: the pairs that were told.
use Rattle.std.specs.Prelude.{List, [], ◌∷◌, ◌++◌}
use Rattle.nomos_ir.specs.declared.ids.TypeId.{TypeId}
use Rattle.nomos_equality.specs.declared.told_pairs.ToldPairs.{ToldPairs, Nothing, Same', Then'}

-- in the order in which they were told
abbrev pub pairs_of : ToldPairs → List (TypeId × TypeId)
pairs_of Nothing = []
pairs_of (Same' p before) = pairs_of before
pairs_of (Then' p before left right) = pairs_of before ++ (left, right) ∷ []
