-- Where two types differ.
use Rattle.std.specs.Prelude.{◌≡◌, List}
use Rattle.nomos_ir.specs.declared.ids.TypeId.{TypeId}
use Rattle.nomos_ir.specs.declared.lists.ProgramLists.{ProgramLists}
use Rattle.nomos_ir.specs.declared.type_node.TypeNode.{TypeNode}
use Rattle.nomos_types.specs.Equality.{SameHead, no_amounts}
use Rattle.nomos_equality.specs.Paths.{AtEqualPaths}
use Rattle.nomos_equality.specs.declared.hop.Hop.{Hop}

-- the two nodes have the same constructor, labels and kind
abbrev pub SameForm : TypeNode → TypeNode → Type 0
SameForm left right = SameHead no_amounts (λ a b. Unit {0}) left right

-- at the end of the path the two types differ in constructor, labels or kind
pub record DifferAt (lists : ProgramLists) (a b : TypeId) (path : List Hop) : Type 0 where
  pub place : AtEqualPaths lists a b
  pub path_is : place.path ≡ path
  pub differ : ¬ (SameForm place.left place.right)
