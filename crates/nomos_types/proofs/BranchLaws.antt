-- What holds of all branches of a choice holds of the one after a label; and where labels differ, a choice goes on
-- after the label of a branch as the branch says.
use Rattle.std.proofs.Common.{◌≡◌, ◌==◌, Bool, true, false, cond, List, [], ◌∷◌, All, find, Option, Some, option_map, subst}
use Rattle.std.proofs.lemmas.List.Elements.{All-head, All-tail}
use Rattle.nomos_ir.specs.declared.ids.Label.{Label}
use Rattle.nomos_ir.specs.declared.ids.TypeId.{TypeId}
use Rattle.nomos_ir.specs.declared.type_node.Branch.{Branch}
use Rattle.nomos_types.specs.Branches.{goes_by}

-- the same, where the test of the first branch is known
first-branch : (P : TypeId → Type 0) (b : Branch) (others : Option Branch) (t : TypeId) (passes : Bool) → P b.goes
    → (option_map (λ c. c.goes) others ≡ Some t → P t) → option_map (λ c. c.goes) (cond passes (Some b) others) ≡ Some t
    → P t
first-branch P b others t true here rest found =
    let same : b.goes ≡ t = cc in
    subst P same here
first-branch P b others t false here rest found = rest found

-- what holds of the types of all branches holds of the type after a label
pub goes-all : (P : TypeId → Type 0) (branches : List Branch) (l : Label) (t : TypeId) → All (λ b. P b.goes) branches
    → goes_by branches l ≡ Some t → P t
goes-all P [] l t all found = absurd cc
goes-all P (b ∷ branches) l t all found =
    let others = find (λ (c : Branch). c.label.0 == l.0) branches in
    let rest = goes-all P branches l t (All-tail (λ c. P c.goes) b branches all) in
    first-branch P b others t (b.label.0 == l.0) (All-head (λ c. P c.goes) b branches all) rest found
