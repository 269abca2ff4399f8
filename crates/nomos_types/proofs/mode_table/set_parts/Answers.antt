use Rattle.std.proofs.Common.{ℕ, ◌≡◌, ◌<◌, ◌⊎◌, inl, inr, List, length, map, subst}
use Rattle.std.proofs.lemmas.List.{get_or-map, length-map}
use Rattle.nomos_ir.specs.Ids.{AllBelow}
use Rattle.nomos_ir.specs.TypeParts.{type_parts}
use Rattle.nomos_ir.specs.declared.type_node.Branch.{Branch}
use Rattle.nomos_ir.specs.declared.type_node.TypeNode.{TypeNode}
use Rattle.nomos_ir.specs.declared.type_node.TypeNode.TheVariants as node
use Rattle.nomos_types.proofs.mode_table.set_parts.Goals as goal

-- the branches of a choice are in range where its parts are
branches-below : (n : TypeNode) (branches : List Branch) (count : ℕ)
    → ((n ≡ node.Plus branches) ⊎ (n ≡ node.With branches)) → AllBelow count (type_parts n)
    → AllBelow count (map (λ b. b.goes.0) branches)
branches-below n branches count (inl is) below = subst (λ m. AllBelow count (type_parts m)) is below
branches-below n branches count (inr is) below = subst (λ m. AllBelow count (type_parts m)) is below

pub set_branches-requires : goal.set_branches-requires
set_branches-requires c =
    λ k d inside.
    let branches = c.in-Plus.branches in
    let same = c.as_slice.ensures in
    let within : k < length branches = rw (← same) inside in
    let there : k < length (map (λ (b : Branch). b.goes.0) branches) =
    rw (length-map branches (λ (b : Branch). b.goes.0)) within in
    let below = branches-below c.args.node.now branches (length c.args.program.now.types) c.in-Plus.is c.requires.parts
    k d.goes.0 there in
    let at = get_or-map (λ (b : Branch). b.goes.0) branches k d d.goes.0 within in
    rw (same, c.requires.types, ← at) below
