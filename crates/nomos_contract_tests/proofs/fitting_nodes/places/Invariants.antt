use Rattle.std.proofs.Common.{◌≡◌, ◌++◌, map, take}
use Rattle.std.specs.List.{flat_map}
use Rattle.nomos_ir.specs.TypeParts.{type_parts}
use Rattle.nomos_contract_tests.proofs.fitting_nodes.places.Given as goal

-- the places of definitions, and those in the nodes so far
abbrev pub invariant-loop-place : goal.invariant-loop-place
invariant-loop-place l =
    l.places.items ≡ map (λ d. d.body.0) l.defs ++ flat_map (λ t. type_parts t.node) (take l.place-index l.types)
