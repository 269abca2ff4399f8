use Rattle.std.proofs.Common.{◌≢◌, ◌<◌, ℕ, get_or}
use Rattle.nomos_ir.specs.declared.type_node.Def.{Def}
use Rattle.nomos_contract_tests.proofs.type_program.definitions_differ.Given as goal

-- the names so far differ from all earlier ones
abbrev pub invariant-loop-place : goal.invariant-loop-place
invariant-loop-place l =
    (j : ℕ) → j < l.place → (k : ℕ) (d : Def) → k < j → (get_or l.defs k d).name ≢ (get_or l.defs j d).name
