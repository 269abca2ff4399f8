use Rattle.std.proofs.Common.{◌≢◌, ◌<◌, ℕ, get_or}
use Rattle.nomos_ir.specs.declared.type_node.Def.{Def}
use Rattle.nomos_contract_tests.proofs.type_program.is_new_definition.Given as goal

-- no definition so far has the name
abbrev pub invariant-loop-k : goal.invariant-loop-k
invariant-loop-k l = (k : ℕ) (d : Def) → k < l.k → (get_or l.defs k d).name ≢ (get_or l.defs l.place d).name
