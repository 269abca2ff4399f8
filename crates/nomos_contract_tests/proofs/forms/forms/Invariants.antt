use Rattle.std.proofs.Common.{All}
use Rattle.nomos_forms.specs.Bounds.{IsForm}
use Rattle.nomos_contract_tests.proofs.forms.forms.Given as goal

abbrev pub invariant-loop-sketch : goal.invariant-loop-sketch
invariant-loop-sketch l = All (IsForm l.stars) l.forms.items
