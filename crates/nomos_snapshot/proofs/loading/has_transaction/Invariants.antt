-- None of the objects so far is a transaction.
use Rattle.std.proofs.Common.{ℕ, ◌<◌, get_or}
use Rattle.nomos_machine.specs.declared.object.Object.{Object}
use Rattle.nomos_snapshot.specs.mirror.Remaining.{IsTransactionObject}
use Rattle.nomos_snapshot.proofs.loading.has_transaction.Given as goal

abbrev pub invariant-loop-object : goal.invariant-loop-object
invariant-loop-object l =
    (k : ℕ) (d : Object) → k < l.object-index → ¬ (IsTransactionObject (get_or l.object-items k d))
