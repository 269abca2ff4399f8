use Rattle.nomos_carrying.proofs.CarryLemmas.{begins-by-save}
use Rattle.nomos_carrying.proofs.NoLedgerLemmas.{if_ok-some}
use Rattle.nomos_carrying.proofs.carrying.begin_due.Goals as goal

pub returns : goal.returns
returns g c =
    rw c.ok.ensures.value (if_ok-some c.save_due.result _ _ (λ due is. begins-by-save due is) c.save_due.ensures.ok)
