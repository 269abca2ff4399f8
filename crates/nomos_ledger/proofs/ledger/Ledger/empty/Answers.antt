use Rattle.nomos_legal.proofs.SettledLaws.{empty-stands}
use Rattle.nomos_ledger.proofs.ledger.Ledger.empty.Goals as goal

pub returns-clause-stands : goal.returns-clause-stands
returns-clause-stands g c a = rw (c.new.ensures, c.new-2.ensures, c.empty.ensures.state) (empty-stands a)
