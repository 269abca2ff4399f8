use Rattle.std.proofs.Common.{inl, inr, ℕ, sym, ap}
use Rattle.nomos_ready.proofs.PairLemmas.{gone-back, others-there}
use Rattle.nomos_ready.proofs.awake.Awake.forget.Goals as goal

pub returns-in-Some-clause-noted : goal.returns-in-Some-clause-noted
returns-in-Some-clause-noted c n q noted =
    elim (others-there c.args.self.now.waiting c.remove.new.self (c.in-Some.name, c.args.pid) (n, q)
    c.remove.ensures.updates noted) [
      | inl own ↦ inr (sym (ap (λ (e : ℕ × ℕ). e.1) own))
      | inr there ↦ inl there
    ]

pub returns-in-Some-clause-back : goal.returns-in-Some-clause-back
returns-in-Some-clause-back c n q noted =
    gone-back c.args.self.now.waiting c.remove.new.self (c.in-Some.name, c.args.pid) (n, q) c.remove.ensures.updates
    noted
