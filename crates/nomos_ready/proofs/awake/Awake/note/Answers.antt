use Rattle.std.proofs.Common.{◌∙◌, inl, inr, ℕ, Some, sym, ap}
use Rattle.nomos_ready.proofs.PairLemmas.{kept-beside, put-back}
use Rattle.nomos_ready.proofs.awake.Awake.note.Goals as goal

pub returns-in-Some-clause-noted : goal.returns-in-Some-clause-noted
returns-in-Some-clause-noted c n q noted =
    kept-beside c.insert.result c.args.self.now.waiting c.insert.new.self (c.in-Some.name, c.args.pid) (n, q)
    c.insert.ensures.updates c.insert.ensures.err noted

pub returns-in-Some-clause-back : goal.returns-in-Some-clause-back
returns-in-Some-clause-back c n q noted =
    elim (put-back c.insert.result c.args.self.now.waiting c.insert.new.self (c.in-Some.name, c.args.pid) (n, q)
    c.insert.ensures.updates c.insert.ensures.err noted) [
      | inl before ↦ inl before
      | inr own ↦ inr (c.in-Some.is ∙ ap (λ (e : ℕ × ℕ). Some e.0) own, sym (ap (λ (e : ℕ × ℕ). e.1) own))
    ]
