use Rattle.std.proofs.Common.{◌≡◌, ◌∙◌, ℕ, ◌+◌, ◌<◌, length, slice_get, Some, refl, sym, ap, subst, arith, ⊎_elim, length-append}
use Rattle.crossbeam_queue.specs.Passes.{view, IsPassOf}
use Rattle.nomos_pool.specs.PoolRule.{sender_view}
use Rattle.nomos_pool.specs.declared.pool.Submitter.{Submitter}
use Rattle.nomos_pool.specs.declared.pool_rule.PoolView.{PoolView}
use Rattle.nomos_pool.proofs.PoolMoves.{enrols, opens}
use Rattle.nomos_pool.proofs.SenderLemmas.{get_push}
use Rattle.nomos_pool.proofs.pool.open.Goals as goal

pub ruled-requires-clause-rule : goal.ruled-requires-clause-rule
ruled-requires-clause-rule g c = opens

pub another-own-requires-clause-rule : goal.another-own-requires-clause-rule
another-own-requires-clause-rule g c =
    let is = c.loop-number.invariant.is in
    enrols _ _ (ap (λ v. v.takes) is) (ap (λ v. v.sends) is)

pub loop-number-preserved : goal.loop-number-preserved
loop-number-preserved g c =
    let i = c.loop-number.invariant in
    let n : ℕ = c.loop-number.number in
    let q = c.another-own.ensures.queue in
    let rule = c.another-own.ensures.rule in
    let p = c.push_reserved.ensures in
    let more : PoolView g.row.T.Denot → PoolView g.row.T.Denot = λ v. record v { made = v.made + 1 } in
    let own : view c.another-own.result ≡ sender_view n = rule.1 ∙ ap (λ v. sender_view v.made) i.is in
    record {
      of_queue = (q.0.0 ∙ i.of_queue.0, q.0.2 ∙ i.of_queue.1);
      is = rule.0 ∙ ap (λ (v : PoolView g.row.T.Denot). more v) i.is;
      many = omega (arith, p.len, i.many);
      length = ap length p.items ∙ (length-append c.loop-number.made.items _ ∙ ap (λ k. k + 1) i.length);
      space = omega (arith, p.capacity, i.space);
      each = λ k s at. ⊎_elim
          (λ (there : slice_get c.loop-number.made.items k ≡ Some s).
          let e = i.each k s there in (e.0, e.1, e.2, (let low = e.3 in omega (arith, low))))
          (λ last.
          let here = sym (last.0 ∙ i.length) in
          subst
          (λ (y : Submitter g.row.T.Denot).
          IsPassOf c.in_ok-queue.queue y.pass × (view y.pass ≡ sender_view k) × (y.number ≡ k) × (k < n + 1))
          last.1
          (q.1, own ∙ ap sender_view here, here, omega (arith, last.0, i.length)))
          (get_push c.loop-number.made.items _ s k (subst (λ l. slice_get l k ≡ Some s) p.items at));
    }

pub returns-clause-senders : goal.returns-clause-senders
returns-clause-senders g c =
    let i = c.loop-number.invariant in
    record {
      many = omega (arith, i.length, c.loop-number.auto, c.loop-number-test.false);
      all = refl;
      each = λ k s at.
          let e = i.each k s at in (
            record {
              of_queue = e.0;
              sends = ap (λ v. v.sends) e.1;
              number = ap (λ v. v.number) e.1 ∙ sym e.2;
              low = omega (arith, e.2, e.3, c.loop-number.auto);
            },
            e.2,
            ap (λ v. v.submitted) e.1,
          );
    }
