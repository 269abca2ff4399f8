use Rattle.std.proofs.Common.{◌≡◌, ◌∙◌, ℕ, ap, arith, length, subst, sym}
use Rattle.nomos_types.specs.Acceptance.{Acceptance}
use Rattle.nomos_machine.specs.declared.policy.Policy.{Policy}
use Rattle.nomos_legal.specs.Ledger.{LedgerState}
use Rattle.nomos_legal.specs.Legal.{batch_limit}
use Rattle.nomos_legal.specs.StandsFor.{WorldStandsFor}
use Rattle.nomos_ledger.specs.Running.{MayRun, RunsOn}
use Rattle.nomos_walk.specs.WalkState.{WalkState}
use Rattle.nomos_workers.specs.OneWorker.{EndsBy, RunsBy}
use Rattle.nomos_workers.specs.Shops.{MayEnd}
use Rattle.nomos_workers.specs.declared.batch.Crew.TheVariants as crews
use Rattle.std.proofs.lemmas.Result.{IfOk-weaker}
use Rattle.nomos_run.proofs.CarryLemmas.{batch-carried, by-may, one-policy}
use Rattle.nomos_run.specs.mirror.Runs.{CarriesOut, FinishesAs}
use Rattle.nomos_run.proofs.one_worker.fire_batch.Goals as goal

pub run_by-ran-requires : goal.run_by-ran-requires
run_by-ran-requires g c =
    let w = c.args.under.world in
    let before : WalkState = c.args.walk.now in
    subst (λ (b : Acceptance). MayRun b c.next_limit-limit.result w) (sym c.accepted.ensures)
    (subst (λ (n : ℕ). MayRun before.accepted n w) (sym c.next_limit-limit.ensures.limit) c.requires.may)

pub finish_ran-requires-clause-stands : goal.finish_ran-requires-clause-stands
finish_ran-requires-clause-stands g c =
    subst (λ (b : Acceptance). WorldStandsFor b c.run_by-ran.result.world) c.accepted.ensures
    c.run_by-ran.ensures.runs.runs.stands

pub finish_ran-requires-clause-spent : goal.finish_ran-requires-clause-spent
finish_ran-requires-clause-spent g c =
    c.requires.spent ∙ ap (λ (l : LedgerState). l.state.spent) (sym c.run_by-ran.ensures.runs.runs.origin)

pub finish_ran-requires-clause-few : goal.finish_ran-requires-clause-few
finish_ran-requires-clause-few g c =
    omega (arith, c.run_by-ran.ensures.runs.runs.within, c.next_limit-limit.ensures.sum)

pub finish_ran-requires-clause-ends : goal.finish_ran-requires-clause-ends
finish_ran-requires-clause-ends g c =
    let before : WalkState = c.args.walk.now in
    let v = c.run_by-ran.result.world in
    subst (λ (n : ℕ). MayEnd before.accepted v.state (length v.firings) n c.run_by-ran.result.end)
    c.next_limit-limit.ensures.limit
    (subst (λ (b : Acceptance). MayEnd b v.state (length v.firings) c.next_limit-limit.result c.run_by-ran.result.end)
    c.accepted.ensures (by-may c.args.policy c.accepted.result.now c.next_limit-limit.result v c.run_by-ran.result.end
    c.run_by-ran.ensures.ends))

pub returns : goal.returns
returns g c = λ l i under.
    let crew = crews.One c.args.policy in
    let before : WalkState = c.args.walk.now in
    let most : ℕ = batch_limit before.limit before.made in
    let w = c.args.under.world in
    let v = c.run_by-ran.result.world in
    let ended = c.run_by-ran.result.end in
    let given : ℕ = c.next_limit-limit.result in
    let limit = c.next_limit-limit.ensures.limit in
    let runs : RunsOn before.accepted most w v =
    subst (λ (n : ℕ). RunsOn before.accepted n w v) limit
    (subst (λ (b : Acceptance). RunsOn b given w v) c.accepted.ensures c.run_by-ran.ensures.runs.runs)
    in
    let one : (policy : Policy) → crew ≡ crews.One policy
    → RunsBy policy before.accepted most w v × EndsBy policy before.accepted most v ended =
    λ policy is.
    let mine = one-policy c.args.policy policy is in
    let both : RunsBy policy c.accepted.result.now given w v × EndsBy policy c.accepted.result.now given v ended =
    subst (λ (p : Policy). RunsBy p c.accepted.result.now given w v × EndsBy p c.accepted.result.now given v ended) mine
    (c.run_by-ran.ensures.runs, c.run_by-ran.ensures.ends)
    in (
      subst (λ (n : ℕ). RunsBy policy before.accepted n w v) limit
          (subst (λ (b : Acceptance). RunsBy policy b given w v) c.accepted.ensures both.0),
      subst (λ (n : ℕ). EndsBy policy before.accepted n v ended) limit
          (subst (λ (b : Acceptance). EndsBy policy b given v ended) c.accepted.ensures both.1),
    )
    in
    IfOk-weaker c.finish_ran.result
    (λ passed. FinishesAs before c.args.under.outset.line v ended passed c.finish_ran.new.walk)
    (λ passed. CarriesOut crew before l i passed c.finish_ran.new.walk)
    (λ passed finishes. batch-carried crew ended passed under runs one finishes) c.finish_ran.ensures
