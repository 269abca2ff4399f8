use Rattle.std.proofs.Common.{◌∙◌, ◌<◌, All, ap, subst, sym}
use Rattle.std.proofs.lemmas.Result.{IfOk-weaker}
use Rattle.nomos_pool.specs.Dealing.{threads_of}
use Rattle.nomos_pool.specs.Gathering.{IsGathering}
use Rattle.nomos_pool.proofs.DealingLemmas.{gathered-of_account, threads-below}
use Rattle.nomos_pool.proofs.gathering.gather.Goals as goal

pub gather_dealt-requires-clause-threads : goal.gather_dealt-requires-clause-threads
gather_dealt-requires-clause-threads g c κs within =
    let n = c.args.threads in
    let are = c.as_slice-2.ensures.value ∙ (c.in_ok-dealt.ensures ∙ ap (threads_of n) c.as_slice.ensures.value) in
    subst (All (λ j. j < n)) (sym are) (threads-below n c.args.batches.items c.requires.some)

pub returns-clause-accounts : goal.returns-clause-accounts
returns-clause-accounts g c =
    let n = c.args.threads in
    let batches = c.args.batches.items in
    let are = c.as_slice-2.ensures.value ∙ (c.in_ok-dealt.ensures ∙ ap (threads_of n) c.as_slice.ensures.value) in
    IfOk-weaker c.gather_dealt.result _ _
    (λ gathered is name. gathered-of_account n batches gathered.items name c.requires.some
    (subst (λ threads. IsGathering n threads batches gathered.items) are is)) c.gather_dealt.ensures
