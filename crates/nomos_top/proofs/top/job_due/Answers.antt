use Rattle.std.proofs.Common.{◌≤◌, ℕ, List, [], ◌∷◌, subst}
use Rattle.nomos_answers.proofs.SourceLemmas.{if_err-map}
use Rattle.nomos_top.proofs.DueLemmas.{part-nothing}
use Rattle.nomos_top.proofs.top.job_due.Goals as goal
use Rattle.nomos_words.specs.Jobs.{task}
use Rattle.nomos_words.specs.Words.{Asks, bench, check, least}
use Rattle.nomos_words.specs.declared.job.Job.{Job}

-- a load that is asked for has at most 10,000 bidders
few-bidders : (words : List (List ℕ)) (seed bidders : ℕ) → Asks words (bench seed bidders) → bidders ≤ 10000
few-bidders [] seed bidders asked = absurd asked
few-bidders (word ∷ words) seed bidders asked = asked.1.are_bidders.1

pub bench_due-requires : goal.bench_due-requires
bench_due-requires g c =
    few-bidders c.requires.asked.0 c.in-Bench.seed c.in-Bench.bidders
    (subst (λ (job : Job). Asks c.requires.asked.0 (task job)) c.in-Bench.is c.requires.asked.1)

pub returns-in-Check-clause-err : goal.returns-in-Check-clause-err
returns-in-Check-clause-err g c =
    rw c.in-Check.is
    (if_err-map c.check_due.result _ _ (λ part none. part-nothing _ (check c.in-Check.file.now) part none)
    c.check_due.ensures.err)

pub returns-in-Least-clause-err : goal.returns-in-Least-clause-err
returns-in-Least-clause-err g c =
    rw c.in-Least.is
    (if_err-map c.least_due.result _ _ (λ part none. part-nothing _ (least c.in-Least.file.now) part none)
    c.least_due.ensures.err)
