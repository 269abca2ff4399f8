use Rattle.std.proofs.Common.{◌∙◌, subst, sym}
use Rattle.nomos_types.specs.Acceptance.{Acceptance}
use Rattle.nomos_legal.specs.StandsFor.{StandsFor}
use Rattle.nomos_run.proofs.CarriedLaws.{given-report}
use Rattle.nomos_run.proofs.CarryLemmas.{begun-accepted, begun-there, gone-begun, last-report, ledger-standing, none-so_far, run-so_far, script-run}
use Rattle.nomos_run.specs.Carried.{RunsScriptFrom}
use Rattle.nomos_run.proofs.one_worker.run_from.Goals as goal

-- a run of which no item was carried out
pub returns-in_default-clause-runs : goal.returns-in_default-clause-runs
returns-in_default-clause-runs g c =
    run-so_far c.end_at_once.result (none-so_far c.args.accepted.now c.args.from c.args.script.now c.args.orders
    c.requires.limit)
    c.end_at_once.ensures.journal c.end_at_once.ensures.none

pub run_items-last-requires-clause-stands : goal.run_items-last-requires-clause-stands
run_items-last-requires-clause-stands g c =
    subst (λ (a : Acceptance). StandsFor a c.args.from) (sym (begun-accepted
    (gone-begun c.args.accepted.now c.args.from c.args.orders c.requires.limit c.in-Ok.ensures.walk
    c.in-Ok.ensures.entries))) c.requires.stands

pub run_items-last-requires-clause-begins : goal.run_items-last-requires-clause-begins
run_items-last-requires-clause-begins g c = begun-there
    (gone-begun c.args.accepted.now c.args.from c.args.orders c.requires.limit c.in-Ok.ensures.walk
    c.in-Ok.ensures.entries)

pub end-requires : goal.end-requires
end-requires g c = last-report _ _ _ _ _ _ c.run_items-last.result c.run_items-last.ensures.ok

pub returns-clause-runs : goal.returns-clause-runs
returns-clause-runs g c =
    script-run _ c.end.result c.run_items-last.result (begun-accepted
    (gone-begun c.args.accepted.now c.args.from c.args.orders c.requires.limit c.in-Ok.ensures.walk
    c.in-Ok.ensures.entries))
    (c.as_slice-items.ensures ∙ c.items.ensures.items) c.know.ensures.accepted
    (ledger-standing c.requires.stands c.know_ledger.ensures) c.run_items-last.ensures.ok c.run_items-last.ensures.err
    c.end.ensures.journal c.end.ensures.whole c.end.ensures.none

pub returns-clause-report : goal.returns-clause-report
returns-clause-report g c = given-report c.end.result (returns-clause-runs g c)
