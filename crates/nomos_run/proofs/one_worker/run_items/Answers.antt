use Rattle.std.proofs.Common.{◌≡◌, ◌∙◌, ◌+◌, List, [], ◌∷◌, ◌++◌, ap, refl, subst, sym, take}
use Rattle.std.proofs.lemmas.List.{take_more}
use Rattle.nomos_types.specs.Acceptance.{IsAccepted}
use Rattle.nomos_script.specs.declared.item.ScriptItem.{ScriptItem}
use Rattle.nomos_workers.specs.declared.batch.Crew.{Crew}
use Rattle.nomos_run.proofs.CarryLemmas.{gone-all, gone-made, gone-more, gone-room, gone-so_far, gone-stands, ledger-standing, on_err}
use Rattle.nomos_run.specs.mirror.Runs.{CarriesOut, HasGone}
use Rattle.nomos_run.proofs.one_worker.run_items.Goals as goal

pub items-init : goal.items-init
items-init g c = c.requires.begins

pub carry_out-requires-clause-stands : goal.carry_out-requires-clause-stands
carry_out-requires-clause-stands g c =
    gone-stands c.args.items.now c.items.item-index c.items.invariant
    (subst IsAccepted c.accepted.ensures c.know.ensures.accepted)
    (ledger-standing c.requires.stands c.requires.ledger)

pub carry_out-requires-clause-room : goal.carry_out-requires-clause-room
carry_out-requires-clause-room g c =
    let items = c.args.items.now in
    let i = c.item-item.result in
    let n = c.items.item-index in
    let more : take (n + 1) items ≡ take n items ++ i ∷ [] =
    take_more items n i c.items-test.true ∙ ap (λ (x : ScriptItem). take n items ++ x ∷ []) (sym c.item-item.is)
    in
    gone-room items n c.items.invariant
    (subst IsAccepted c.accepted.ensures c.know.ensures.accepted)
    (ledger-standing c.requires.stands c.requires.ledger) c.requires.numbers c.requires.accounts i c.requires.size
    more

pub carry_out-requires-clause-made : goal.carry_out-requires-clause-made
carry_out-requires-clause-made g c = gone-made c.args.items.now c.items.item-index c.items.invariant

pub returns-in_err-passed-clause-err : goal.returns-in_err-passed-clause-err
returns-in_err-passed-clause-err g c =
    on_err c.from_residual.result
    (gone-so_far c.args.items.now c.items.item-index c.items.invariant refl)

pub returns-in_err-keep-clause-err : goal.returns-in_err-keep-clause-err
returns-in_err-keep-clause-err g c =
    on_err c.from_residual-in_err-keep.result
    (gone-so_far c.args.items.now c.items.item-index c.items.invariant c.in_err-keep.ensures.err)

pub items-preserved : goal.items-preserved
items-preserved g c =
    let items = c.args.items.now in
    let i = c.item-item.result in
    let n = c.items.item-index in
    let more : take (n + 1) items ≡ take n items ++ i ∷ [] =
    take_more items n i c.items-test.true ∙ ap (λ (x : ScriptItem). take n items ++ x ∷ []) (sym c.item-item.is)
    in
    subst
    (λ (is : List ScriptItem). HasGone c.args.way.now.walk.accepted c.args.from c.args.orders is
    c.keep.new.entries.items
    c.in_ok-passed.passed.ledger c.carry_out.new.walk) (sym more)
    (gone-more c.in_ok-passed.passed c.items.invariant (subst
    (λ (crew : Crew). CarriesOut crew c.items.way.walk c.items.ledger i c.in_ok-passed.passed c.carry_out.new.walk)
    (sym c.in-One.is) c.in_ok-passed.ensures) c.in_ok-keep.ensures.ok)

pub returns-clause-ok : goal.returns-clause-ok
returns-clause-ok g c = gone-all c.args.items.now c.items.item-index c.items.invariant c.items-test.false
