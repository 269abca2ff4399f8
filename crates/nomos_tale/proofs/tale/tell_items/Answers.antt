use Rattle.std.proofs.Common.{◌≡◌, ◌∙◌, ◌+◌, List, [], ◌∷◌, ◌++◌, ap, subst, sym, take}
use Rattle.std.proofs.lemmas.List.{take_more}
use Rattle.nomos_script.specs.Size.{IsScriptSize}
use Rattle.nomos_script.specs.declared.item.ScriptItem.{ScriptItem}
use Rattle.nomos_legal.specs.Ledger.{LedgerState}
use Rattle.nomos_legal.specs.StandsFor.{StandsFor}
use Rattle.nomos_tale.proofs.TaleLemmas.{told-made, told-more, told-none, told-room, told-stands}
use Rattle.nomos_tale.specs.mirror.Tales.{HasTold}
use Rattle.nomos_tale.proofs.tale.tell_items.Goals as goal

pub items-init : goal.items-init
items-init g c =
    told-none c.args.accepted.now c.args.limit c.requires c.empty-ledger.ensures.empty c.in_ok-walk.ensures

pub tell_item-requires-clause-stands : goal.tell_item-requires-clause-stands
tell_item-requires-clause-stands g c =
    let a = c.args.accepted.now in
    told-stands c.as_slice-items.result.now c.items.item-index c.items.invariant c.know.ensures.accepted
    (subst (λ (l : LedgerState). StandsFor a l) c.empty-ledger.ensures.empty (c.empty-ledger.ensures.stands a))

pub tell_item-requires-clause-room : goal.tell_item-requires-clause-room
tell_item-requires-clause-room g c =
    let a = c.args.accepted.now in
    let items = c.as_slice-items.result.now in
    let i = c.item-item.result in
    let n = c.items.item-index in
    let more : take (n + 1) items ≡ take n items ++ i ∷ [] =
    take_more items n i c.items-test.true ∙ ap (λ (x : ScriptItem). take n items ++ x ∷ []) (sym c.item-item.is)
    in
    told-room items n c.items.invariant c.know.ensures.accepted
    (subst (λ (l : LedgerState). StandsFor a l) c.empty-ledger.ensures.empty (c.empty-ledger.ensures.stands a)) i
    (subst IsScriptSize (sym (c.as_slice-items.ensures ∙ c.items-2.ensures.items)) c.items-2.ensures.size) more

pub tell_item-requires-clause-made : goal.tell_item-requires-clause-made
tell_item-requires-clause-made g c = told-made c.as_slice-items.result.now c.items.item-index c.items.invariant

pub items-preserved : goal.items-preserved
items-preserved g c =
    let items = c.as_slice-items.result.now in
    let i = c.item-item.result in
    let n = c.items.item-index in
    let more : take (n + 1) items ≡ take n items ++ i ∷ [] =
    take_more items n i c.items-test.true ∙ ap (λ (x : ScriptItem). take n items ++ x ∷ []) (sym c.item-item.is)
    in
    subst
    (λ (is : List ScriptItem). HasTold c.args.accepted.now c.args.limit is c.in_ok-passed.passed.ledger
    c.tell_item.new.walk) (sym more)
    (told-more c.in_ok-passed.passed c.items.invariant c.in_ok-passed.ensures)
