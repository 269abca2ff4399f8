use Rattle.std.proofs.Common.{◌≡◌, ◌∙◌, ◌+◌, ◌++◌, List, [], ◌∷◌, drop, refl, subst, sym, ap, take}
use Rattle.std.proofs.lemmas.List.{drop_all, drop_more, take_all, take_more}
use Rattle.std.proofs.lemmas.Result.{err_from_is_err_and}
use Rattle.nomos_script.specs.declared.item.ScriptItem.{ScriptItem}
use Rattle.nomos_replay.specs.mirror.Items.{ToldUpTo, told_of}
use Rattle.nomos_replay.proofs.WalkLemmas.{ledger-standing, told-accepted, told-limit, told-made, told-next, told-none, told-room, told-stands, told-stops}
use Rattle.nomos_replay.proofs.answering.replay_items.Goals as goal

pub items-init : goal.items-init
items-init g c = record {
  counted = c.requires.counted;
  told =
      told-none c.args.trial.now.accepted.now c.args.trial.now.version c.args.from c.args.walk.now.limit
      c.args.trial.now.wanted c.args.items.now c.args.reading.now c.args.walk.now c.requires.limit c.requires.begins
      c.requires.none;
}

pub replay_item-requires-clause-program : goal.replay_item-requires-clause-program
replay_item-requires-clause-program g c =
    told-accepted c.args.trial.now.accepted.now c.args.trial.now.version c.args.from c.args.walk.now.limit
    c.args.trial.now.wanted c.items.invariant.told

pub replay_item-requires-clause-stands : goal.replay_item-requires-clause-stands
replay_item-requires-clause-stands g c =
    told-stands c.args.trial.now.accepted.now c.args.trial.now.version c.args.from c.args.walk.now.limit
    c.args.trial.now.wanted c.items.invariant.told c.know.ensures.accepted
    (ledger-standing c.requires.stands c.requires.ledger)

pub replay_item-requires-clause-room : goal.replay_item-requires-clause-room
replay_item-requires-clause-room g c =
    let items = c.args.items.now in
    let i = c.item-item.result in
    let n = c.items.item-index in
    let more : take (n + 1) items ≡ take n items ++ i ∷ [] =
    take_more items n i c.items-test.true ∙ ap (λ (x : ScriptItem). take n items ++ x ∷ []) (sym c.item-item.is)
    in
    told-room c.args.trial.now.accepted.now c.args.trial.now.version c.args.from c.args.walk.now.limit
    c.args.trial.now.wanted items n c.items.invariant.told c.know.ensures.accepted
    (ledger-standing c.requires.stands c.requires.ledger) c.requires.numbers c.requires.accounts i c.requires.size more

pub replay_item-requires-clause-made : goal.replay_item-requires-clause-made
replay_item-requires-clause-made g c =
    told-made c.args.trial.now.accepted.now c.args.trial.now.version c.args.from c.args.walk.now.limit
    c.args.trial.now.wanted c.items.invariant.told

pub returns-in_err-passed-clause-tells : goal.returns-in_err-passed-clause-tells
returns-in_err-passed-clause-tells g c =
    let a = c.args.trial.now.accepted.now in
    let v = c.args.trial.now.version in
    let items = c.args.items.now in
    let i = c.item-item.result in
    let n = c.items.item-index in
    let left : drop n items ≡ i ∷ drop (n + 1) items =
    drop_more items n i c.items-test.true ∙ ap (λ (x : ScriptItem). x ∷ drop (n + 1) items) (sym c.item-item.is) in
    let so = subst
    (λ (rest : List ScriptItem). ToldUpTo a v c.args.from c.args.walk.now.limit c.args.trial.now.wanted
    c.args.reading.now.source items (take n items) rest c.items.reading c.items.ledger c.items.walk) left
    c.items.invariant.told in
    let p = err_from_is_err_and c.from_residual.result c.from_residual.ensures.1 in
    rw (p.1, p.2)
    (told-stops a v c.args.from c.args.walk.now.limit c.args.trial.now.wanted i so c.in_err-passed.field-0.0
    (c.in_err-passed.ensures.tells (told_of c.args.walk.now.limit so.passages c.items.ledger) refl
    (told-limit a v c.args.from c.args.walk.now.limit c.args.trial.now.wanted so)))

pub returns-in_err-keep-clause-tells : goal.returns-in_err-keep-clause-tells
returns-in_err-keep-clause-tells g c =
    let p = err_from_is_err_and c.from_residual-in_err-keep.result c.from_residual-in_err-keep.ensures.1 in
    rw (p.1, p.2) (λ all. tt)

pub items-preserved : goal.items-preserved
items-preserved g c =
    let a = c.args.trial.now.accepted.now in
    let v = c.args.trial.now.version in
    let items = c.args.items.now in
    let i = c.item-item.result in
    let n = c.items.item-index in
    let more : take (n + 1) items ≡ take n items ++ i ∷ [] =
    take_more items n i c.items-test.true ∙ ap (λ (x : ScriptItem). take n items ++ x ∷ []) (sym c.item-item.is)
    in
    let left : drop n items ≡ i ∷ drop (n + 1) items =
    drop_more items n i c.items-test.true ∙ ap (λ (x : ScriptItem). x ∷ drop (n + 1) items) (sym c.item-item.is) in
    let so = subst
    (λ (rest : List ScriptItem). ToldUpTo a v c.args.from c.args.walk.now.limit c.args.trial.now.wanted
    c.args.reading.now.source items (take n items) rest c.items.reading c.items.ledger c.items.walk) left
    c.items.invariant.told in
    record {
      counted = c.in_ok-passed.ensures.counted;
      told =
          told-next a v c.args.from c.args.walk.now.limit c.args.trial.now.wanted i so c.in_ok-passed.passed
          (record { source = c.replay_item.new.source; entries = c.keep.new.entries }) more
          (c.in_ok-passed.ensures.tells (told_of c.args.walk.now.limit so.passages c.items.ledger) refl
          (told-limit a v c.args.from c.args.walk.now.limit c.args.trial.now.wanted so))
          c.in_ok-keep.ensures.ok;
    }

pub returns-clause-tells : goal.returns-clause-tells
returns-clause-tells g c =
    let a = c.args.trial.now.accepted.now in
    let v = c.args.trial.now.version in
    let items = c.args.items.now in
    let n = c.items.item-index in
    let none : drop n items ≡ [] = drop_all n items c.items-test.false in
    let all : take n items ≡ items = take_all n items c.items-test.false in
    subst
    (λ (rest : List ScriptItem). ToldUpTo a v c.args.from c.args.walk.now.limit c.args.trial.now.wanted
    c.args.reading.now.source items items rest c.items.reading c.items.ledger c.items.walk) none
    (subst
    (λ (done : List ScriptItem). ToldUpTo a v c.args.from c.args.walk.now.limit c.args.trial.now.wanted
    c.args.reading.now.source items done (drop n items) c.items.reading c.items.ledger c.items.walk) all
    c.items.invariant.told)
