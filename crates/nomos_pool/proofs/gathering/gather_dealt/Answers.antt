use Rattle.std.proofs.Common.{◌≡◌, ◌∙◌, ◌++◌, Some, ap, length, slice_get, sym, subst}
use Rattle.std.proofs.lemmas.List.{length-map}
use Rattle.nomos_pool.specs.Hands.{sender_of}
use Rattle.nomos_pool.specs.PoolRule.{sent_by}
use Rattle.nomos_pool.specs.Gathering.{dealt_to}
use Rattle.nomos_pool.proofs.HandLemmas.{comes-back, gathers, hands-all}
use Rattle.nomos_pool.proofs.gathering.gather_dealt.Goals as goal

pub hand_in_all-hands-requires-clause-hands : goal.hand_in_all-hands-requires-clause-hands
hand_in_all-hands-requires-clause-hands g c = λ κs lives.
    let ready = c.in_ok-pool.ensures in
    hands-all c.in_ok-pool.field-0.pool c.args.shares.count
    (λ j. dealt_to j c.args.shares.threads.now c.args.items.items)
    c.in_ok-pool.field-0.hands.items ready.hands

pub close-requires-clause-senders : goal.close-requires-clause-senders
close-requires-clause-senders g c = λ k s at.
    let ready = c.in_ok-pool.ensures in
    let back = comes-back c.in_ok-pool.field-0.pool c.args.shares.count
    (λ j. dealt_to j c.args.shares.threads.now c.args.items.items) c.in_ok-pool.field-0.hands.items
    c.hand_in_all-hands.result.items ready.hands c.hand_in_all-hands.ensures k s
    (subst (λ l. slice_get l k ≡ Some s) c.senders_of.ensures at) in
    (back.of_pool, back.number)

pub returns : goal.returns
returns g c =
    let ready = c.in_ok-pool.ensures in
    let hands = c.hand_in_all-hands.result.items in
    let senders = c.senders_of.result.items in
    gathers c.in_ok-pool.field-0.pool c.args.shares.count c.args.shares.threads.now c.args.items.items senders
    c.close.result.items
    (ap length c.senders_of.ensures
    ∙ (length-map hands sender_of ∙ (c.hand_in_all-hands.ensures.0 ∙ ready.hands.many)))
    (λ k s at. comes-back c.in_ok-pool.field-0.pool c.args.shares.count
    (λ j. dealt_to j c.args.shares.threads.now c.args.items.items) c.in_ok-pool.field-0.hands.items hands ready.hands
    c.hand_in_all-hands.ensures k s (subst (λ l. slice_get l k ≡ Some s) c.senders_of.ensures at))
    (λ n. ap (λ l. sent_by n (l ++ c.close.result.items)) (sym ready.nothing) ∙ c.close.ensures.each n)
