use Rattle.std.proofs.Common.{◌∙◌, List, subst, sym}
use Rattle.std.proofs.lemmas.List.{with_items_is}
use Rattle.nomos_pool.specs.Gathering.{dealt_to}
use Rattle.nomos_pool.specs.Hands.{AreDealt, AreHandsOf}
use Rattle.nomos_pool.specs.declared.hands.Hand.{Hand}
use Rattle.nomos_pool.proofs.HandLemmas.{dealt-hands}
use Rattle.nomos_pool.proofs.gathering.make_ready.Goals as goal

pub returns : goal.returns
returns g c =
    let taker = c.in_ok-pool.ensures.taker in
    let new = c.in_ok-pool.ensures.senders in
    let threads = c.args.threads.now in
    let items = c.args.items.items in
    let after = c.deal.new.hands in
    let hands = c.in_ok-hands.hands.items in
    let pool = c.in_ok-pool.field-0.pool in
    let dealt = subst (λ l. AreDealt threads items l after) c.as_mut_slice.ensures.value c.in_ok-deal.ensures in
    let back = with_items_is c.in_ok-hands.hands after (dealt.0 ∙ sym c.in_ok-hands.hands.ok.0) in
    record {
      taker = taker.0;
      nothing = taker.1;
      many = new.all;
      hands = subst (λ (l : List (Hand g.row.T.Denot)). AreHandsOf pool c.args.count (λ j. dealt_to j threads items) l)
          (sym back)
          (dealt-hands pool c.args.count threads items c.in_ok-pool.field-0.senders.items hands after new
          c.in_ok-hands.ensures dealt);
      empty = (c.in_ok-room.ensures.items, c.in_ok-room.ensures.len);
      free = c.in_ok-room.ensures.capacity;
    }
