-- One bidder more.
use Rattle.std.proofs.Common.{◌≡◌, ◌+◌, ◌++◌, sym, ap, ◌∙◌, append_assoc}
use Rattle.nomos_words.specs.BenchLoad.{bid, bid_for, bidder_lines, bidders_lines, drawn_at, next_draw}
use Rattle.nomos_words.proofs.LoadLemmas.{drawn_at-more, bidders_lines-more}
use Rattle.nomos_words.proofs.load.push_bidders.Goals as goal

pub loop-before-preserved : goal.loop-before-preserved
loop-before-preserved c =
    let seed = c.args.seed in
    let k = c.loop-before.before in
    let drawn : c.next_draw-drawn.result ≡ drawn_at seed (k + 1) =
    c.next_draw-drawn.ensures ∙ ap next_draw c.loop-before.invariant.drawn ∙ sym (drawn_at-more seed k) in
    let amount : c.bid_for.result ≡ bid seed (k + 1) = c.bid_for.ensures ∙ ap bid_for drawn in
    record {
      pushed =
          c.in_ok-push_bidder.ensures
          ∙ ap (λ items. items ++ bidder_lines (k + 1) c.bid_for.result) c.loop-before.invariant.pushed
          ∙ ap (λ b. (c.args.text.now.items ++ bidders_lines seed k) ++ bidder_lines (k + 1) b) amount
          ∙ append_assoc c.args.text.now.items (bidders_lines seed k) (bidder_lines (k + 1) (bid seed (k + 1)))
          ∙ ap (λ lines. c.args.text.now.items ++ lines) (sym (bidders_lines-more seed k));
      drawn = drawn;
    }
