use Rattle.std.proofs.Common.{rules, sym, ap, ◌∙◌}
use Rattle.nomos_changes.proofs.PairLemmas.{bound_onto, onto-last, onto-nothing}
use Rattle.nomos_changes.proofs.pairs.bindings_of.Goals as goal

pub loop-pair-init : goal.loop-pair-init
loop-pair-init g c = record {
  items = ap (bound_onto c.args.pairs.items) c.in_ok-made.ensures.items ∙ onto-nothing c.args.pairs.items;
  room = search rules;
}

pub loop-pair-preserved : goal.loop-pair-preserved
loop-pair-preserved g c =
    let left = c.pop.new.self.items in
    record {
      items =
          ap (bound_onto left) c.bind.ensures.items
          ∙ sym (onto-last left c.in-Some.pair c.loop-pair.made.items)
          ∙ ap (λ ps. bound_onto ps c.loop-pair.made.items) (sym c.in-Some.ensures.items)
          ∙ c.loop-pair.invariant.items;
      room = search rules;
    }
