use Rattle.std.proofs.Common.{◌∙◌, ◌∷◌, ◌++◌, ◌+◌, All, drop, take, ap, subst, sym, true≢false}
use Rattle.std.proofs.lemmas.List.{drop_more, take-append-drop, take_all}
use Rattle.std.proofs.lemmas.List.Elements.{All-more}
use Rattle.nomos_pool.specs.Pooled.{IsSingle}
use Rattle.nomos_pool.proofs.pooled.first_other.Goals as goal

pub returns-then-not-is_single : goal.returns-then-not-is_single
returns-then-not-is_single c =
    let k = c.loop-item.item-index in
    let items = c.args.items.now in
    let at = c.item-item in
    record {
      single = take k items;
      bad = at.result;
      rest = drop (k + 1) items;
      read = sym (take-append-drop k items)
          ∙ ap (λ l. take k items ++ l)
          (drop_more items k at.result c.loop-item-test.true ∙ ap (λ x. x ∷ drop (k + 1) items) (sym at.is));
      all = c.loop-item.invariant;
      other = λ single. true≢false (sym (c.is_single.ensures.1 single) ∙ c.if-not-is_single.true);
      at = c.line_of.ensures;
    }

pub loop-item-preserved : goal.loop-item-preserved
loop-item-preserved c =
    All-more IsSingle c.args.items.now c.loop-item.item-index c.item-item.result c.loop-item-test.true
    c.loop-item.invariant (subst IsSingle c.item-item.is (c.is_single.ensures.0 c.if-not-is_single.false))

pub returns : goal.returns
returns c =
    subst (All IsSingle) (take_all c.loop-item.item-index c.args.items.now c.loop-item-test.false) c.loop-item.invariant
