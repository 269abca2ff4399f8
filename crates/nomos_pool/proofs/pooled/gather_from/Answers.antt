use Rattle.std.proofs.Common.{◌≡◌, ◌∙◌, ◌++◌, All, ap, map, subst, sym, take}
use Rattle.std.proofs.lemmas.List.{take-append-drop}
use Rattle.std.proofs.lemmas.Result.{on_ok_weaker}
use Rattle.nomos_script.specs.declared.item.ScriptItem.TheVariants as item
use Rattle.nomos_pool.specs.Pooled.{IsSingle}
use Rattle.nomos_pool.proofs.PooledLaws.{single-batches}
use Rattle.nomos_pool.proofs.pooled.gather_from.Goals as goal

pub returns : goal.returns
returns g c =
    let place = c.args.place in
    let items = c.args.items.now.items in
    let batches = c.in_ok-batches.batches.items in
    let gathered = c.in_ok-gather.field-0.items in
    let rest = c.in_ok-batches.ensures ∙ c.in_ok-split_off.ensures.tail in
    on_ok_weaker c.put_behind.result
    (λ (are : c.put_behind.new.items.items
    ≡ c.split_off.new.self.items ++ map (λ s. item.Batch s.item) gathered). record {
      first = take place items;
      batches = batches;
      gathered = gathered;
      read = sym (take-append-drop place items) ∙ ap (λ l. take place items ++ l) (sym rest);
      others = c.requires.before;
      single = single-batches batches (subst (All IsSingle) (sym rest) c.requires.single);
      fair = c.in_ok-gather.ensures.fair;
      taken = are ∙ ap (λ l. l ++ map (λ s. item.Batch s.item) gathered) c.in_ok-split_off.ensures.items;
    }) c.put_behind.ensures
