use Rattle.nomos_typed.proofs.PlacingLemmas.{each-kinds, kinds-each}
use Rattle.nomos_typed.proofs.placing.is_held.Goals as goal

pub returns : goal.returns
returns c =
    let l = c.args.list.now in
    let held = c.args.held.now in (
      λ yes.
          let parts = c.both.ensures.0 yes in
          record {
            amount = c.is_amount.ensures.0 parts.0;
            items = kinds-each l.items held.kind (c.all_have_kind.ensures.0 parts.1);
          },
      λ is.
          c.both.ensures.1 (
            c.is_amount.ensures.1 is.amount,
            c.all_have_kind.ensures.1 (each-kinds l.items held.kind is.items),
          ),
    )
