use Rattle.std.proofs.Common.{◌∙◌, length, ap, arith}
use Rattle.nomos_forms.proofs.PlaceLemmas.{end-of, length-ends}
use Rattle.nomos_forms.specs.declared.row_group.RowGroup.{RowGroup}
use Rattle.nomos_forms.proofs.rows.place_in.Goals as goal

pub bounds-ends-group : goal.bounds-ends-group
bounds-ends-group c =
    let below = c.in_ok-leasts.ensures.lookup.3.0 in
    omega (arith, below, ap length c.requires ∙ length-ends 0 c.args.groups.now)

pub overflow_sub-behind : goal.overflow_sub-behind
overflow_sub-behind c =
    let k = c.groups_before-group.result in
    let found = c.in_ok-leasts.ensures.lookup in
    let own = c.in_ok-leasts.field-0.now in
    let at = c.groups_before-group.ensures c.args.groups.now c.requires in
    omega (arith, at.end own found.3.0, end-of c.args.ends.now c.args.groups.now k own c.requires found.3.0)

pub overflow_sub-result : goal.overflow_sub-result
overflow_sub-result c =
    let k = c.groups_before-group.result in
    let found = c.in_ok-leasts.ensures.lookup in
    let own = c.in_ok-leasts.field-0.now in
    let at = c.groups_before-group.ensures c.args.groups.now c.requires in
    let long = ap (λ (g : RowGroup). length g.leasts.items) found.1 in
    omega (
      arith,
      at.start,
      end-of c.args.ends.now c.args.groups.now k own c.requires found.3.0,
      long,
      c.len.ensures,
      own.leasts.ok.0,
    )

pub returns : goal.returns
returns c =
    let k = c.groups_before-group.result in
    let found = c.in_ok-leasts.ensures.lookup in
    let own = c.in_ok-leasts.field-0.now in
    let at = c.groups_before-group.ensures c.args.groups.now c.requires in (
      found.3.0,
      λ group.
          let end = end-of c.args.ends.now c.args.groups.now k group c.requires found.3.0 in
          let over = at.end group found.3.0 in
          let long = ap (λ (g : RowGroup). length g.leasts.items) (found.3.1 group) in
          let len = c.len.ensures in (
            omega (arith, at.start, end, over, long, len, own.leasts.ok.0),
            omega (arith, at.start, end, over, long, len, own.leasts.ok.0),
          ),
    )
