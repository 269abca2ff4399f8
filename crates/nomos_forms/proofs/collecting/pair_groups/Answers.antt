use Rattle.std.proofs.Common.{◌∙◌, [], ◌∷◌, ◌++◌, take, get_or, ap, sym, subst}
use Rattle.std.specs.List.{flat_map}
use Rattle.std.proofs.lemmas.Grind.{flat_map-append}
use Rattle.std.proofs.lemmas.List.{append-nil, take_all, take_more}
use Rattle.nomos_ir.specs.declared.amount.Amount.{Amount}
use Rattle.nomos_ir.specs.declared.amount.Amount.TheVariants as amount
use Rattle.nomos_forms.specs.RowsOf.{pair_rows}
use Rattle.nomos_forms.specs.RowGroups.{rows_in}
use Rattle.nomos_forms.specs.mirror.SameRows.{HasSame}
use Rattle.nomos_forms.proofs.CollectLemmas.{same-trans}
use Rattle.nomos_forms.proofs.GroupLemmas.{same-front}
use Rattle.nomos_forms.proofs.collecting.pair_groups.Goals as goal

pub loop-pair-preserved : goal.loop-pair-preserved
loop-pair-preserved c =
    let f = pair_rows c.args.stars in
    let pairs = c.args.pairs.now in
    let i = c.loop-pair.pair-index in
    let none : Amount × Amount = (amount.Written 0, amount.Written 0) in
    let item = get_or pairs i none in
    let old = rows_in c.loop-pair.groups.items in
    let new = rows_in c.add_pair.new.groups.items in
    let before = flat_map f (take i pairs) in
    let more = ap (flat_map f) (take_more pairs i none c.loop-pair-test.true)
    ∙ flat_map-append f (take i pairs) (item ∷ []) ∙ ap (λ rows. before ++ rows) (append-nil (f item)) in
    record {
      counted = c.in_ok-add_pair.ensures.groups;
      rows = subst (HasSame new) (sym more) (same-trans new (old ++ f item) (before ++ f item)
          c.in_ok-add_pair.ensures.rows
          (same-front (f item) old before c.loop-pair.invariant.rows));
    }

pub returns-clause-rows : goal.returns-clause-rows
returns-clause-rows c =
    subst (λ ps. HasSame (rows_in c.loop-pair.groups.items) (flat_map (pair_rows c.args.stars) ps))
    (take_all c.loop-pair.pair-index c.args.pairs.now c.loop-pair-test.false) c.loop-pair.invariant.rows
