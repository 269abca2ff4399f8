-- The first values are given out.
use Rattle.std.proofs.Common.{sym, ap, ◌∙◌, subst, []}
use Rattle.nomos_eval.specs.declared.list_store.StoredList.{StoredList}
use Rattle.nomos_eval.specs.mirror.EvalTable.{datum_value}
use Rattle.nomos_eval.specs.mirror.ListCell.{IsPart}
use Rattle.nomos_eval.proofs.LoadLemmas.{unload-step, unload-given}
use Rattle.nomos_eval.proofs.values.+unload.Goals as goal

pub returns-in-Empty : goal.returns-in-Empty
returns-in-Empty t c =
    let P : StoredList → Type 0 = λ x. IsPart c.args.lists.now c.loop-alloc.at x in
    unload-given c.args.lists.now c.loop-alloc.heads.items c.loop-alloc.at _ [] _ _ c.in_ok-node-in-Empty.ensures
    c.empty.ensures (subst P c.in-Empty.is c.look.ensures) c.loop-alloc.invariant.2
    ∙ ap (datum_value c.args.lists.now) (sym c.in-List.is)

pub returns-in-Given : goal.returns-in-Given
returns-in-Given t c =
    let P : StoredList → Type 0 = λ x. IsPart c.args.lists.now c.loop-alloc.at x in
    unload-given c.args.lists.now c.loop-alloc.heads.items c.loop-alloc.at _ _ _ _ c.in_ok-node-in-Given.ensures
    c.in_ok-copy-in-Given.ensures (subst P c.in-Given.is c.look.ensures) c.loop-alloc.invariant.2
    ∙ ap (datum_value c.args.lists.now) (sym c.in-List.is)

pub loop-alloc-preserved : goal.loop-alloc-preserved
loop-alloc-preserved t c =
    let P : StoredList → Type 0 = λ x. IsPart c.args.lists.now c.loop-alloc.at x in
    unload-step c.args.lists.now c.loop-alloc.heads.items c.push.new.self.items c.in_ok-unload-in-More.field-0
    c.loop-alloc.at c.in-List.place c.in-More.tail c.in-More.head _ c.in_ok-push-in-More.ensures.items
    c.in_ok-unload-in-More.ensures (subst P c.in-More.is c.look.ensures) c.loop-alloc.invariant
