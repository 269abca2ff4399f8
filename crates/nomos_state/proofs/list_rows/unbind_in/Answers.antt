use Rattle.std.proofs.Common.{◌∙◌, ◌==◌, [], Option, sym, ap, drop, slice_index_or}
use Rattle.std.specs.List.{position}
use Rattle.nomos_ir.specs.declared.ids.VarId.{VarId}
use Rattle.nomos_changes.specs.SmallChanges.{unbound_if}
use Rattle.nomos_changes.proofs.UnbindLaws.{unbind-nowhere, unbind-there}
use Rattle.nomos_state.specs.Objects.{ListRow}
use Rattle.nomos_state.proofs.PotentialLemmas.{used-fits}
use Rattle.nomos_state.proofs.list_rows.unbind_in.Goals as goal

pub returns-in_default-place_of-clause-left : goal.returns-in_default-place_of-clause-left
returns-in_default-place_of-clause-left c =
    let left : ListRow = drop c.args.kept.gone (slice_index_or c.args.lists.now.now c.args.place []) in
    let w = c.in-Some.w in
    let row = c.lists_left.ensures ∙ ap (λ (ls : ListRow). drop c.args.kept.gone ls) c.row.ensures in
    let nowhere = sym c.in_default-place_of.is ∙ c.place_of.ensures ∙ ap (position (λ e. e.0.0 == w.0)) row in
    sym (unbind-nowhere w.0 left nowhere).0 ∙ ap (λ (o : Option VarId). unbound_if o left) (sym c.in-Some.is)

pub returns-clause-left : goal.returns-clause-left
returns-clause-left c =
    let left : ListRow = drop c.args.kept.gone (slice_index_or c.args.lists.now.now c.args.place []) in
    let w = c.in-Some.w in
    let row = c.lists_left.ensures ∙ ap (λ (ls : ListRow). drop c.args.kept.gone ls) c.row.ensures in
    let there = sym c.in-Some-place_of.is ∙ c.place_of.ensures ∙ ap (position (λ e. e.0.0 == w.0)) row in
    c.use_up.ensures.left ∙ sym (unbind-there w.0 left c.in-Some-place_of.at there).1
    ∙ ap (λ (o : Option VarId). unbound_if o left) (sym c.in-Some.is)

pub returns-clause-fits : goal.returns-clause-fits
returns-clause-fits c =
    let rest : ListRow = slice_index_or c.args.lists.now.now c.args.place [] in
    let left : ListRow = drop c.args.kept.gone rest in
    let w = c.in-Some.w in
    let row = c.lists_left.ensures ∙ ap (λ (ls : ListRow). drop c.args.kept.gone ls) c.row.ensures in
    let there = sym c.in-Some-place_of.is ∙ c.place_of.ensures ∙ ap (position (λ e. e.0.0 == w.0)) row in
    let parts = unbind-there w.0 left c.in-Some-place_of.at there in
    used-fits c.args.kept.gone c.use_up.result.gone c.args.kept.potential c.use_up.result.potential rest
    (slice_index_or c.use_up.new.lists.now c.args.place []) w.0 c.in-Some-place_of.at c.requires.fits
    c.use_up.ensures.gone parts.0 parts.1 c.use_up.ensures.left c.use_up.ensures.potential
