use Rattle.std.proofs.Common.{◌∙◌, drop, sym, ap, subst}
use Rattle.std.proofs.lemmas.Option.{MatchOption-at_some}
use Rattle.nomos_state.specs.Indexed.{held_now}
use Rattle.nomos_state.specs.Looked.{ProcessIsAt}
use Rattle.nomos_state.specs.Objects.{IsPotentialIf, ListRow}
use Rattle.nomos_state.proofs.ProcessLemmas.{lists-kept}
use Rattle.nomos_state.proofs.index_sight.InsideSight.affords.Goals as goal

pub affords-requires : goal.affords-requires
affords-requires c =
    let h = held_now c.self.inside.contents in
    let place = c.in-Some.place in
    let p = c.in-Some.p in
    let at : ProcessIsAt h c.args.pid place p = MatchOption-at_some _ _ (place, p) c.in-Some.is c.process_at.ensures in
    let left = c.lists_left-lists.ensures ∙ ap (λ (row : ListRow). drop p.gone row) c.row.ensures in
    subst (λ (row : ListRow). IsPotentialIf p.potential row) (sym left)
    (lists-kept h c.self.invariant.now place c.args.pid p at.at).1
