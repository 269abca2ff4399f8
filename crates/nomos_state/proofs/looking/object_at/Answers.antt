use Rattle.std.proofs.Common.{◌∙◌, sym, subst}
use Rattle.std.proofs.lemmas.Option.{MatchOption-at_none, MatchOption-at_some}
use Rattle.nomos_state.specs.Indexed.{held_now}
use Rattle.nomos_state.specs.Looked.{IsObjectAt}
use Rattle.nomos_state.proofs.FoundLemmas.{found-gap, found-kept}
use Rattle.nomos_state.proofs.LookLemmas.{number-missed}
use Rattle.nomos_state.proofs.looking.object_at.Goals as goal

pub returns-in_err-place : goal.returns-in_err-place
returns-in_err-place c =
    let h = held_now c.args.contents.now in
    let others = MatchOption-at_none _ _ c.in_err-place.was c.place_of.ensures in
    subst (IsObjectAt h c.args.number) (sym c.from_residual.ensures) (number-missed h c.args.number others)

pub returns-in_err-kept : goal.returns-in_err-kept
returns-in_err-kept c =
    let h = held_now c.args.contents.now in
    let place = c.in_ok-place.place in
    let at = MatchOption-at_some _ _ place c.in_ok-place.was c.place_of.ensures in
    subst (IsObjectAt h c.args.number) (sym c.from_residual-in_err-kept.ensures)
    (found-gap h c.requires place c.args.number at (sym c.kept_at.ensures ∙ c.in_err-kept.was))

pub returns : goal.returns
returns c =
    let h = held_now c.args.contents.now in
    let place = c.in_ok-place.place in
    let at = MatchOption-at_some _ _ place c.in_ok-place.was c.place_of.ensures in
    found-kept h c.requires place c.args.number _ c.in_ok-kept.kept at (sym c.kept_at.ensures ∙ c.in_ok-kept.was)
