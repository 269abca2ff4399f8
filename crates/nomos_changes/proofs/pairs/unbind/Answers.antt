use Rattle.std.proofs.Common.{◌==◌, sym, ap, ◌∙◌}
use Rattle.std.specs.List.{position}
use Rattle.nomos_changes.proofs.UnbindLaws.{unbind-nowhere, unbind-there}
use Rattle.nomos_changes.proofs.pairs.unbind.Goals as goal

pub returns-in_err-at-clause-items : goal.returns-in_err-at-clause-items
returns-in_err-at-clause-items g c =
    let nowhere = c.in_err-at.ensures ∙ ap (position (λ e. e.0.0 == c.args.v.0)) c.as_slice.ensures.value in
    let told = unbind-nowhere c.args.v.0 c.args.pairs.now.items nowhere in
    sym told.0

pub returns-in_err-at-clause-value : goal.returns-in_err-at-clause-value
returns-in_err-at-clause-value g c =
    let nowhere = c.in_err-at.ensures ∙ ap (position (λ e. e.0.0 == c.args.v.0)) c.as_slice.ensures.value in
    let told = unbind-nowhere c.args.v.0 c.args.pairs.now.items nowhere in
    cc (told.1, c.from_residual.ensures)

pub returns-clause-items : goal.returns-clause-items
returns-clause-items g c =
    let there = c.in_ok-at.ensures ∙ ap (position (λ e. e.0.0 == c.args.v.0)) c.as_slice.ensures.value in
    let told = unbind-there c.args.v.0 c.args.pairs.now.items c.in_ok-at.at there in
    c.remove-pair.ensures.items ∙ sym told.1

pub returns-clause-value : goal.returns-clause-value
returns-clause-value g c =
    let there = c.in_ok-at.ensures ∙ ap (position (λ e. e.0.0 == c.args.v.0)) c.as_slice.ensures.value in
    let told = unbind-there c.args.v.0 c.args.pairs.now.items c.in_ok-at.at there in
    told.2 c.remove-pair.result c.remove-pair.ensures.value
