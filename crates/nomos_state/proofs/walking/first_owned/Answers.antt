use Rattle.std.proofs.Common.{sym, ◌∙◌, arith}
use Rattle.nomos_state.specs.Sought.{some_passes, typed_at}
use Rattle.nomos_state.specs.IndexWalks.{is_owned_over}
use Rattle.nomos_state.proofs.StartLemmas.{no-name-at_all, no-name-before, one-further}
use Rattle.nomos_state.proofs.walking.first_owned.Goals as goal

pub loop-place-init : goal.loop-place-init
loop-place-init c =
    no-name-before c.args.accepted.now.program c.args.contents.now.names.now c.args.after c.start_over-start.result
    c.start_over-start.ensures.before

pub loop-place-preserved : goal.loop-place-preserved
loop-place-preserved c =
    let names = c.args.contents.now.names.now in
    let test = is_owned_over c.args.accepted.now.program c.args.after in
    one-further (λ place. some_passes test (typed_at names place)) c.loop-place.place c.loop-place.invariant
    (sym c.is_owned_at.ensures ∙ c.if-is_owned_at.false)

pub returns : goal.returns
returns c =
    no-name-at_all (is_owned_over c.args.accepted.now.program c.args.after) c.args.contents.now.names.now
    c.loop-place.place (omega (arith, c.loop-place-test.false)) c.loop-place.invariant
