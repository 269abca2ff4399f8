use Rattle.std.proofs.Common.{◌≡◌, ◌∙◌, ℕ, Some, ap, refl}
use Rattle.nomos_machine.specs.Revised.{standing_at, with_channel}
use Rattle.nomos_machine.specs.State.{State, process_at}
use Rattle.nomos_changes.specs.Sharings.{acquiring, provides_linear, with_two}
use Rattle.nomos_changes.specs.SmallChanges.{with_name}
use Rattle.nomos_changes.proofs.BecomesLemmas.{becomes-then}
use Rattle.nomos_changes.proofs.SharingLemmas.{two-become}
use Rattle.nomos_changes.proofs.sharing.acquire_shared.Goals as goal

pub returns-clause-state : goal.returns-clause-state
returns-clause-state g c p q there beside apart =
    let state = g.P.Sight.state in
    let acquire = c.args.acquire in
    let pid = c.args.pid in
    let name = c.fresh_name-name.result in
    let s = state c.args.parts.now in
    let t = state c.come_name.new.self in
    let named : t ≡ with_name acquire.goes s = c.come_name.ensures.state in
    let there_then : process_at t pid ≡ Some p = ap (λ (u : State). process_at u pid) named ∙ there in
    let beside_then : process_at t acquire.other ≡ Some q =
    ap (λ (u : State). process_at u acquire.other) named ∙ beside in
    let goes = becomes-then t (state c.bind_channel.new.self) (state c.go_on.new.parts) pid p
    (with_channel acquire.variable name p) (standing_at acquire.next) there_then refl
    (c.bind_channel.ensures.state p there_then) c.go_on.ensures.state in
    two-become t pid acquire.other p q there_then beside_then apart (state c.go_on.new.parts)
    (state c.provide_as.new.parts) (acquiring acquire name p) (provides_linear acquire name) refl goes
    c.provide_as.ensures.state
    ∙ ap (λ (n : ℕ). with_two t pid (acquiring acquire n p) acquire.other (provides_linear acquire n q))
    c.fresh_name-name.ensures
    ∙ ap (λ (u : State). with_two u pid (acquiring acquire s.next_name p) acquire.other
    (provides_linear acquire s.next_name q)) named
