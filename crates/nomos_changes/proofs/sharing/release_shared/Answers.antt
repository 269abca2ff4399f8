use Rattle.std.proofs.Common.{refl}
use Rattle.nomos_machine.specs.Revised.{standing_at, with_channel, without_channel}
use Rattle.nomos_machine.specs.declared.object.Process.{Process}
use Rattle.nomos_changes.specs.Sharings.{provides_shared, releasing}
use Rattle.nomos_changes.proofs.BecomesLemmas.{becomes-then}
use Rattle.nomos_changes.proofs.SharingLemmas.{two-become}
use Rattle.nomos_changes.proofs.sharing.release_shared.Goals as goal

pub returns-clause-state : goal.returns-clause-state
returns-clause-state g c p q there beside apart =
    let state = g.P.Sight.state in
    let release = c.args.release in
    let pid = c.args.pid in
    let s = state c.args.parts.now in
    let freed : Process = without_channel release.variable p in
    let refers : Process = with_channel release.reference release.shared freed in
    let bound = becomes-then s (state c.unbind_channel.new.self) (state c.bind_channel.new.self) pid p freed
    (with_channel release.reference release.shared) there refl (c.unbind_channel.ensures.state p there)
    c.bind_channel.ensures.state in
    let goes = becomes-then s (state c.bind_channel.new.self) (state c.go_on.new.parts) pid p refers
    (standing_at release.next) there refl bound c.go_on.ensures.state in
    two-become s pid release.other p q there beside apart (state c.go_on.new.parts) (state c.provide_as.new.parts)
    (releasing release p) (provides_shared release) refl goes c.provide_as.ensures.state
