use Rattle.std.proofs.Common.{◌≡◌, ◌∙◌, IsSome, false, true, subst, sym}
use Rattle.nomos_machine.specs.Revised.{standing_at}
use Rattle.nomos_changes.proofs.BecomesLemmas.{on_ok}
use Rattle.nomos_changes.proofs.BeginLemmas.{if-told}
use Rattle.nomos_changes.proofs.MadeLemmas.{can-acts, alone-made}
use Rattle.nomos_changes.proofs.acts_alone.act_revision.Goals as goal

pub returns-in-Some-clause-ok : goal.returns-in-Some-clause-ok
returns-in-Some-clause-ok g c a can =
    let s = g.P.Sight.state c.args.parts.now in
    let acts = can-acts a s c.args.pid c.args.values c.args.act can in
    let told = if-told _ c.in_ok-revision.field-0 (c.in-Some.revision, c.in-Some.next) c.in-Some.is
    (c.in_ok-revision.ensures.revises a s acts.process acts.change acts.changes c.requires.alone).0 in
    on_ok c.revise.result
    (λ is. is
    ∙ alone-made a s acts.process (standing_at c.in-Some.next told.becomes) c.args.pid acts.change acts.number
    told.alone_is
    ∙ sym acts.makes)
    (c.revise.ensures.ok acts.process told.becomes acts.there told.revises)

pub returns-in-None-clause-ok : goal.returns-in-None-clause-ok
returns-in-None-clause-ok g c a can =
    let s = g.P.Sight.state c.args.parts.now in
    let acts = can-acts a s c.args.pid c.args.values c.args.act can in
    let told = (c.in_ok-revision.ensures.revises a s acts.process acts.change acts.changes c.requires.alone).1 in
    let nothing : false ≡ true = subst IsSome c.in-None.is told in
    absurd cc
