use Rattle.std.proofs.Common.{◌∙◌, ap, subst}
use Rattle.std.proofs.lemmas.Option.{MatchOption-at_some}
use Rattle.nomos_state.specs.Indexed.{Indexed, held_now}
use Rattle.nomos_state.specs.Looked.{ObjectIsAt}
use Rattle.nomos_state.specs.Redirected.{redirected_at}
use Rattle.nomos_state.specs.declared.kept.Kept.{Kept}
use Rattle.nomos_state.specs.declared.kept.Kept.TheVariants as kept
use Rattle.nomos_state.proofs.LeavingLemmas.{stands-within}
use Rattle.nomos_state.proofs.ProcessLemmas.{spans-kept}
use Rattle.nomos_state.proofs.RedirectLemmas.{message-indexed, message-redirected, process-redirected}
use Rattle.nomos_state.proofs.inside.Inside.redirect_object.Goals as goal

pub rename_span-requires : goal.rename_span-requires
rename_span-requires c =
    let h = held_now c.self.inside.contents in
    let number = c.args.number in
    let step = c.in-Some-default-Process in
    let there : ObjectIsAt h number step.field-0-0 step.field-0-1 =
    MatchOption-at_some _ _ (step.field-0-0, step.field-0-1) step.is c.object_at.ensures in
    let at = subst (λ (k : Kept). ObjectIsAt h number step.field-0-0 k) step.field-0-1-is there in
    spans-kept h c.self.invariant.now step.field-0-0 number (kept.Process step.p) at.at

pub put-requires : goal.put-requires
put-requires c =
    let h = held_now c.self.inside.contents in
    let number = c.args.number in
    let step = c.in-Some-default-Message in
    let there : ObjectIsAt h number step.place step.field-0-1 =
    MatchOption-at_some _ _ (step.place, step.field-0-1) step.is c.object_at.ensures in
    stands-within h number step.place step.field-0-1 there

pub invariant_of-self-in-Some-default-Message : goal.invariant_of-self-in-Some-default-Message
invariant_of-self-in-Some-default-Message c =
    let h = held_now c.self.inside.contents in
    let number = c.args.number in
    let step = c.in-Some-default-Message in
    let there : ObjectIsAt h number step.place step.field-0-1 =
    MatchOption-at_some _ _ (step.place, step.field-0-1) step.is c.object_at.ensures in
    let at = subst (λ (k : Kept). ObjectIsAt h number step.place k) step.field-0-1-is there in
    message-indexed c.self.inside c.self.invariant c.args.old c.args.new number step.place step.m
    c.message_renamed-next.result c.put.new.self at c.message_renamed-next.ensures c.put.ensures.now
    c.put.ensures.marked c.put.ensures.room

pub returns-in-Some-default-Process-clause-state :
    goal.returns-in-Some-default-Process-clause-state
returns-in-Some-default-Process-clause-state c =
    let h = held_now c.self.inside.contents in
    let number = c.args.number in
    let step = c.in-Some-default-Process in
    let there : ObjectIsAt h number step.field-0-0 step.field-0-1 =
    MatchOption-at_some _ _ (step.field-0-0, step.field-0-1) step.is c.object_at.ensures in
    let at = subst (λ (k : Kept). ObjectIsAt h number step.field-0-0 k) step.field-0-1-is there in
    process-redirected c.self.inside c.self.invariant c.args.old c.args.new number step.field-0-0 step.p
    c.rename_span.new.channels at c.rename_span.ensures.names c.rename_span.ensures.marked c.rename_span.ensures.room
    ∙ ap (λ (i : Indexed). record i.state { objects = redirected_at number c.args.old c.args.new i.state.objects })
    c.self.view_is

pub returns-in-Some-default-Message-clause-state :
    goal.returns-in-Some-default-Message-clause-state
returns-in-Some-default-Message-clause-state c =
    let h = held_now c.self.inside.contents in
    let number = c.args.number in
    let step = c.in-Some-default-Message in
    let there : ObjectIsAt h number step.place step.field-0-1 =
    MatchOption-at_some _ _ (step.place, step.field-0-1) step.is c.object_at.ensures in
    let at = subst (λ (k : Kept). ObjectIsAt h number step.place k) step.field-0-1-is there in
    message-redirected c.self.inside c.self.invariant c.args.old c.args.new number step.place step.m
    c.message_renamed-next.result c.put.new.self at c.message_renamed-next.ensures c.put.ensures.now
    c.put.ensures.marked c.put.ensures.room
    ∙ ap (λ (i : Indexed). record i.state { objects = redirected_at number c.args.old c.args.new i.state.objects })
    c.self.view_is
