use Rattle.std.proofs.Common.{◌≡◌, ◌≤◌, ◌∙◌, ap, subst}
use Rattle.nomos_ir.specs.Order.{count_of}
use Rattle.nomos_machine.specs.Objects.{object_at, times}
use Rattle.nomos_state.specs.Indexed.{Indexed}
use Rattle.nomos_state.specs.NameUses.{DoesAt}
use Rattle.nomos_state.specs.Tallying.{names_of}
use Rattle.nomos_state.specs.declared.tally.NameUse.{NameUse}
use Rattle.nomos_state.specs.NameFinding.{doing_of}
use Rattle.nomos_state.proofs.FindLemmas.{message-nobody, message-one}
use Rattle.nomos_state.proofs.tallied.Tallied.message_on.Goals as goal

pub returns-in-Nobody : goal.returns-in-Nobody
returns-in-Nobody c =
    let objects = c.args.self.now.state.objects in
    let name = c.args.name in
    message-nobody objects name c.args.to_client
    (subst (λ (d : NameUse). times (names_of d) objects name ≡ 0) c.doing_of.ensures c.in-Nobody.ensures)

pub returns-in-One : goal.returns-in-One
returns-in-One c =
    let objects = c.args.self.now.state.objects in
    let name = c.args.name in
    let (one, told) = c.in-One.ensures in
    let (o, there, did) = told in
    let here = ap (λ (i : Indexed). object_at i.state.objects c.in-One.by.object) c.self.view_is ∙ there in
    let does : DoesAt (names_of (doing_of c.args.to_client)) objects c.in-One.by.object name =
    (o, there, subst (λ (d : NameUse). 1 ≤ count_of name (names_of d o)) c.doing_of.ensures did) in
    c.message_read.ensures o here
    ∙ message-one objects name c.in-One.by.object c.args.to_client
    (subst (λ (d : NameUse). times (names_of d) objects name ≡ 1) c.doing_of.ensures one) does
