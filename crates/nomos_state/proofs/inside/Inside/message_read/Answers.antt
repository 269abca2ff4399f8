use Rattle.std.proofs.Common.{Bool, None, Some, cond, sym, ap, ◌∙◌, subst}
use Rattle.std.proofs.lemmas.Option.{MatchOption-at_some}
use Rattle.std.specs.Option.{option_map}
use Rattle.nomos_deeds.specs.SeenObjects.{seen_message}
use Rattle.nomos_machine.specs.Objects.{object_at}
use Rattle.nomos_state.specs.Indexed.{Indexed, held_now, state_of}
use Rattle.nomos_state.specs.Looked.{ObjectIsAt, values_at}
use Rattle.nomos_state.specs.Objects.{message_held}
use Rattle.nomos_state.specs.declared.kept.Kept.{Kept}
use Rattle.nomos_state.proofs.SeekLemmas.{value-standing}
use Rattle.nomos_state.proofs.TellLemmas.{read-seen}
use Rattle.nomos_state.proofs.inside.Inside.message_read.Goals as goal

pub returns-then-is_message_sought : goal.returns-then-is_message_sought
returns-then-is_message_sought c o here =
    let h = held_now c.self.inside.contents in
    let step = c.in-Some-default-Message in
    let there : ObjectIsAt h c.args.number step.field-0-0 step.field-0-1 =
    MatchOption-at_some _ _ (step.field-0-0, step.field-0-1) step.is c.object_at.ensures in
    let at = subst (λ (k : Kept). ObjectIsAt h c.args.number step.field-0-0 k) step.field-0-1-is there in
    let row = values_at h step.field-0-0 in
    let m = message_held c.args.number row step.m in
    let reads = sym (c.is_message_sought.ensures c.args.number row) ∙ c.if-is_message_sought.true in
    ap (λ s. Some s) (c.seen_message.ensures row
    (value-standing h c.self.invariant.now step.field-0-0 c.args.number step.m at.at))
    ∙ sym (ap (λ (b : Bool). option_map seen_message (cond b (Some m) None)) reads)
    ∙ read-seen (state_of h).objects c.args.number c.args.name c.args.to_client m o at.found
    (ap (λ (i : Indexed). object_at i.state.objects c.args.number) c.self.view_is ∙ here)

pub returns-else-is_message_sought : goal.returns-else-is_message_sought
returns-else-is_message_sought c o here =
    let h = held_now c.self.inside.contents in
    let step = c.in-Some-default-Message in
    let there : ObjectIsAt h c.args.number step.field-0-0 step.field-0-1 =
    MatchOption-at_some _ _ (step.field-0-0, step.field-0-1) step.is c.object_at.ensures in
    let at = subst (λ (k : Kept). ObjectIsAt h c.args.number step.field-0-0 k) step.field-0-1-is there in
    let row = values_at h step.field-0-0 in
    let m = message_held c.args.number row step.m in
    let reads = sym (c.is_message_sought.ensures c.args.number row) ∙ c.if-is_message_sought.false in
    sym (ap (λ (b : Bool). option_map seen_message (cond b (Some m) None)) reads)
    ∙ read-seen (state_of h).objects c.args.number c.args.name c.args.to_client m o at.found
    (ap (λ (i : Indexed). object_at i.state.objects c.args.number) c.self.view_is ∙ here)
