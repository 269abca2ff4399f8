use Rattle.std.proofs.Common.{◌∙◌, sym, ap}
use Rattle.nomos_machine.specs.declared.object.Object.TheVariants as object
use Rattle.nomos_state.specs.Objects.{message_held}
use Rattle.nomos_state.specs.Sought.{is_sought}
use Rattle.nomos_state.specs.declared.sought.Sought.{Sought}
use Rattle.nomos_state.proofs.sought.is_message_sought.Goals as goal

pub returns-in-MessageUsing : goal.returns-in-MessageUsing
returns-in-MessageUsing c number values =
    c.message_uses.ensures number values
    ∙ sym (ap (λ (s : Sought). is_sought s (object.Message (message_held number values c.args.m.now)))
    c.in-MessageUsing.is)

pub returns-in-Mention : goal.returns-in-Mention
returns-in-Mention c number values =
    c.message_mentions.ensures number values
    ∙ sym (ap (λ (s : Sought). is_sought s (object.Message (message_held number values c.args.m.now))) c.in-Mention.is)
