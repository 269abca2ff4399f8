use Rattle.std.proofs.Common.{rules, ◌≡◌, ◌∙◌, option_and_then, option_copied, sym, ap}
use Rattle.nomos_plain.proofs.FindLemmas.{message_kept, message_found}
use Rattle.nomos_plain.proofs.finds.message_on.Goals as goal

pub returns-in-Some-Message : goal.returns-in-Some-Message
returns-in-Some-Message c =
    let seen : option_and_then message_kept (option_copied c.object_on.result) ≡ _ = search rules in
    sym (message_found c.args.objects.now c.args.to_client c.args.name ∙ ap (option_and_then message_kept)
    (sym c.object_on.ensures) ∙ seen)

pub returns-in_default : goal.returns-in_default
returns-in_default c =
    let seen : option_and_then message_kept (option_copied c.object_on.result) ≡ _ = search rules in
    sym (message_found c.args.objects.now c.args.to_client c.args.name ∙ ap (option_and_then message_kept)
    (sym c.object_on.ensures) ∙ seen)
