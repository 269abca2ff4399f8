use Rattle.std.proofs.Common.{rules, ◌≡◌, ◌∙◌, option_and_then, option_copied, sym, ap}
use Rattle.nomos_plain.proofs.FindLemmas.{process_kept, offering_found}
use Rattle.nomos_plain.proofs.finds.offering.Goals as goal

pub returns-in-Some-Process : goal.returns-in-Some-Process
returns-in-Some-Process c =
    let seen : option_and_then process_kept (option_copied c.object_offering.result) ≡ _ = search rules in
    sym (offering_found c.args.objects.now c.args.name ∙ ap (option_and_then process_kept)
    (sym c.object_offering.ensures) ∙ seen)

pub returns-in_default : goal.returns-in_default
returns-in_default c =
    let seen : option_and_then process_kept (option_copied c.object_offering.result) ≡ _ = search rules in
    sym (offering_found c.args.objects.now c.args.name ∙ ap (option_and_then process_kept)
    (sym c.object_offering.ensures) ∙ seen)
