use Rattle.std.proofs.Common.{option_and_then, sym}
use Rattle.nomos_state.specs.Objects.{types_of}
use Rattle.nomos_state.specs.Sought.{typed_at}
use Rattle.nomos_state.specs.IndexWalks.{is_owned_over}
use Rattle.nomos_state.proofs.LookLemmas.{types-in_order}
use Rattle.nomos_state.proofs.SumLemmas.{name-found}
use Rattle.nomos_deeds.proofs.WalkLaws.{names-next}
use Rattle.nomos_state.proofs.walking.next_owned.Goals as goal

pub returns : goal.returns
returns c =
    let names = c.args.contents.now.names.now in
    let a = c.args.accepted.now in
    names-next a c.know.ensures.accepted c.args.after (types_of names)
    (types-in_order names c.requires.names_ascending)
    (option_and_then (typed_at names) c.first_owned.result)
    (sym (name-found (is_owned_over a.program c.args.after) names c.first_owned.result c.first_owned.ensures))
    c.name_in.result c.name_in.ensures
