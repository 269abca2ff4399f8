use Rattle.std.proofs.Common.{◌∙◌, ap}
use Rattle.nomos_machine.specs.Change.{tidied}
use Rattle.nomos_machine.specs.State.{NameTypes, State}
use Rattle.nomos_state.specs.Indexed.{Indexed, held_now, state_of}
use Rattle.nomos_state.specs.Objects.{types_of}
use Rattle.nomos_state.specs.declared.inside.Columns.{Columns}
use Rattle.nomos_state.proofs.TidyLemmas.{types-tidied}
use Rattle.nomos_state.proofs.inside.Inside.tidy.Goals as goal

pub returns-clause-state : goal.returns-clause-state
returns-clause-state c =
    let h = held_now c.self.inside.contents in
    let s = state_of h in
    let With : NameTypes → State = λ types. record s { types = types } in
    ap (λ (x : Columns). state_of (held_now x)) c.tidy_all.ensures.others
    ∙ ap With (ap types_of c.tidy_all.ensures.names ∙ types-tidied s.objects h.names)
    ∙ ap (λ (x : Indexed). tidied x.state) c.self.view_is
