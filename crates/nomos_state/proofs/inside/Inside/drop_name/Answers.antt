use Rattle.std.proofs.Common.{◌∙◌, ap}
use Rattle.nomos_machine.specs.State.{NameTypes, State}
use Rattle.nomos_state.specs.Indexed.{Indexed, held_now, state_of}
use Rattle.nomos_state.specs.Tidying.{without_type}
use Rattle.nomos_state.specs.declared.inside.Columns.{Columns}
use Rattle.nomos_state.proofs.inside.Inside.drop_name.Goals as goal

pub returns-clause-state : goal.returns-clause-state
returns-clause-state c =
    let s = state_of (held_now c.self.inside.contents) in
    let With : NameTypes → State = λ types. record s { types = types } in
    ap (λ (x : Columns). state_of (held_now x)) c.drop_in.ensures.others
    ∙ ap With c.drop_in.ensures.types
    ∙ ap (λ (x : Indexed). without_type c.args.name x.state) c.self.view_is
