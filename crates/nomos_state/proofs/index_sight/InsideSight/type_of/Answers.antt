use Rattle.std.proofs.Common.{◌∙◌, sym, ap}
use Rattle.nomos_machine.specs.State.{type_of}
use Rattle.nomos_state.specs.Indexed.{Indexed, held_now}
use Rattle.nomos_state.proofs.LookLemmas.{types-found}
use Rattle.nomos_state.proofs.index_sight.InsideSight.type_of.Goals as goal

pub returns : goal.returns
returns c =
    let h = held_now c.self.inside.contents in
    c.get.ensures
    ∙ sym (types-found h.names c.args.name c.self.invariant.now.names_ascending)
    ∙ ap (λ (s : Indexed). type_of s.state.types c.args.name) c.self.view_is
