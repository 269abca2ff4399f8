use Rattle.std.proofs.Common.{◌∙◌, ap}
use Rattle.nomos_state.specs.Indexed.{Indexed, held_now}
use Rattle.nomos_state.proofs.TogetherLemmas.{marked-same, state-same}
use Rattle.nomos_state.proofs.inside.Inside.make_room.Goals as goal

pub returns-in_err-reserve_all-clause-state : goal.returns-in_err-reserve_all-clause-state
returns-in_err-reserve_all-clause-state c =
    state-same (held_now c.self.inside.contents) (held_now c.reserve_all.new.contents) c.reserve_all.ensures.now
    ∙ ap (λ (s : Indexed). s.state) c.self.view_is

pub returns-in_err-reserve_all-clause-marked : goal.returns-in_err-reserve_all-clause-marked
returns-in_err-reserve_all-clause-marked c =
    marked-same c.self.inside.contents c.reserve_all.new.contents c.self.inside.marked c.reserve_all.ensures.marked
    ∙ ap (λ (s : Indexed). s.marked) c.self.view_is

pub returns-clause-state : goal.returns-clause-state
returns-clause-state c =
    state-same (held_now c.self.inside.contents) (held_now c.reserve_all.new.contents) c.reserve_all.ensures.now
    ∙ ap (λ (s : Indexed). s.state) c.self.view_is

pub returns-clause-marked : goal.returns-clause-marked
returns-clause-marked c =
    marked-same c.self.inside.contents c.reserve_all.new.contents c.self.inside.marked c.reserve_all.ensures.marked
    ∙ ap (λ (s : Indexed). s.marked) c.self.view_is
