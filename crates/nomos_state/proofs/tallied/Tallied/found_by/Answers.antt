use Rattle.std.proofs.Common.{◌∙◌, sym, ap}
use Rattle.nomos_machine.specs.Objects.{times}
use Rattle.nomos_state.specs.Indexed.{Indexed}
use Rattle.nomos_state.specs.Tallying.{counted_in, names_of}
use Rattle.nomos_state.proofs.tallied.Tallied.found_by.Goals as goal

pub told_by-requires : goal.told_by-requires
told_by-requires c =
    let right = c.self.invariant.now.right c.if-not-self.false c.args.doing c.args.name in
    ap (counted_in c.args.doing) (c.in-Some.ensures)
    ∙ right
    ∙ ap (λ (i : Indexed). times (names_of c.args.doing) i.state.objects c.args.name) c.self.view_is

pub returns-in-None : goal.returns-in-None
returns-in-None c =
    let right = c.self.invariant.now.right c.if-not-self.false c.args.doing c.args.name in
    sym (ap (counted_in c.args.doing) c.in-None.ensures
    ∙ right
    ∙ ap (λ (i : Indexed). times (names_of c.args.doing) i.state.objects c.args.name) c.self.view_is)
