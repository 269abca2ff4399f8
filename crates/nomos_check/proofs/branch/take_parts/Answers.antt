use Rattle.std.proofs.Common.{ap, ◌∙◌}
use Rattle.nomos_ir.specs.Bindings.{bind}
use Rattle.nomos_check.proofs.WayLemmas.{full-goes}
use Rattle.nomos_check.proofs.branch.take_parts.Goals as goal

pub returns : goal.returns
returns c =
    let p = c.args.parts in
    full-goes c.args.now.now p c.bind-2.new.self c.bind.new.self c.gain.new.self c.in_ok-bind-2.ensures
    (c.in_ok-bind.ensures ∙ ap (bind p.tail p.carried) c.unbind.ensures)
    c.gain.ensures
