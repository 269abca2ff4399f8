use Rattle.std.proofs.Common.{refl}
use Rattle.nomos_machine.specs.Revised.{standing_at}
use Rattle.nomos_changes.specs.SmallChanges.{with_list_change}
use Rattle.nomos_changes.proofs.BecomesLemmas.{becomes-then}
use Rattle.nomos_changes.proofs.revising.go_on_with.Goals as goal

pub returns-clause-ok : goal.returns-clause-ok
returns-clause-ok g c p there =
    becomes-then (g.P.Sight.state c.args.parts.now) (g.P.Sight.state c.change_lists.new.self)
    (g.P.Sight.state c.go_on.new.parts) c.args.pid p (with_list_change c.args.change p) (standing_at c.args.next) there
    refl
    (c.in_ok-change_lists.ensures.ok p there) c.go_on.ensures.state
