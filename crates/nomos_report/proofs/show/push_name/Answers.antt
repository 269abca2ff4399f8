use Rattle.std.proofs.Common.{◌≡◌, List, ℕ, ◌++◌, OnOk, subst}
use Rattle.nomos_report.proofs.ChannelLemmas.{name-told}
use Rattle.nomos_report.proofs.show.push_name.Goals as goal

pub returns : goal.returns
returns g c =
    subst
    (λ (t : List ℕ). OnOk c.push_owner.result (c.push_owner.new.text.items ≡ c.args.text.now.items ++ t))
    (name-told c.args.accepted.now (g.M.Sight.state c.args.machine.now) c.know.ensures.accepted c.args.name
    c.owner.result c.owner.ensures.linear c.owner.ensures.other)
    c.push_owner.ensures
