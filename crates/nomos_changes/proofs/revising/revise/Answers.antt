use Rattle.std.proofs.Common.{◌≡◌, ◌∙◌, ℕ, sym, ap, refl}
use Rattle.nomos_machine.specs.Revised.{poorer, standing_at, with_value}
use Rattle.nomos_machine.specs.declared.object.Process.{Process}
use Rattle.nomos_changes.specs.Revisions.{revised}
use Rattle.nomos_changes.specs.SmallChanges.{with_process}
use Rattle.nomos_changes.proofs.BecomesLemmas.{becomes-then}
use Rattle.nomos_changes.proofs.MadeLemmas.{one-some}
use Rattle.nomos_changes.proofs.revising.revise.Goals as goal

pub returns-in-Spends-clause-ok : goal.returns-in-Spends-clause-ok
returns-in-Spends-clause-ok g c p q there makes =
    let s = g.P.Sight.state c.args.parts.now in
    let is : poorer c.in-Spends.gas p ≡ q =
    one-some (poorer c.in-Spends.gas p) q (sym (ap (λ r. revised r p) c.in-Spends.is) ∙ makes) in
    c.spend.ensures.state p there
    ∙ ap (λ (gas : ℕ). with_process c.args.pid (standing_at c.args.next (poorer gas p)) s) c.from.ensures
    ∙ ap (λ (q : Process). with_process c.args.pid (standing_at c.args.next q) s) is

pub returns-in_ok-bind_value-in-Binds-clause-ok : goal.returns-in_ok-bind_value-in-Binds-clause-ok
returns-in_ok-bind_value-in-Binds-clause-ok g c p q there makes =
    let s = g.P.Sight.state c.args.parts.now in
    let bound = with_value c.in-Binds.v c.in-Binds.x p in
    let is : bound ≡ q = one-some bound q (sym (ap (λ r. revised r p) c.in-Binds.is) ∙ makes) in
    becomes-then s (g.P.Sight.state c.bind_value.new.self) (g.P.Sight.state c.go_on-in-Binds.new.parts) c.args.pid p
    bound (standing_at c.args.next) there refl (c.in_ok-bind_value-in-Binds.ensures.ok p there)
    c.go_on-in-Binds.ensures.state
    ∙ ap (λ (q : Process). with_process c.args.pid (standing_at c.args.next q) s) is
