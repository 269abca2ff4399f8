use Rattle.std.proofs.Common.{◌≡◌, ◌∙◌, ◌+◌, Some, ℕ, sym, ap}
use Rattle.nomos_machine.specs.Deeds.{alone}
use Rattle.nomos_machine.specs.Revised.{poorer, standing_at}
use Rattle.nomos_machine.specs.State.{State, process_at}
use Rattle.nomos_deeds.specs.declared.act.Act.TheVariants as act
use Rattle.nomos_changes.specs.SmallChanges.{with_process}
use Rattle.nomos_changes.proofs.MadeLemmas.{can-acts, one-some, work-made}
use Rattle.nomos_changes.proofs.acts_alone.act_work.Goals as goal

pub returns-clause-state : goal.returns-clause-state
returns-clause-state g c a vs can =
    let s = g.P.Sight.state c.args.parts.now in
    let acts = can-acts a s c.args.pid vs (act.Work c.args.gas c.args.next) can in
    let p = acts.process in
    let q = standing_at c.args.next (poorer c.args.gas p) in
    let burnt : g.P.Sight.state c.burn.new.self ≡ record s { spent = s.spent + c.args.gas } =
    c.burn.ensures.state ∙ ap (λ (n : ℕ). record s { spent = s.spent + n }) c.from.ensures in
    let there : process_at (g.P.Sight.state c.burn.new.self) c.args.pid ≡ Some p =
    ap (λ (s : State). process_at s c.args.pid) burnt ∙ acts.there in
    let is = one-some acts.change (record (alone a s p q) { burnt = c.args.gas }) (sym acts.changes) in
    c.spend.ensures.state p there
    ∙ ap (λ (n : ℕ). with_process c.args.pid (standing_at c.args.next (poorer n p)) (g.P.Sight.state c.burn.new.self))
    c.from-2.ensures
    ∙ ap (with_process c.args.pid q) burnt
    ∙ work-made a s p q c.args.pid c.args.gas acts.change acts.number is
    ∙ sym acts.makes
