use Rattle.std.proofs.Common.{◌≡◌, ◌∙◌, ◌∷◌, [], Option, Some, sym, ap}
use Rattle.nomos_ir.specs.Value.{Value}
use Rattle.nomos_machine.specs.Deeds.{alone, one_of}
use Rattle.nomos_machine.specs.Optional.{◌>>=◌}
use Rattle.nomos_machine.specs.Revised.{standing_at}
use Rattle.nomos_machine.specs.State.{State, process_at}
use Rattle.nomos_deeds.specs.declared.act.Act.TheVariants as act
use Rattle.nomos_changes.specs.SmallChanges.{with_process}
use Rattle.nomos_changes.proofs.MadeLemmas.{can-acts, one-some, emit-made}
use Rattle.nomos_changes.proofs.acts_alone.act_emit.Goals as goal

pub returns-clause-ok : goal.returns-clause-ok
returns-clause-ok g c a can =
    let s = g.P.Sight.state c.args.parts.now in
    let acts = can-acts a s c.args.pid c.args.values (act.Emit c.args.next) can in
    let p = acts.process in
    let q = standing_at c.args.next p in
    let one : Some c.in-Some.value ≡ one_of c.args.values = sym c.in-Some.is ∙ c.in_ok-value.ensures in
    let is = one-some acts.change (record (alone a s p q) { emitted = (p.pid, c.in-Some.value) ∷ [] })
    (sym acts.changes ∙ ap (λ (o : Option Value). o >>= λ x.
    Some (record (alone a s p q) { emitted = (p.pid, x) ∷ [] })) (sym one)) in
    let emitted = c.in_ok-emit.ensures.ok in
    let there : process_at (g.P.Sight.state c.emit.new.self) c.args.pid ≡ Some p =
    ap (λ (s : State). process_at s c.args.pid) emitted ∙ acts.there in
    c.go_on.ensures.state p there
    ∙ ap (with_process c.args.pid q) emitted
    ∙ emit-made a s p q c.args.pid c.in-Some.value acts.change acts.number is
    ∙ sym acts.makes
