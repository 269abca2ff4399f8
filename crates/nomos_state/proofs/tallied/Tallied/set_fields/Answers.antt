use Rattle.std.proofs.Common.{◌∙◌, refl, ap, sym, subst}
use Rattle.nomos_deeds.specs.SeenObjects.{seen_process}
use Rattle.nomos_deeds.specs.declared.sight.SeenProcess.{SeenProcess}
use Rattle.nomos_machine.specs.State.{process_at}
use Rattle.nomos_changes.specs.SmallChanges.{with_fields}
use Rattle.nomos_state.specs.Tallied.{AreTalliesOf}
use Rattle.nomos_state.proofs.CountLaws.{fields-exchanges, fields_of}
use Rattle.nomos_state.proofs.KeepLemmas.{becomes-tallied, fields-moves, marked-kept, none-there, seen-there}
use Rattle.nomos_state.proofs.tallied.Tallied.set_fields.Goals as goal

pub invariant_of-self-2 : goal.invariant_of-self-2
invariant_of-self-2 c =
    let t = c.self.inside in
    let s = t.inside.state in
    let seen = seen-there seen_process (process_at s c.args.fields.pid) c.in-Some.before c.in-Some.ensures.before in
    let p = seen.0 in
    let there = seen.1 in
    let q = with_fields c.args.fields p in
    record {
      now =
          becomes-tallied t.tallies c.exchange-2.new.self s c.set_fields.new.self.state c.args.fields.pid p
          (with_fields c.args.fields) (fields_of p) (fields_of q) c.self.invariant.now there c.set_fields.ensures.state
          (fields-exchanges p q refl)
          (fields-moves t.tallies c.exchange.new.self c.exchange-2.new.self p q c.in-Some.before.offers
          c.in-Some.before.base (ap (λ (x : SeenProcess). x.offers) seen.2) (ap (λ (x : SeenProcess). x.base) seen.2)
          c.exchange.ensures c.exchange-2.ensures);
      marked =
          marked-kept t.was_exact t.was_lost _ _ _ _ c.self.invariant.marked
          (c.exchange-2.ensures.marked ∙ c.exchange.ensures.marked) c.set_fields.ensures.marked;
    }

-- nothing changed where there is no such process
pub invariant_of-self : goal.invariant_of-self
invariant_of-self c =
    let t = c.self.inside in
    record {
      now =
          subst (AreTalliesOf t.tallies)
          (sym (c.set_fields.ensures.none (none-there seen_process (process_at t.inside.state c.args.fields.pid)
          (sym c.in_default.is ∙ c.set_fields.ensures.before))))
          c.self.invariant.now;
      marked =
          marked-kept t.was_exact t.was_lost _ _ _ _ c.self.invariant.marked refl c.set_fields.ensures.marked;
    }
