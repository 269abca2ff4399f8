use Rattle.std.proofs.Common.{◌∙◌, List, ℕ, ap, sym, subst}
use mathlib.Core.List.{IsPrefix}
use Rattle.nomos_floor.specs.FloorPass.{pass_number, pass_of, taken_history}
use Rattle.nomos_workers.proofs.WorkLemmas.{adds-moved, look-begins}
use Rattle.nomos_workers.proofs.work.carry_on.Goals as goal

pub go_on-turn-requires-clause-history : goal.go_on-turn-requires-clause-history
go_on-turn-requires-clause-history g c =
    adds-moved c.number-number.result (pass_number (pass_of c.looks.turn)) (g.W.Shared.history c.looks.turn.work)
    (taken_history c.looks.turn) (g.W.Shared.history c.step-turned.new.self) c.looks.invariant.number
    (sym c.looks.invariant.fresh)
    c.step-turned.ensures.history

pub returns-in_default-clause-history : goal.returns-in_default-clause-history
returns-in_default-clause-history g c =
    adds-moved c.number-number.result (pass_number (pass_of c.looks.turn)) (g.W.Shared.history c.looks.turn.work)
    (taken_history c.looks.turn) (g.W.Shared.history c.step-turned.new.self) c.looks.invariant.number
    (sym c.looks.invariant.fresh)
    c.step-turned.ensures.history

pub returns-clause-history : goal.returns-clause-history
returns-clause-history g c =
    adds-moved c.number-number.result (pass_number (pass_of c.looks.turn)) (g.W.Shared.history c.looks.turn.work)
    (taken_history c.looks.turn) (g.W.Shared.history c.step-turned-2.new.self) c.looks.invariant.number
    (sym c.looks.invariant.fresh)
    c.step-turned-2.ensures.history

pub returns-in_default-clause-seen : goal.returns-in_default-clause-seen
returns-in_default-clause-seen g c =
    look-begins c.number-number.result (taken_history c.args.turn) (taken_history c.looks.turn)
    (g.W.Shared.history c.looks.turn.work) (g.W.Shared.history c.step-turned.new.self) c.looks.invariant.seen
    c.looks.invariant.fresh
    c.step-turned.ensures.history

pub returns-clause-seen : goal.returns-clause-seen
returns-clause-seen g c =
    look-begins c.number-number.result (taken_history c.args.turn) (taken_history c.looks.turn)
    (g.W.Shared.history c.looks.turn.work) (g.W.Shared.history c.step-turned-2.new.self) c.looks.invariant.seen
    c.looks.invariant.fresh
    c.step-turned-2.ensures.history

pub looks-preserved : goal.looks-preserved
looks-preserved g c =
    let on = c.go_on-turn.ensures in
    let at = c.looks.invariant in
    let seen : IsPrefix (taken_history c.args.turn) (g.W.Shared.history c.step-turned.new.self) =
    look-begins c.number-number.result (taken_history c.args.turn) (taken_history c.looks.turn)
    (g.W.Shared.history c.looks.turn.work) (g.W.Shared.history c.step-turned.new.self) c.looks.invariant.seen
    c.looks.invariant.fresh
    c.step-turned.ensures.history in
    record {
      of_floor = on.of_floor;
      start = ap g.W.Shared.start on.work ∙ (c.step-turned.ensures.start ∙ at.start);
      fresh = ap g.W.Shared.history on.work ∙ sym on.taken;
      seen = subst (λ (l : List (ℕ × _)). IsPrefix (taken_history c.args.turn) l) (sym on.taken) seen;
      number = at.number ∙ sym on.kept.number;
      kept = record {
        number = on.kept.number ∙ at.kept.number;
        next = on.kept.next ∙ at.kept.next;
        out = on.kept.out ∙ at.kept.out;
        ended = on.kept.ended ∙ at.kept.ended;
      };
      known = tt;
    }
