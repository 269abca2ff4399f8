-- A list that has parts is taken apart.
use Rattle.std.proofs.Common.{ℕ, Option, subst}
use Rattle.nomos_eval.specs.declared.datum.Datum.{Datum}
use Rattle.nomos_eval.specs.mirror.Parted.{IsParted}
use Rattle.nomos_eval.proofs.OpenLemmas.{open-parted}
use Rattle.nomos_eval.proofs.calls.open.Goals as goal

pub returns : goal.returns
returns c =
    let P : Option (Datum × ℕ) → Type 0 = λ found.
    IsParted c.args.evaluator.now.lists c.in-List.place c.parts.new.lists found in
    open-parted c.args.scope c.args.cases c.args.evaluator.now c.take.new.values c.parts.new.lists c.add_more.new.self
    c.add_more-2.new.self c.push-2.new.self c.in-List.place c.in-Some.head c.in-Some.tail c.in_ok-with_head.with_head
    c.in_ok-with_tail.with_tail c.requires.sound c.requires.inside c.in-List.ensures.taken c.in-List.ensures.rest
    (subst P c.in-Some.is c.in_ok-head.ensures) c.in_ok-with_head.ensures.0 c.in_ok-with_head.ensures.1
    c.in_ok-with_tail.ensures.0 c.in_ok-with_tail.ensures.1 c.in_ok-push-3.ensures
