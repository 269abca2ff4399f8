use Rattle.std.proofs.Common.{◌∙◌, arith}
use Rattle.nomos_machine.specs.Step.{IsReady}
use Rattle.nomos_ready.proofs.SeekLemmas.{found-told, none-further, none-told, settled-covers}
use Rattle.nomos_ready.proofs.seeking.seek.Goals as goal

pub returns-then-ready-clause-found : goal.returns-then-ready-clause-found
returns-then-ready-clause-found g c =
    let is = c.looks.invariant in
    found-told c.know.ensures.accepted c.requires.typed c.looks.awake c.args.after c.looks.from is.none
    c.in-Some.pid is.over c.in-Some.ensures (c.ready.ensures.0 c.if-ready.true)

pub looks-preserved : goal.looks-preserved
looks-preserved g c =
    let is = c.looks.invariant in
    let asleep : ¬ (IsReady c.args.accepted.now (g.M.Sight.state c.args.machine.now) c.in-Some.pid) = λ ready.
    let yes = c.ready.ensures.1 ready in
    let no = c.if-ready.false in
    absurd cc
    in
    let clauses = c.settle.ensures in
    let accepted = c.know.ensures.accepted in
    record {
      lost = clauses.lost ∙ is.lost;
      sought = clauses.sought ∙ is.sought;
      covers =
          settled-covers accepted c.requires.typed c.looks.awake c.settle.new.self c.in-Some.pid c.waits.result
          is.covers asleep c.waits.ensures clauses.others clauses.noted clauses.back clauses.followed clauses.own
          clauses.sought;
      over = omega (arith, is.over, c.in-Some.ensures.over);
      none =
          none-further accepted c.requires.typed c.looks.awake c.args.after c.looks.from is.none c.settle.new.self
          c.in-Some.pid c.in-Some.ensures asleep clauses.fewer;
    }

pub returns-clause-found : goal.returns-clause-found
returns-clause-found g c =
    let is = c.looks.invariant in
    none-told c.know.ensures.accepted c.requires.typed c.looks.awake c.args.after c.looks.from is.none
    c.in_default.ensures
