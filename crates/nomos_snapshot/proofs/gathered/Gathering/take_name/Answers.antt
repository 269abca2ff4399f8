-- A name stands before all objects, behind all lower names.
use Rattle.std.proofs.Common.{◌+◌, ap, arith}
use Rattle.nomos_snapshot.proofs.GatheringLemmas.{name-taken, name-turn, no-objects, objects-none}
use Rattle.nomos_snapshot.proofs.gathered.Gathering.take_name.Goals as goal
use Rattle.nomos_snapshot.proofs.gathered.Gathering.take_name.Goals.{then-self-gt0-via-then-self-gt0, then-self-gt0-via-else-self-gt0+then-from-self}

pub returns-then-self-gt0 : goal.returns-then-self-gt0
returns-then-self-gt0 c = λ a next goes.
    let turn = name-turn goes in
    elim c.then-self-gt0.branch [
      | then-self-gt0-via-then-self-gt0 w ↦
          absurd (omega (arith, objects-none c.args.self.now c.requires turn.none, w.if-self-gt0.true))
      | then-self-gt0-via-else-self-gt0+then-from-self w ↦
          absurd (omega (arith, (c.requires.names c.args.name).0 turn.over, w.if-from-self.true, w.from.ensures))
    ]

pub returns : goal.returns
returns c =
    name-taken c.args.self.now c.push.new.self (c.from-2.result + 1) c.args.name c.args.t c.requires
    (no-objects c.args.self.now c.requires (omega (arith, c.if-self-gt0.false)))
    (omega (arith, c.if-from-self.false, c.from.ensures)) c.in_ok-push.ensures.items
    (ap (λ n. n + 1) c.from-2.ensures)
