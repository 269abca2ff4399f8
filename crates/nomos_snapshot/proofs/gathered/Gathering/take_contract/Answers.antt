-- A contract stands before all names and objects.
use Rattle.std.proofs.Common.{arith, rules}
use Rattle.nomos_snapshot.proofs.GatheringLemmas.{contract-taken, contract-turn, names-none, no-names, no-objects, objects-none}
use Rattle.nomos_snapshot.proofs.gathered.Gathering.take_contract.Goals as goal
use Rattle.nomos_snapshot.proofs.gathered.Gathering.take_contract.Goals.{then-self-gt0-via-then-self-gt0, then-self-gt0-via-else-self-gt0+then-self-gt0-2}

pub returns-then-self-gt0 : goal.returns-then-self-gt0
returns-then-self-gt0 c = λ a next goes.
    let turn = contract-turn goes in
    elim c.then-self-gt0.branch [
      | then-self-gt0-via-then-self-gt0 w ↦
          absurd (omega (arith, objects-none c.args.self.now c.requires turn.none, w.if-self-gt0.true))
      | then-self-gt0-via-else-self-gt0+then-self-gt0-2 w ↦
          absurd (omega (arith, names-none c.args.self.now c.requires turn.names, w.if-self-gt0-2.true))
    ]

pub returns : goal.returns
returns c =
    contract-taken c.args.self.now c.add.new.self c.args.name.now c.args.shared c.requires
    (record {
      none = no-objects c.args.self.now c.requires (omega (arith, c.if-self-gt0.false));
      names = no-names c.args.self.now c.requires (omega (arith, c.if-self-gt0-2.false));
      new = search rules;
    }) c.in_ok-add.ensures.ok
