-- An account stands before all contracts, names and objects.
use Rattle.std.proofs.Common.{ap, arith, length, rules}
use Rattle.nomos_snapshot.proofs.GatheringLemmas.{account-taken, account-turn, names-none, no-names, no-objects, none-long, objects-none}
use Rattle.nomos_snapshot.proofs.gathered.Gathering.take_account.Goals as goal
use Rattle.nomos_snapshot.proofs.gathered.Gathering.take_account.Goals.{then-self-gt0-via-then-self-gt0, then-self-gt0-via-else-self-gt0+then-self-gt0-2, then-self-gt0-via-else-self-gt0+else-self-gt0-2+then-len-gt0}

pub returns-then-self-gt0 : goal.returns-then-self-gt0
returns-then-self-gt0 c = λ a next goes.
    let turn = account-turn goes in
    elim c.then-self-gt0.branch [
      | then-self-gt0-via-then-self-gt0 w ↦
          absurd (omega (arith, objects-none c.args.self.now c.requires turn.none, w.if-self-gt0.true))
      | then-self-gt0-via-else-self-gt0+then-self-gt0-2 w ↦
          absurd (omega (arith, names-none c.args.self.now c.requires turn.names, w.if-self-gt0-2.true))
      | then-self-gt0-via-else-self-gt0+else-self-gt0-2+then-len-gt0 w ↦
          absurd (omega (arith, ap length turn.contracts, w.len.ensures, w.if-len-gt0.true))
    ]

pub returns : goal.returns
returns c =
    account-taken c.args.self.now c.add.new.self c.push.new.self c.args.name.now c.args.dths c.requires
    (record {
      none = no-objects c.args.self.now c.requires (omega (arith, c.if-self-gt0.false));
      names = no-names c.args.self.now c.requires (omega (arith, c.if-self-gt0-2.false));
      contracts = none-long c.args.self.now.contracts
          (λ some. absurd (omega (arith, some, c.if-len-gt0.false, c.len.ensures)));
      new = search rules;
    }) c.in_ok-add.ensures.ok c.in_ok-push.ensures.items
