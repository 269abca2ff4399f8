-- The machine has the state that the text tells.
use Rattle.std.proofs.Common.{subst, sym}
use Rattle.nomos_machine.specs.State.{State}
use Rattle.nomos_snapshot.specs.mirror.Loaded.{IsSoundState, IsWorthOf}
use Rattle.nomos_snapshot.proofs.LoadLemmas.{opened-admits, opened-refuses, typed-ordered}
use Rattle.nomos_snapshot.proofs.ledger_loading.opened.Goals as goal

pub of_data-requires-clause-ordered : goal.of_data-requires-clause-ordered
of_data-requires-clause-ordered g c = typed-ordered c.requires.sorted c.requires.sound.typed

pub of_data-requires-clause-mentioned : goal.of_data-requires-clause-mentioned
of_data-requires-clause-mentioned g c = λ name some. (c.requires.sound.typed.numbered.typed name).0 some

pub deposits_admitted-requires-clause-sound : goal.deposits_admitted-requires-clause-sound
deposits_admitted-requires-clause-sound g c =
    subst (λ (s : State). IsSoundState c.args.accepted.now s) (sym c.in_ok-machine.ensures.state) c.requires.sound

pub deposits_admitted-requires-clause-worth : goal.deposits_admitted-requires-clause-worth
deposits_admitted-requires-clause-worth g c =
    subst (λ (s : State). IsWorthOf c.args.accepted.now s c.in_ok-worth.worth) (sym c.in_ok-machine.ensures.state)
    c.in_ok-worth.ensures

pub returns-in-Ok-clause-ok : goal.returns-in-Ok-clause-ok
returns-in-Ok-clause-ok g c =
    opened-admits c.args.parts (g.M.Sight.state c.in_ok-machine.machine) c.in-Ok.deposits c.of_parts.result
    c.in_ok-machine.ensures.state c.of_parts.ensures
    (subst (λ (s : State). IsSoundState c.args.accepted.now s) (sym c.in_ok-machine.ensures.state) c.requires.sound)
    c.in-Ok.ensures.ok

pub returns-in-Err-clause-err : goal.returns-in-Err-clause-err
returns-in-Err-clause-err g c = λ other.
    opened-refuses c.args.parts (g.M.Sight.state c.in_ok-machine.machine) c.in-Err.why
    c.in_ok-machine.ensures.state (c.in-Err.ensures.err other)
