-- Names of contracts, gas, and what is ready, in this order.
use Rattle.nomos_snapshot.proofs.LoadLemmas.{asked-first, refuses-gas, refuses-names, refuses-ready}
use Rattle.nomos_snapshot.proofs.ledger_loading.deposits_admitted.Goals as goal

pub returns-then-not-shared-clause-err : goal.returns-then-not-shared-clause-err
returns-then-not-shared-clause-err g c = λ other.
    refuses-names (asked-first c.in_ok-shared.shared c.in_ok-shared.ensures c.if-not-shared.true)

pub returns-in-Err-clause-err : goal.returns-in-Err-clause-err
returns-in-Err-clause-err g c = λ other.
    let worth = rw c.in-Err.is at c.requires.worth in
    refuses-gas c.in-Err.gas c.requires.sound (c.in_ok-shared.ensures.0 c.if-not-shared.false) worth.0 worth.1

pub next_ready-requires : goal.next_ready-requires
next_ready-requires g c = c.requires.sound.typed

pub returns-in-Some-clause-err : goal.returns-in-Some-clause-err
returns-in-Some-clause-err g c = λ other.
    let worth = rw c.in-Ok.is at c.requires.worth in
    refuses-ready c.in-Ok.units c.in-Some.pid c.requires.sound (c.in_ok-shared.ensures.0 c.if-not-shared.false) worth
    c.in-Some.ensures

pub returns-in-None-clause-ok : goal.returns-in-None-clause-ok
returns-in-None-clause-ok g c =
    let worth = rw c.in-Ok.is at c.requires.worth in
    record {
      shared = c.in_ok-shared.ensures.0 c.if-not-shared.false;
      worth = worth;
      quiet = c.in-None.ensures;
    }
