use Rattle.nomos_replay.specs.Spoiled as spoiled
use Rattle.nomos_replay.proofs.ends.found_end.Goals as goal

pub returns-in-Some : goal.returns-in-Some
returns-in-Some g c = λ most told. spoiled.given c.in-Some.end (rw c.in-Some.is at told)

pub returns-in-Some-2 : goal.returns-in-Some-2
returns-in-Some-2 g c = λ most told.
    let found = rw c.in-Some-2.is at c.in_ok-pid-in-None.ensures in
    spoiled.aborted c.in-Some-2.pid (rw c.in-None.is at told) c.in-Some-2.fault found.has found.lowest

pub returns-in-None-2 : goal.returns-in-None-2
returns-in-None-2 g c = λ most told.
    spoiled.running (rw c.in-None.is at told) (rw c.in-None-2.is at c.in_ok-pid-in-None.ensures)
