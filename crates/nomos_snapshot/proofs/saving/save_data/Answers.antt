-- The numbers, the length, and the text.
use Rattle.std.proofs.Common.{arith}
use Rattle.nomos_contents.specs.Data.{state_of}
use Rattle.nomos_snapshot.specs.Saving.{HasLowNumbers}
use Rattle.nomos_snapshot.proofs.SavingLemmas.{low-numbers, saves-loads, saves-long, saves-numbers, saves-text}
use Rattle.nomos_snapshot.proofs.saving.save_data.Goals as goal
use Rattle.nomos_snapshot.proofs.saving.save_data.Goals.{then-contents-gt-NEXT_LIMIT-via-then-contents-gt-NEXT_LIMIT, then-contents-gt-NEXT_LIMIT-via-else-contents-gt-NEXT_LIMIT+then-contents-gt-NEXT_LIMIT-2}

pub returns-then-contents-gt-NEXT_LIMIT-clause-err : goal.returns-then-contents-gt-NEXT_LIMIT-clause-err
returns-then-contents-gt-NEXT_LIMIT-clause-err g c = λ other.
    let high : ¬ (HasLowNumbers (state_of c.args.contents.now)) = λ low.
    elim c.then-contents-gt-NEXT_LIMIT.branch [
      | then-contents-gt-NEXT_LIMIT-via-then-contents-gt-NEXT_LIMIT w ↦
          absurd (omega (arith, low.objects, w.if-contents-gt-NEXT_LIMIT.true))
      | then-contents-gt-NEXT_LIMIT-via-else-contents-gt-NEXT_LIMIT+then-contents-gt-NEXT_LIMIT-2 w ↦
          absurd (omega (arith, low.names, w.if-contents-gt-NEXT_LIMIT-2.true))
    ] in
    saves-numbers c.args.contents.now c.requires.state high

pub returns-then-len-gt-MAX_SNAPSHOT-clause-err : goal.returns-then-len-gt-MAX_SNAPSHOT-clause-err
returns-then-len-gt-MAX_SNAPSHOT-clause-err g c = λ other.
    let d = c.args.contents.now in
    let low = low-numbers d (omega (arith, c.if-contents-gt-NEXT_LIMIT.false))
    (omega (arith, c.if-contents-gt-NEXT_LIMIT-2.false)) in
    let writes = rw c.new-text.ensures.items at c.in_ok-push_ledger.ensures in
    saves-long d c.requires.state low writes
    (omega (arith, c.if-len-gt-MAX_SNAPSHOT.true, c.len.ensures, c.push_ledger.new.text.ok.0))

pub returns-clause-ok : goal.returns-clause-ok
returns-clause-ok g c =
    let d = c.args.contents.now in
    let low = low-numbers d (omega (arith, c.if-contents-gt-NEXT_LIMIT.false))
    (omega (arith, c.if-contents-gt-NEXT_LIMIT-2.false)) in
    let writes = rw c.new-text.ensures.items at c.in_ok-push_ledger.ensures in
    saves-text d c.requires.state low writes
    (omega (arith, c.if-len-gt-MAX_SNAPSHOT.false, c.len.ensures, c.push_ledger.new.text.ok.0))

pub returns-clause-loads : goal.returns-clause-loads
returns-clause-loads g c =
    let writes = rw c.new-text.ensures.items at c.in_ok-push_ledger.ensures in
    saves-loads c.requires.stands c.account-account.ensures.ledger writes
    (omega (arith, c.if-len-gt-MAX_SNAPSHOT.false, c.len.ensures, c.push_ledger.new.text.ok.0))
