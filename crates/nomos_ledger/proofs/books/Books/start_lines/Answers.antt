use Rattle.nomos_ledger.proofs.LineLemmas.{extends-further, extends-none, so_far-named, so_far-none, so_far-numbers, so_far-push, so_far-settled, so_far-stops}
use Rattle.nomos_ledger.proofs.books.Books.start_lines.Goals as goal

pub loop-start-init : goal.loop-start-init
loop-start-init g c = record {
  so_far =
      so_far-none c.args.arguments.now c.args.self.now.now c.args.starts.now c.new-made.result.items
      c.new-made.ensures.items;
  extends = extends-none c.args.self.now;
}

pub start_line-requires-clause-settled : goal.start_line-requires-clause-settled
start_line-requires-clause-settled g c =
    let accepted = rw c.accepted.ensures at c.know.ensures.accepted in
    so_far-settled accepted c.requires.settled c.requires.ledger c.loop-start.invariant.so_far

pub start_line-requires-clause-ledger : goal.start_line-requires-clause-ledger
start_line-requires-clause-ledger g c =
    let accepted = rw c.accepted.ensures at c.know.ensures.accepted in
    so_far-named accepted c.requires.settled c.requires.ledger c.loop-start.invariant.so_far

pub start_line-requires-clause-numbers : goal.start_line-requires-clause-numbers
start_line-requires-clause-numbers g c =
    let accepted = rw c.accepted.ensures at c.know.ensures.accepted in
    so_far-numbers accepted c.requires.settled c.requires.ledger c.loop-start.invariant.so_far c.loop-start-test.true
    c.requires.objects c.requires.names

pub returns-in-Err-clause-starts : goal.returns-in-Err-clause-starts
returns-in-Err-clause-starts g c =
    let accepted = rw c.accepted.ensures at c.know.ensures.accepted in
    rw c.at_line.ensures
    (so_far-stops accepted c.requires.settled c.requires.ledger c.loop-start.invariant.so_far c.start-item.result
    c.in-Err.stop c.start_line.new.self.now c.loop-start-test.true c.start-item.is c.in-Err.ensures.starts)

pub loop-start-preserved : goal.loop-start-preserved
loop-start-preserved g c =
    let accepted = rw c.accepted.ensures at c.know.ensures.accepted in
    record {
      so_far =
          so_far-push accepted c.requires.settled c.requires.ledger c.loop-start.invariant.so_far c.start-item.result
          c.in-Ok.resolved c.start_line.new.arguments c.start_line.new.self.now c.push.new.self.items
          c.loop-start-test.true c.start-item.is c.in-Ok.ensures.starts c.in-Ok.ensures.stays
          c.in_ok-push-in-Ok.ensures.items;
      extends = extends-further c.loop-start.invariant.extends c.in-Ok.ensures.extends;
    }
