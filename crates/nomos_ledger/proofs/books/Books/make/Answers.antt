use Rattle.nomos_legal.proofs.ResolveLaws.{resolves-can_start}
use Rattle.nomos_ledger.proofs.LineLemmas.{name-free}
use Rattle.nomos_ledger.proofs.books.Books.make.Goals as goal

pub start-requires-clause-start : goal.start-requires-clause-start
start-requires-clause-start g c =
    let can = resolves-can_start c.requires.settled c.requires.ledger c.requires.resolves.1 in
    rw c.as_slice.ensures (rw (← c.self.view_is) at can)

pub add-requires : goal.add-requires
add-requires g c =
    let free = name-free c.requires.resolves.1 c.in-Some.contract c.in-Some.is in
    rw (← c.self.view_is) at free
