use Rattle.std.proofs.Common.{refl}
use Rattle.nomos_ledger.proofs.BooksLemmas.{back-state}
use Rattle.nomos_ledger.proofs.books.Books.back.Goals as goal

pub returns : goal.returns
returns g c =
    let some = rw (← c.self.view_is) at c.requires in
    let state = back-state (g.M.Acting.marked c.self.inside.machine) (g.M.Sight.state c.self.inside.machine)
    (g.M.Sight.state c.back.new.self) some c.back.ensures.state in
    rw (← c.self.view_is, c.truncate.ensures, state, c.back.ensures.marked) refl
