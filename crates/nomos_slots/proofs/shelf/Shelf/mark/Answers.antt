use Rattle.std.proofs.Common.{◌≡◌, Some, length, ap, ◌∙◌, arith}
use Rattle.nomos_slots.proofs.ShelfLemmas.{marked-whole, none_from_marked, nil-unmarked}
use Rattle.nomos_slots.proofs.shelf.Shelf.mark.Goals as goal

pub returns-clause-marked : goal.returns-clause-marked
returns-clause-marked g c =
    let s = c.self.inside in
    let rows = s.rows.items in
    let log = s.log.items in
    let none = none_from_marked rows log s.marked (ap (λ m. m.marked) c.self.view_is ∙ c.requires) in
    let nil = nil-unmarked rows log s.marked c.self.invariant none in
    let all : c.len.result ≡ length rows = omega (arith, c.len.ensures, s.rows.ok.0) in
    ap Some (marked-whole rows log _ nil all ∙ ap (λ m. m.now) c.self.view_is)
