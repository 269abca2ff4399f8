use Rattle.std.proofs.Common.{◌≡◌, Some, ap, length, ◌∙◌, arith}
use Rattle.nomos_slots.proofs.MarkLemmas.{none_from_marked, nil_unmarked, marked_whole}
use Rattle.nomos_slots.proofs.column.Column.mark.Goals as goal

pub returns-clause-marked : goal.returns-clause-marked
returns-clause-marked g c =
    let s = c.self.inside in
    let es = s.items.items in
    let log = s.log.items in
    let none = none_from_marked es log s.marked (ap (λ m. m.marked) c.self.view_is ∙ c.requires) in
    let nil = nil_unmarked es log s.marked c.self.invariant none in
    let all : c.len.result ≡ length es = omega (arith, c.len.ensures, s.items.ok.0) in
    ap Some (marked_whole es log _ nil all ∙ ap (λ m. m.now) c.self.view_is)
