use Rattle.std.proofs.Common.{IfSome, length, sym, subst, ◌≡◌}
use Rattle.nomos_slots.specs.Marking.{Marking}
use Rattle.nomos_slots.proofs.MarkLemmas.{mark_len_is, marked_in}
use Rattle.nomos_slots.proofs.column.Column.marked_len.Goals as goal

pub returns-clause-marked : goal.returns-clause-marked
returns-clause-marked g c =
    let s = c.self.inside in
    subst (λ (m : Marking _). IfSome m.marked (λ list. length list ≡ c.mark_len.result)) c.self.view_is
    (subst (λ n. IfSome (marked_in s.items.items s.log.items s.marked) (λ list. length list ≡ n))
    (sym c.mark_len.ensures) (mark_len_is s.items.items s.log.items s.marked c.self.invariant))
