use Rattle.std.proofs.Common.{◌≡◌, ◌≤◌, ◌+◌, ◌∙◌, nat_lt, [], ℕ, Bool, Option, arith, sym, ap, subst, drop, length, slice_index_or, slice_set}
use Rattle.std.proofs.lemmas.Bool.{both_ways}
use Rattle.std.proofs.lemmas.List.{drop-set-add, length-drop, length-set}
use Rattle.std.proofs.lemmas.List.Edits.{length-insert}
use Rattle.std.proofs.lemmas.Option.{slice_get_within}
use Rattle.std.specs.List.{insert, prefix_len, slice_get}
use Rattle.std.specs.Option.{is_some}
use Rattle.nomos_ir.specs.declared.ids.VarId.{VarId}
use Rattle.nomos_machine.specs.declared.object.PotentialList.{PotentialList}
use Rattle.nomos_changes.specs.SmallChanges.{bound_if}
use Rattle.nomos_state.specs.Objects.{AscendsIf, ListRow}
use Rattle.nomos_state.specs.Rebound.{IsBoundAt}
use Rattle.nomos_state.proofs.LeftLemmas.{left-inserted, left-read, only-itself, only-there, row-there}
use Rattle.nomos_state.proofs.PotentialLemmas.{ascends-known, bound-fits, potential-more, potential-other}
use Rattle.nomos_state.proofs.RowLemmas.{bind-insert, bind-set}
use Rattle.nomos_state.proofs.list_rows.bind_in.Goals as goal

pub returns-in_default-clause-row : goal.returns-in_default-clause-row
returns-in_default-clause-row c = only-itself c.args.lists.now.now c.args.place

pub returns-in_default-clause-left : goal.returns-in_default-clause-left
returns-in_default-clause-left c =
    let left : ListRow = drop c.args.kept.gone (slice_index_or c.args.lists.now.now c.args.place []) in
    ap (λ (o : Option (VarId × PotentialList)). bound_if o left) (sym c.in_default.is)

pub count_below-at-requires : goal.count_below-at-requires
count_below-at-requires c =
    let row : ListRow = slice_index_or c.args.lists.now.now c.args.place [] in
    let left : ListRow = drop c.args.kept.gone row in
    let same_left = c.lists_left-left.ensures ∙ ap (λ (ls : ListRow). drop c.args.kept.gone ls) c.row-row.ensures in
    let known : AscendsIf (is_some c.args.kept.potential) left =
    ascends-known c.args.kept.potential left c.requires.fits.1 in
    subst (λ (b : Bool). AscendsIf b c.lists_left-left.result.now) (sym c.is_some.ensures)
    (subst (λ (r : ListRow). AscendsIf (is_some c.args.kept.potential) r) (sym same_left) known)

pub exchange-before-requires-clause-at : goal.exchange-before-requires-clause-at
exchange-before-requires-clause-at c =
    let rows = c.args.lists.now.now in
    let place = c.args.place in
    let gone = c.args.kept.gone in
    let row : ListRow = slice_index_or rows place [] in
    let left : ListRow = drop gone row in
    let n = c.count_below-at.result in
    let v = c.in-Some.v in
    let same_left = c.lists_left-left.ensures ∙ ap (λ (ls : ListRow). drop gone ls) c.row-row.ensures in
    let bound : IsBoundAt v left n =
    subst (λ (r : ListRow). IsBoundAt v r n) same_left (c.is_bound_at-is_bound.ensures.0 c.if-is_bound.true) in
    let (e, read, same) = bound in
    omega (arith, slice_get_within left n e read, length-drop gone row, c.from.ensures)

pub returns-then-is_bound-clause-row : goal.returns-then-is_bound-clause-row
returns-then-is_bound-clause-row c =
    let row : ListRow = slice_index_or c.args.lists.now.now c.args.place [] in
    only-there c.args.lists.now.now c.exchange-before.new.lists.now c.args.place
    (slice_set row (c.from.result + c.count_below-at.result) (c.in-Some.v, c.in-Some.list)) c.requires.within
    c.exchange-before.ensures.now

pub returns-then-is_bound-clause-left : goal.returns-then-is_bound-clause-left
returns-then-is_bound-clause-left c =
    let rows = c.args.lists.now.now in
    let place = c.args.place in
    let gone = c.args.kept.gone in
    let row : ListRow = slice_index_or rows place [] in
    let left : ListRow = drop gone row in
    let n = c.count_below-at.result in
    let v = c.in-Some.v in
    let same_left = c.lists_left-left.ensures ∙ ap (λ (ls : ListRow). drop gone ls) c.row-row.ensures in
    let bound : IsBoundAt v left n =
    subst (λ (r : ListRow). IsBoundAt v r n) same_left (c.is_bound_at-is_bound.ensures.0 c.if-is_bound.true) in
    let (e, read, same) = bound in
    let count = c.count_below-at.ensures.count ∙ ap (prefix_len (λ e. nat_lt e.0.0 v.0)) same_left in
    let key : VarId = record { 0 = e.0.0 } in
    let put =
    ap (λ (m : VarId). slice_set left n (m, c.in-Some.list)) (sym (ap (λ i. record key { 0 = i }) same))
    ∙ bind-set v c.in-Some.list left n e count read same in
    let pair : VarId × PotentialList = (v, c.in-Some.list) in
    let after : ListRow = slice_set row (gone + n) pair in
    let index : c.from.result + n ≡ gone + n = omega (arith, c.from.ensures) in
    let now = c.exchange-before.ensures.now ∙ ap (λ (i : ℕ). slice_set rows place (slice_set row i pair)) index in
    let stands = row-there rows c.exchange-before.new.lists.now place after c.requires.within now in
    let is = ap (λ (ls : ListRow). drop gone ls) stands ∙ drop-set-add gone row n pair ∙ put in
    is ∙ ap (λ (o : Option (VarId × PotentialList)). bound_if o left) (sym c.in-Some.is)

pub returns-then-is_bound-clause-fits : goal.returns-then-is_bound-clause-fits
returns-then-is_bound-clause-fits c =
    let rows = c.args.lists.now.now in
    let place = c.args.place in
    let gone = c.args.kept.gone in
    let row : ListRow = slice_index_or rows place [] in
    let left : ListRow = drop gone row in
    let n = c.count_below-at.result in
    let v = c.in-Some.v in
    let same_left = c.lists_left-left.ensures ∙ ap (λ (ls : ListRow). drop gone ls) c.row-row.ensures in
    let bound : IsBoundAt v left n =
    subst (λ (r : ListRow). IsBoundAt v r n) same_left (c.is_bound_at-is_bound.ensures.0 c.if-is_bound.true) in
    let (e, read, same) = bound in
    let count = c.count_below-at.ensures.count ∙ ap (prefix_len (λ e. nat_lt e.0.0 v.0)) same_left in
    let key : VarId = record { 0 = e.0.0 } in
    let put =
    ap (λ (m : VarId). slice_set left n (m, c.in-Some.list)) (sym (ap (λ i. record key { 0 = i }) same))
    ∙ bind-set v c.in-Some.list left n e count read same in
    let pair : VarId × PotentialList = (v, c.in-Some.list) in
    let after : ListRow = slice_set row (gone + n) pair in
    let index : c.from.result + n ≡ gone + n = omega (arith, c.from.ensures) in
    let now = c.exchange-before.ensures.now ∙ ap (λ (i : ℕ). slice_set rows place (slice_set row i pair)) index in
    let stands = row-there rows c.exchange-before.new.lists.now place after c.requires.within now in
    let is = ap (λ (ls : ListRow). drop gone ls) stands ∙ drop-set-add gone row n pair ∙ put in
    let given = left-read gone row n ∙ ap (slice_get row) (sym index) ∙ c.exchange-before.ensures.given in
    let long : gone ≤ length (slice_index_or c.exchange-before.new.lists.now place []) =
    omega (arith, c.requires.fits.0, ap length stands, length-set row (gone + n) pair) in
    bound-fits gone c.potential_without-potential.result (slice_index_or c.exchange-before.new.lists.now place []) _
    long
    is
    (potential-other c.args.kept.potential c.potential_with-with.result c.potential_without-potential.result left v
    c.in-Some.list n c.exchange-before.result given put c.requires.fits.1 c.potential_with-with.ensures
    c.potential_without-potential.ensures)

pub insert-requires-clause-at : goal.insert-requires-clause-at
insert-requires-clause-at c =
    let rows = c.args.lists.now.now in
    let place = c.args.place in
    let gone = c.args.kept.gone in
    let row : ListRow = slice_index_or rows place [] in
    let left : ListRow = drop gone row in
    let n = c.count_below-at.result in
    let v = c.in-Some.v in
    let same_left = c.lists_left-left.ensures ∙ ap (λ (ls : ListRow). drop gone ls) c.row-row.ensures in
    omega (
      arith,
      c.requires.fits.0,
      c.count_below-at.ensures.within,
      ap length same_left,
      length-drop gone row,
      c.from.ensures,
    )

pub returns-clause-row : goal.returns-clause-row
returns-clause-row c =
    let row : ListRow = slice_index_or c.args.lists.now.now c.args.place [] in
    only-there c.args.lists.now.now c.insert.new.self.now c.args.place
    (insert row (c.from.result + c.count_below-at.result) (c.in-Some.v, c.in-Some.list)) c.requires.within
    c.insert.ensures.now

pub returns-clause-left : goal.returns-clause-left
returns-clause-left c =
    let rows = c.args.lists.now.now in
    let place = c.args.place in
    let gone = c.args.kept.gone in
    let row : ListRow = slice_index_or rows place [] in
    let left : ListRow = drop gone row in
    let n = c.count_below-at.result in
    let v = c.in-Some.v in
    let same_left = c.lists_left-left.ensures ∙ ap (λ (ls : ListRow). drop gone ls) c.row-row.ensures in
    let count = c.count_below-at.ensures.count ∙ ap (prefix_len (λ e. nat_lt e.0.0 v.0)) same_left in
    let other = λ (bound : IsBoundAt v left n).
    both_ways _ c.if-is_bound.false
    (c.is_bound_at-is_bound.ensures.1 (subst (λ (r : ListRow). IsBoundAt v r n) (sym same_left) bound)) in
    let pair : VarId × PotentialList = (v, c.in-Some.list) in
    let after : ListRow = insert row (gone + n) pair in
    let index : c.from.result + n ≡ gone + n = omega (arith, c.from.ensures) in
    let now = c.insert.ensures.now ∙ ap (λ (i : ℕ). slice_set rows place (insert row i pair)) index in
    let stands = row-there rows c.insert.new.self.now place after c.requires.within now in
    let is =
    ap (λ (ls : ListRow). drop gone ls) stands ∙ left-inserted gone row n pair c.requires.fits.0
    ∙ bind-insert v c.in-Some.list left n count other in
    is ∙ ap (λ (o : Option (VarId × PotentialList)). bound_if o left) (sym c.in-Some.is)

pub returns-clause-fits : goal.returns-clause-fits
returns-clause-fits c =
    let rows = c.args.lists.now.now in
    let place = c.args.place in
    let gone = c.args.kept.gone in
    let row : ListRow = slice_index_or rows place [] in
    let left : ListRow = drop gone row in
    let n = c.count_below-at.result in
    let v = c.in-Some.v in
    let same_left = c.lists_left-left.ensures ∙ ap (λ (ls : ListRow). drop gone ls) c.row-row.ensures in
    let count = c.count_below-at.ensures.count ∙ ap (prefix_len (λ e. nat_lt e.0.0 v.0)) same_left in
    let other = λ (bound : IsBoundAt v left n).
    both_ways _ c.if-is_bound.false
    (c.is_bound_at-is_bound.ensures.1 (subst (λ (r : ListRow). IsBoundAt v r n) (sym same_left) bound)) in
    let pair : VarId × PotentialList = (v, c.in-Some.list) in
    let after : ListRow = insert row (gone + n) pair in
    let index : c.from.result + n ≡ gone + n = omega (arith, c.from.ensures) in
    let now = c.insert.ensures.now ∙ ap (λ (i : ℕ). slice_set rows place (insert row i pair)) index in
    let stands = row-there rows c.insert.new.self.now place after c.requires.within now in
    let is =
    ap (λ (ls : ListRow). drop gone ls) stands ∙ left-inserted gone row n pair c.requires.fits.0
    ∙ bind-insert v c.in-Some.list left n count other in
    let inside : gone + n ≤ length row =
    omega (arith, c.requires.fits.0, c.count_below-at.ensures.within, ap length same_left, length-drop gone row) in
    let long : gone ≤ length (slice_index_or c.insert.new.self.now place []) =
    omega (arith, c.requires.fits.0, ap length stands, length-insert row (gone + n) pair inside) in
    bound-fits gone c.potential_with-with.result (slice_index_or c.insert.new.self.now place []) _ long is
    (potential-more c.args.kept.potential c.potential_with-with.result left v c.in-Some.list n
    (bind-insert v c.in-Some.list left n count other) c.requires.fits.1 c.potential_with-with.ensures)
