-- The potential that is added up is that of the maps.
use Rattle.std.proofs.Common.{◌+◌, ap, ap₂, arith, refl, ◌∙◌}
use Rattle.nomos_ir.specs.Bindings.{bindings_of}
use Rattle.nomos_changes.specs.Gives.{given_in, potential_in}
use Rattle.nomos_changes.proofs.GivenLemmas.{begun}
use Rattle.nomos_changes.proofs.PotentialLemmas.{potential-sum}
use Rattle.nomos_changes.proofs.beginning.begin.Goals as goal

pub potential_of-requires : goal.potential_of-requires
potential_of-requires c =
    let lists = c.deref.ensures.value ∙ c.in_ok-lists.ensures.items in
    omega (arith, c.requires, ap potential_in lists, potential-sum (bindings_of c.args.given.lists.items))

pub overflow_add-purse : goal.overflow_add-purse
overflow_add-purse c =
    let lists = c.deref.ensures.value ∙ c.in_ok-lists.ensures.items in
    omega (arith, c.requires, ap potential_in lists, potential-sum (bindings_of c.args.given.lists.items))

pub returns : goal.returns
returns c =
    let at = c.args.at in
    let lists = c.deref.ensures.value ∙ c.in_ok-lists.ensures.items in
    let potential =
    c.potential_of.ensures ∙ ap potential_in lists ∙ potential-sum (bindings_of c.args.given.lists.items) in
    begun c.args.declaration.now (given_in c.args.given) at.pid at.offers at.potential at.payer
    c.in_ok-values.values.items c.in_ok-lists.lists.items (bindings_of c.args.given.channels.items)
    (c.from.result + c.potential_of.result) c.in_ok-values.ensures c.in_ok-lists.ensures.items refl
    (ap₂ (λ m n. m + n) c.from.ensures potential)
