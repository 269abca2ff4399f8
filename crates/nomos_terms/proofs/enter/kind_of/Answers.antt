-- Variables that the term binds stand before the others.
use Rattle.std.proofs.Common.{sym, ap, ◌∙◌}
use Rattle.nomos_ir.specs.Bindings.{bound_to}
use Rattle.nomos_terms.proofs.BoundLemmas.{bound_to-append_some, bound_to-append_none}
use Rattle.nomos_terms.proofs.enter.kind_of.Goals as goal

pub returns-in-Some : goal.returns-in-Some
returns-in-Some c =
    sym (bound_to-append_some c.args.v.0 c.args.bound.now c.args.outer.now _
    (ap (bound_to c.args.v.0) (sym c.as_slice.ensures) ∙ sym c.in-Some.ensures))

pub returns-in-None : goal.returns-in-None
returns-in-None c =
    c.bound_first.ensures
    ∙ sym (bound_to-append_none c.args.v.0 c.args.bound.now c.args.outer.now
    (ap (bound_to c.args.v.0) (sym c.as_slice.ensures) ∙ sym c.in-None.ensures))
