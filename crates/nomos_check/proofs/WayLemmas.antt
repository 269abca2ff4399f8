-- How a way begins.
use Rattle.std.proofs.Common.{◌≡◌, ℕ, List, ap, ap₂, ◌∙◌}
use Rattle.nomos_ir.specs.declared.ids.CodeId.{CodeId}
use Rattle.nomos_ir.specs.declared.ids.VarId.{VarId}
use Rattle.nomos_ir.specs.declared.kind.Kind.{Kind}
use Rattle.nomos_ir.specs.Bindings.{bind, unbind, each_bound}
use Rattle.nomos_ir.proofs.MappedLaws.{each-bind, each-unbind}
use Rattle.nomos_forms.specs.declared.form.Form.{Form}
use Rattle.nomos_types.specs.Judgement.{Judgement, ListType}
use Rattle.nomos_check.specs.Account.{Account, gains, form_of}
use Rattle.nomos_check.specs.declared.standing.Carried.{Carried}
use Rattle.nomos_check.specs.declared.standing.ListParts.{ListParts}
use Rattle.nomos_check.specs.declared.standing.Standing.{Standing}
use Rattle.nomos_check.specs.declared.standing.WayOn.TheVariants as way
use Rattle.nomos_check.specs.mirror.StandingData.{shape_of, shape_of_list, amount_of}
use Rattle.nomos_check.specs.mirror.Ways.{GoesWay}

-- a list is taken apart
pub full-goes : (s : Standing) (p : ListParts) (kinds : List (VarId × Kind)) (lists : List (VarId
    × Carried)) (potential : Form)
    → kinds ≡ bind p.head p.carried.kind s.kinds → lists ≡ bind p.tail p.carried (unbind p.list.0 s.lists)
    → ((n : ℕ) (a : Account) → s.potential ≡ form_of n a → potential ≡ form_of n (gains p.carried.amount a))
    → GoesWay s (way.Full p) (record s { kinds = kinds; lists = lists; potential = potential; code = p.next })
full-goes s p kinds lists potential of_kinds of_lists of_potential =
    let rest = unbind p.list.0 s.lists in
    let Made : List (VarId × Kind) → List (VarId × ListType) → Judgement =
    λ ks ls. record (shape_of s) { kinds = ks; lists = ls; code = p.next }
    in
    let shapes = each-bind shape_of_list p.tail p.carried rest in
    let shapes_of_rest = each-unbind shape_of_list p.list.0 s.lists in
    let amounts = each-bind amount_of p.tail p.carried rest in
    let amounts_of_rest = each-unbind amount_of p.list.0 s.lists in
    record {
      shape =
          ap₂ Made of_kinds
          (ap (each_bound shape_of_list) of_lists ∙ shapes ∙ ap (bind p.tail (shape_of_list p.carried)) shapes_of_rest);
      account =
          λ n a has.
          record {
            lists =
                ap (each_bound amount_of) of_lists ∙ amounts
                ∙ ap (bind p.tail p.carried.amount) (amounts_of_rest ∙ ap (unbind p.list.0) has.lists);
            potential = of_potential n a has.potential;
          };
    }

-- a list is empty, and used up
pub empty-goes : (s : Standing) (w : VarId) (next : CodeId) (lists : List (VarId × Carried))
    → lists ≡ unbind w.0 s.lists
    → GoesWay s (way.Empty w next) (record s { lists = lists; code = next })
empty-goes s w next lists of_lists =
    let Made : List (VarId × ListType) → Judgement = λ ls. record (shape_of s) { lists = ls; code = next } in
    record {
      shape = ap Made (ap (each_bound shape_of_list) of_lists ∙ each-unbind shape_of_list w.0 s.lists);
      account =
          λ n a has.
          record {
            lists = ap (each_bound amount_of) of_lists ∙ each-unbind amount_of w.0 s.lists ∙ ap (unbind w.0) has.lists;
            potential = has.potential;
          };
    }
