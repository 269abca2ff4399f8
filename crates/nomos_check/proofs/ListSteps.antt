-- The instructions on lists that carry potential.
use Rattle.std.proofs.Common.{◌≡◌, ◌≢◌, ◌∙◌, ℕ, List, [], ◌∷◌, Option, Some, None, refl, ap, sym, subst}
use Rattle.std.specs.Option.{option_map}
use Rattle.nomos_forms.specs.declared.form.Form.{Form}
use Rattle.nomos_ir.specs.declared.code_node.CodeNode.TheVariants as code
use Rattle.nomos_ir.specs.declared.ids.CodeId.{CodeId}
use Rattle.nomos_ir.specs.declared.ids.VarId.{VarId}
use Rattle.nomos_ir.specs.declared.lists.ProgramLists.{ProgramLists}
use Rattle.nomos_ir.specs.Amounts.{star_count}
use Rattle.nomos_ir.specs.Bindings.{bound_to, bind, unbind, each_bound}
use Rattle.nomos_ir.proofs.MappedLaws.{each-bind, each-bound, each-unbind}
use Rattle.nomos_types.specs.Judgement.{Judgement, ListType, IsFree, at_code, binds_list}
use Rattle.nomos_types.specs.Premises.{Adds, TakesApart}
use Rattle.nomos_types.specs.TypingRule.{StandsAtCode, without_list}
use Rattle.nomos_check.specs.Account.{Account, spends, with_lists, form_of}
use Rattle.nomos_check.specs.Accounting.{grows_list, parts_list}
use Rattle.nomos_check.specs.declared.operands.Adding.{Adding}
use Rattle.nomos_check.specs.declared.operands.Matching.{Matching}
use Rattle.nomos_check.specs.declared.standing.ListParts.{ListParts}
use Rattle.nomos_check.specs.declared.standing.WayOn.{WayOn}
use Rattle.nomos_check.specs.declared.standing.WayOn.TheVariants as way
use Rattle.nomos_check.specs.declared.standing.Carried.{Carried}
use Rattle.nomos_check.specs.declared.standing.Standing.{Standing}
use Rattle.nomos_check.specs.mirror.FoundWrong.{FindsList}
use Rattle.nomos_check.specs.mirror.StandingData.{shape_of, shape_of_list, amount_of, HasAccount, LeadsTo, LeadsAlong}
use Rattle.nomos_check.proofs.LeadLemmas.{leads-with, leads-along, both-ways}
use Rattle.nomos_check.proofs.StepRows.{empty-steps, add-steps, match-steps}

-- the shape of a list that is bound
pub list-bound : (s : Standing) (w : VarId) (c : Carried) → bound_to w.0 s.lists ≡ Some c
    → bound_to w.0 (shape_of s).lists ≡ Some (shape_of_list c)
list-bound s w c found = each-bound shape_of_list w.0 s.lists ∙ ap (option_map shape_of_list) found

-- a list that is not bound has no shape
pub list-unbound : (s : Standing) (w : VarId) (list : ListType) → bound_to w.0 s.lists ≡ None
    → ¬ (bound_to w.0 (shape_of s).lists ≡ Some list)
list-unbound s w list nothing found =
    let shape = each-bound shape_of_list w.0 s.lists ∙ ap (option_map shape_of_list) nothing in cc

-- the one shape of a list that is bound
pub list-is : (s : Standing) (w : VarId) (c : Carried) (list : ListType) → bound_to w.0 s.lists ≡ Some c
    → bound_to w.0 (shape_of s).lists ≡ Some list → shape_of_list c ≡ list
list-is s w c list found shape = let its = list-bound s w c found in cc

-- a list that may be taken apart
pub parts-found : (s : Standing) (w head tail : VarId) (o : Option Carried) → head ≢ tail → IsFree (shape_of s) head
    → IsFree (shape_of s) tail → o ≡ bound_to w.0 s.lists → FindsList s w (TakesApart (shape_of s) w head tail) o
parts-found s w head tail (Some c) differ head_free tail_free is = (
  record { there = list-bound s w c (sym is); differ = differ; head_free = head_free; tail_free = tail_free },
  sym
      is,
)
parts-found s w head tail None differ head_free tail_free is = λ list says. list-unbound s w list (sym is) says.there

-- the list that was found
pub found-list : (s : Standing) (w : VarId) (P : ListType → Type 0) (o : Option Carried) (c : Carried)
    → FindsList s w P o
    → o ≡ Some c → P (shape_of_list c) × (bound_to w.0 s.lists ≡ Some c)
found-list s w P o c found is = subst (FindsList s w P) is found

-- no list was found
pub found-no_list : (s : Standing) (w : VarId) (P : ListType → Type 0) (o : Option Carried) → FindsList s w P o
    → o ≡ None
    → (list : ListType) → ¬ (P list)
found-no_list s w P o found is = subst (FindsList s w P) is found

-- the amount that a list carries, in each account
carried-amount : (n : ℕ) (s : Standing) (a : Account) (w : VarId) (c : Carried) → HasAccount n s a
    → bound_to w.0 s.lists ≡ Some c → bound_to w.0 a.lists ≡ Some c.amount
carried-amount n s a w c has found =
    ap (bound_to w.0) (sym has.lists) ∙ each-bound amount_of w.0 s.lists ∙ ap (option_map amount_of) found

-- an empty list joins
pub empty-leads : (lists : ProgramLists) (s : Standing) (at : ℕ) (v : VarId) (c : Carried) (k : CodeId)
    (ls : List (VarId × Carried)) → ls ≡ bind v c s.lists
    → StandsAtCode lists (shape_of s) (code.Empty at v c.amount c.kind k) → IsFree (shape_of s) v
    → LeadsTo lists s (record s { lists = ls; code = k })
empty-leads lists s at v c k ls is stands free =
    let j = shape_of s in
    let Shaped : List (VarId × ListType) → Judgement = λ its. record (at_code j k) { lists = its } in
    let shapes = ap (each_bound shape_of_list) is ∙ each-bind shape_of_list v c s.lists in
    leads-with s (record s { lists = ls; code = k }) (binds_list (at_code j k) v (shape_of_list c))
    (code.Empty at v c.amount c.kind k) stands (empty-steps stands free) (ap Shaped shapes)
    (λ a has.
    let amounts = ap (each_bound amount_of) is ∙ each-bind amount_of v c s.lists ∙ ap (bind v c.amount) has.lists in
    (with_lists a (bind v c.amount a.lists), refl, record { lists = amounts; potential = has.potential }))

-- what is bound after a list has grown
grown : {Y : Type 0} (f : Carried → Y) (v w : VarId) (c : Carried) (b ls : List (VarId × Carried))
    → ls ≡ bind v c (unbind w.0 b) → each_bound f ls ≡ bind v (f c) (unbind w.0 (each_bound f b))
grown f v w c b ls is =
    ap (each_bound f) is ∙ each-bind f v c (unbind w.0 b) ∙ ap (bind v (f c)) (each-unbind f w.0 b)

-- a list grows
pub add-leads : (lists : ProgramLists) (s : Standing) (at : ℕ) (it : Adding) (c : Carried) (ls : List (VarId × Carried))
    (p : Form) → ls ≡ bind it.longer c (unbind it.list.0 s.lists)
    → ((n : ℕ) (a : Account) → s.potential ≡ form_of n a → p ≡ form_of n (spends c.amount a))
    → StandsAtCode lists (shape_of s) (code.Add at it.longer it.element it.list it.next)
    → Adds lists (shape_of s) it.longer it.element it.list (shape_of_list c) × (bound_to it.list.0 s.lists ≡ Some c)
    → LeadsTo lists s (record s { lists = ls; potential = p; code = it.next })
add-leads lists s at it c ls p is spent stands (says, found) =
    let j = shape_of s in
    let v = it.longer in
    let w = it.list in
    let Shaped : List (VarId × ListType) → Judgement = λ its. record (at_code j it.next) { lists = its } in
    leads-with s (record s { lists = ls; potential = p; code = it.next })
    (binds_list (without_list j w it.next) v (shape_of_list c)) (code.Add at v it.element w it.next) stands
    (add-steps stands (shape_of_list c) says refl) (ap Shaped (grown shape_of_list v w c s.lists ls is))
    (λ a has.
    let carries = carried-amount (star_count lists) s a w c has found in
    let amounts = grown amount_of v w c s.lists ls is ∙ ap (λ b. bind v c.amount (unbind w.0 b)) has.lists in
    let after = spends c.amount (with_lists a (bind v c.amount (unbind w.0 a.lists))) in (
      after,
      ap (λ o. grows_list o v w a) carries,
      record { lists = amounts; potential = spent (star_count lists) a has.potential },
    ))

-- a list is taken apart
pub match-leads : (lists : ProgramLists) (s : Standing) (at : ℕ) (it : Matching) (c : Carried) (made : List WayOn)
    → made ≡ way.Empty it.list it.empty_next ∷ way.Full (record {
      list = it.list;
      carried = c;
      head = it.head;
      tail =
          it.tail;
      next = it.full_next;
    }) ∷ []
    → StandsAtCode lists (shape_of s) (code.Match at it.list it.empty_next it.head it.tail it.full_next)
    → TakesApart (shape_of s) it.list it.head it.tail (shape_of_list c) × (bound_to it.list.0 s.lists ≡ Some c)
    → LeadsAlong lists s made
match-leads lists s at it c made is stands (says, found) =
    let parts : ListParts = record {
      list = it.list;
      carried = c;
      head = it.head;
      tail = it.tail;
      next =
          it.full_next;
    } in
    let first = way.Empty it.list it.empty_next in
    let second = way.Full parts in
    leads-along s (code.Match at it.list it.empty_next it.head it.tail it.full_next) made
    (first ∷ second ∷ []) is stands
    (match-steps stands (shape_of_list c) says refl)
    (λ a has.
    ap (λ o. parts_list o it.list it.tail a) (carried-amount (star_count lists) s a it.list c has found))
    (both-ways s first second tt found)
