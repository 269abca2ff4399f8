-- How values and lists pass.
use Rattle.std.proofs.Common.{◌≡◌, ◌<◌, ◌+◌, ◌⊎◌, ◌↔◌, ◌∙◌, ℕ, zero, suc, ◌==◌, Bool, true, false, IsTrue, List, [], ◌∷◌, All, Contains, Option, Some, None, drop, get_or, length, inl, inr, refl, ap, ap₂, sym, subst, subst₂, arith}
use Rattle.std.specs.Map.{keys_of}
use Rattle.std.specs.Option.{option_map}
use Rattle.std.specs.Prelude.{zip}
use Rattle.std.specs.List.Sorted.{IsStrictlySortedBy}
use Rattle.std.proofs.lemmas.List.{drop_more}
use Rattle.std.proofs.lemmas.List.Elements.{All-cons, All-head, All-nil, All-tail}
use Rattle.std.proofs.lemmas.Map.Made.{keys_of-map_values}
use Rattle.std.specs.List.{flat_map}
use Rattle.nomos_ir.specs.CodeParts.{arg_terms}
use Rattle.nomos_ir.specs.Ids.{AllBelow}
use Rattle.nomos_ir.specs.declared.amount.Amount.{Amount}
use Rattle.nomos_ir.specs.declared.code_node.ValueArg.{ValueArg}
use Rattle.nomos_ir.specs.declared.code_node.ValueArg.TheVariants as arg
use Rattle.nomos_ir.specs.declared.declaration.Par.{Par}
use Rattle.nomos_ir.specs.declared.ids.TermId.{TermId}
use Rattle.nomos_ir.specs.declared.ids.VarId.{VarId}
use Rattle.nomos_ir.specs.declared.kind.Kind.{Kind}
use Rattle.nomos_ir.specs.declared.lists.ProgramLists.{ProgramLists}
use Rattle.nomos_ir.specs.Bindings.{bound_to, unbind, by_number, IsAscending, each_bound}
use Rattle.nomos_ir.specs.TermKind.{HasKind}
use Rattle.nomos_ir.proofs.BindingLaws.{bound-after_unbind, unbind-ascending}
use Rattle.nomos_ir.proofs.MappedLaws.{each-bound, each-unbind}
use Rattle.nomos_types.proofs.EqualityLaws.{no_dths}
use Rattle.nomos_types.specs.Amount.{Annotations, dths}
use Rattle.nomos_types.specs.Arguments.{PassesValue, term, list, PassesValues, none, value}
use Rattle.nomos_types.specs.Equality.{no_amounts}
use Rattle.nomos_types.specs.Judgement.{Judgement, ListType}
use Rattle.nomos_check.specs.Accounting.{without_passed}
use Rattle.nomos_check.specs.declared.asked.Asked.{Asked}
use Rattle.nomos_check.specs.declared.standing.Carried.{Carried}
use Rattle.nomos_check.specs.declared.standing.Standing.{Standing}
use Rattle.nomos_check.specs.mirror.Passing.{TellsList, ValuePassed, TellsValue, ValuesPassed, PairOfValues, carried_by_all}
use Rattle.nomos_check.specs.mirror.StandingData.{amount_of, shape_of, shape_of_list, HasPair, Joins}
use Rattle.nomos_check.proofs.ListSteps.{list-bound}
use Rattle.nomos_check.proofs.PairLemmas.{joins-none, joins-same}
use Rattle.nomos_check.proofs.PassingSteps.{unbound-back}

-- ---- lists that are bound

-- what the lists carry is a map where their shapes are one
pub carried-ascends : (s : Standing) → IsAscending (shape_of s).lists → IsAscending (carried_by_all s)
carried-ascends s ascends =
    let same : keys_of (shape_of s).lists ≡ keys_of (carried_by_all s) =
    keys_of-map_values shape_of_list s.lists ∙ sym (keys_of-map_values amount_of s.lists)
    in
    subst (λ (ks : List VarId). IsStrictlySortedBy by_number ks) same ascends

carried-of : (o : Option Carried) (l : ListType) → option_map shape_of_list o ≡ Some l
    → (c : Carried) × (o ≡ Some c) × (shape_of_list c ≡ l)
carried-of (Some c) l found = (c, refl, cc)
carried-of None l found = absurd cc

-- the list whose shape is bound
pub list-carried : (s : Standing) (w : VarId) (l : ListType) → bound_to w.0 (shape_of s).lists ≡ Some l
    → (c : Carried) × (bound_to w.0 s.lists ≡ Some c) × (shape_of_list c ≡ l)
list-carried s w l found =
    carried-of (bound_to w.0 s.lists) l (sym (each-bound shape_of_list w.0 s.lists) ∙ found)

-- what it carries
carries-amount : (s : Standing) (w : VarId) (c : Carried) → bound_to w.0 s.lists ≡ Some c
    → bound_to w.0 (carried_by_all s) ≡ Some c.amount
carries-amount s w c found = each-bound amount_of w.0 s.lists ∙ ap (option_map amount_of) found

-- ---- one value or list

first-pair : {X Y : Type 0} (x : X) (y : Y) (p : X × Y) → Contains (zip (x ∷ []) (y ∷ [])) p → (x ≡ p.0) × (y ≡ p.1)
first-pair x y p (zero, inside, same) = (ap (λ (e : _ × _). e.0) same, ap (λ (e : _ × _). e.1) same)
first-pair x y p (suc i, inside, same) = absurd (omega arith)

-- a term asks for no pair
term-no_pair : (carry : List (VarId × Amount)) (e : TermId) (par : Par) (pair : Amount × Amount)
    → ¬ (PairOfValues carry (arg.Term e ∷ []) (par ∷ []) pair)
term-no_pair carry e par pair p = let (same, rest) = first-pair (arg.Term e) par (arg.List p.w, p.par) p.passes in cc

-- a term passes where it has the kind
pub term-passes : (lists : ProgramLists) (s : Standing) (e : TermId) (par : Par) (old : Asked) → par.amount ≡ None
    → (b : Bool) → (IsTrue b ↔ HasKind lists (shape_of s).kinds e par.kind)
    → TellsValue lists s s (arg.Term e) par old old b
term-passes lists s e par old no_list true has = record {
  passes = term no_list (has.0 refl);
  lists_left = refl;
  potential = refl;
  joins =
      joins-none old (PairOfValues (carried_by_all s) (arg.Term e ∷ []) (par ∷ []))
      (term-no_pair (carried_by_all s) e par);
}
term-passes lists s e par old no_list false has = λ k. go k
  where
    go : (k : Judgement) → ¬ (PassesValue lists no_amounts (shape_of s) (arg.Term e) par k)
    go k (term its_no_list its_kind) = let yes = has.1 its_kind in cc

-- the pair of a list
list-pair : (carry : List (VarId × Amount)) (w : VarId) (par : Par) (r said : Amount) → bound_to w.0 carry ≡ Some r
    → par.amount ≡ Some said → (pair : Amount × Amount)
    → (pair ≡ (r, said)) ↔ PairOfValues carry (arg.List w ∷ []) (par ∷ []) pair
list-pair carry w par r said carries says pair = (
  λ is.
      let first : r ≡ pair.0 = sym (ap (λ (p : Amount × Amount). p.0) is) in
      let second : said ≡ pair.1 = sym (ap (λ (p : Amount × Amount). p.1) is) in
      record {
        w = w;
        par = par;
        passes = (0, omega arith, refl);
        carries = carries ∙ ap Some first;
        says = says ∙ ap Some second;
      },
  λ p.
      let (same, its_par) = first-pair (arg.List w) par (arg.List p.w, p.par) p.passes in
      let its_w : p.w ≡ w = cc in
      let its_carries = p.carries in
      let here : bound_to w.0 carry ≡ Some pair.0 = subst (λ (v : VarId). bound_to v.0 carry ≡ Some pair.0) its_w
      p.carries in
      let there : par.amount ≡ Some pair.1 = subst (λ (q : Par). q.amount ≡ Some pair.1) (sym its_par) p.says in
      let first : pair.0 ≡ r = cc in
      let second : pair.1 ≡ said = cc in
      let made : Amount → Amount → Amount × Amount = λ a b. (a, b) in
      ap₂ made first second,
)

-- a list passes where it has the kind
pub list-passes : (lists : ProgramLists) (s next : Standing) (w : VarId) (par : Par) (said : Amount) (old new : Asked)
    → par.amount ≡ Some said → (b : Bool) → TellsList s next w par.kind said old new b
    → TellsValue lists s next (arg.List w) par old new b
list-passes lists s next w par said old new says true passed =
    let j = shape_of s in
    let c = passed.carried in
    let shape : bound_to w.0 j.lists ≡ Some (record { kind = par.kind; amount = dths no_amounts said }) =
    let made : Kind → ℕ → ListType = λ k n. record { kind = k; amount = n } in
    list-bound s w c passed.there ∙ ap Some (ap₂ made passed.its_kind (sym (no_dths said)))
    in
    let left_is : next.lists ≡ unbind w.0 s.lists = ap (λ (t : Standing). t.lists) passed.next_is ∙ passed.unbound in
    let shapes = ap (each_bound shape_of_list) passed.unbound ∙ each-unbind shape_of_list w.0 s.lists in
    let Shaped : List (VarId × ListType) → Judgement = λ ls. record j { lists = ls } in
    let next_shape : shape_of next ≡ Shaped (unbind w.0 j.lists) = ap shape_of passed.next_is ∙ ap Shaped shapes in
    record {
      passes =
          subst (λ (k : Judgement). PassesValue lists no_amounts j (arg.List w) par k) (sym next_shape)
          (list said says shape);
      lists_left = ap (each_bound amount_of) left_is ∙ each-unbind amount_of w.0 s.lists;
      potential = ap (λ (t : Standing). t.potential) passed.next_is;
      joins =
          joins-same old new (λ pair. pair ≡ (c.amount, said))
          (PairOfValues (carried_by_all s) (arg.List w ∷ []) (par ∷ [])) passed.joins
          (list-pair (carried_by_all s) w par c.amount said (carries-amount s w c passed.there) says);
    }
list-passes lists s next w par said old new says false stays = λ k. go k
  where
    go : (k : Judgement) → ¬ (PassesValue lists no_amounts (shape_of s) (arg.List w) par k)
    go k (list amount its_amount found) =
        let (c, there, shape) = list-carried s w _ found in
        stays c there (ap (λ (l : ListType). l.kind) shape)

-- ---- one after another

-- no values pass for no parameters
pub values-none : (lists : ProgramLists) (s : Standing) (old : Asked) → ValuesPassed lists s s [] [] old old
values-none lists s old = record {
  passes = none;
  lists_left = refl;
  potential = refl;
  joins = joins-none old (PairOfValues (carried_by_all s) [] []) (λ pair p. absurd (omega (arith, p.passes.1)));
}

-- what is bound after one passed was bound before
passed-back : (a : ValueArg) (v : ℕ) (r : Amount) (before after : List (VarId × Amount)) → IsAscending before
    → after ≡ without_passed (a ∷ []) before → bound_to v after ≡ Some r → bound_to v before ≡ Some r
passed-back (arg.Term e) v r before after ascends is found =
    subst (λ (b : List (VarId × Amount)). bound_to v b ≡ Some r) is found
passed-back (arg.List w) v r before after ascends is found =
    let there = subst (λ (b : List (VarId × Amount)). bound_to v b ≡ Some r) is found in
    unbound-back v w.0 before r (v == w.0) refl (bound-after_unbind w.0 before ascends) there

-- a list that passes among others is bound before them
pub listed-there : {lists : ProgramLists} {x : Annotations} {j : Judgement} {args : List ValueArg} {pars : List Par}
    {left : Judgement} (w : VarId) (par : Par) → IsAscending j.lists → PassesValues lists x j args pars left
    → Contains (zip args pars) (arg.List w, par) → (l : ListType) × (bound_to w.0 j.lists ≡ Some l)
listed-there w par ascends none (i, inside, same) = absurd (omega arith)
listed-there w par ascends (value (term no_list kind) rest) (zero, inside, same) =
    let wrong = ap (λ (e : ValueArg × Par). e.0) same in absurd cc
listed-there {x = x} {j = j} w par ascends (value {par = q} (list {w = v} amount its found) rest) (zero, inside, same) =
    let args_same = ap (λ (e : ValueArg × Par). e.0) same in
    let one : v ≡ w = cc in
    let l : ListType = record { kind = q.kind; amount = dths x amount } in
    (l, subst (λ (u : VarId). bound_to u.0 j.lists ≡ Some l) one found)
listed-there w par ascends (value (term no_list kind) rest) (suc i, inside, same) =
    listed-there w par ascends rest (i, omega arith, same)
listed-there {j = j} w par ascends (value (list {w = v} amount its found) rest) (suc i, inside, same) =
    let (l, there) = listed-there w par (unbind-ascending v.0 j.lists ascends) rest (i, omega arith, same) in
    (l, unbound-back w.0 v.0 j.lists l (w.0 == v.0) refl (bound-after_unbind v.0 j.lists ascends) there)

-- a map stays one after a value or list has passed
pub value-ascends : {lists : ProgramLists} {x : Annotations} {j : Judgement} {a : ValueArg} {par : Par} {k : Judgement}
    → IsAscending j.lists → PassesValue lists x j a par k → IsAscending k.lists
value-ascends ascends (term no_list kind) = ascends
value-ascends {j = j} ascends (list {w = w} amount its found) = unbind-ascending w.0 j.lists ascends

-- the pairs of values are those of the first one and those of the others
value-pairs : (lists : ProgramLists) (s between next : Standing) (a : ValueArg) (args : List ValueArg) (par : Par)
    (pars : List Par) (old mid new : Asked) → IsAscending (shape_of s).lists → ValuePassed lists s between a par old mid
    → ValuesPassed lists between next args pars mid new
    → Joins old new (PairOfValues (carried_by_all s) (a ∷ args) (par ∷ pars))
value-pairs lists s between next a args par pars old mid new ascends first rest = λ pair. (to pair, from pair)
  where
    back : (w : VarId) (r : Amount) → bound_to w.0 (carried_by_all between) ≡ Some r
        → bound_to w.0 (carried_by_all s) ≡ Some r
    back w r found =
        passed-back a w.0 r (carried_by_all s) (carried_by_all between)
        (carried-ascends s ascends) first.lists_left found

    to : (pair : Amount × Amount) → HasPair new pair
        → HasPair old pair ⊎ PairOfValues (carried_by_all s) (a ∷ args) (par ∷ pars) pair
    to pair has = elim ((rest.joins pair).0 has) [
      | inl middle ↦ elim ((first.joins pair).0 middle) [
        | inl before ↦ inl before
        | inr p ↦ let (same, its_par) = first-pair a par (arg.List p.w, p.par) p.passes in
            let made : ValueArg → Par → ValueArg × Par = λ x y. (x, y) in
            inr (record {
              w = p.w;
              par = p.par;
              passes = (0, omega arith, ap₂ made same its_par);
              carries = p.carries;
              says = p.says;
            })
      ]
      | inr p ↦ inr (record {
        w = p.w;
        par = p.par;
        passes = (suc p.passes.0, omega (arith, p.passes.1), p.passes.2);
        carries = back p.w pair.0 p.carries;
        says = p.says;
      })
    ]

    later : (pair : Amount × Amount) (p : PairOfValues (carried_by_all s) (a ∷ args) (par ∷ pars) pair)
        → Contains (zip args pars) (arg.List p.w, p.par) → HasPair new pair
    later pair p among =
        let (l, shape) = listed-there p.w p.par (value-ascends ascends first.passes) rest.passes among in
        let (c, there, its) = list-carried between p.w l shape in
        let held = carries-amount between p.w c there in
        let before = back p.w c.amount held in
        let here = p.carries in
        let same : c.amount ≡ pair.0 = cc in
        let carries = subst (λ (r : Amount). bound_to p.w.0 (carried_by_all between) ≡ Some r) same held in
        (rest.joins pair).1 (inr (record { w = p.w; par = p.par; passes = among; carries = carries; says = p.says }))

    at : (pair : Amount × Amount) (p : PairOfValues (carried_by_all s) (a ∷ args) (par ∷ pars) pair)
        → Contains (zip (a ∷ args) (par ∷ pars)) (arg.List p.w, p.par) → HasPair new pair
    at pair p (zero, inside, same) =
        let one : PairOfValues (carried_by_all s) (a ∷ []) (par ∷ []) pair =
        record { w = p.w; par = p.par; passes = (0, omega arith, same); carries = p.carries; says = p.says }
        in
        (rest.joins pair).1 (inl ((first.joins pair).1 (inr one)))
    at pair p (suc i, inside, same) = later pair p (i, omega arith, same)

    from : (pair : Amount × Amount) → HasPair old pair ⊎ PairOfValues (carried_by_all s) (a ∷ args) (par ∷ pars) pair
        → HasPair new pair
    from pair (inl before) = (rest.joins pair).1 (inl ((first.joins pair).1 (inl before)))
    from pair (inr p) = at pair p p.passes

-- what is left after one and then after the others
left-through : (a : ValueArg) (args : List ValueArg) (b : List (VarId × Amount))
    → without_passed args (without_passed (a ∷ []) b) ≡ without_passed (a ∷ args) b
left-through (arg.Term e) args b = refl
left-through (arg.List w) args b = refl

-- one value or list passes, and then the others
pub values-more : (lists : ProgramLists) (s between next : Standing) (a : ValueArg) (args : List ValueArg) (par : Par)
    (pars : List Par) (old mid new : Asked) → IsAscending (shape_of s).lists → ValuePassed lists s between a par old mid
    → ValuesPassed lists between next args pars mid new → ValuesPassed lists s next (a ∷ args) (par ∷ pars) old new
values-more lists s between next a args par pars old mid new ascends first rest = record {
  passes = value first.passes rest.passes;
  lists_left = rest.lists_left ∙ ap (without_passed args) first.lists_left ∙ left-through a args (carried_by_all s);
  potential = rest.potential ∙ first.potential;
  joins = value-pairs lists s between next a args par pars old mid new ascends first rest;
}

-- what is left after one value or list is one judgement
value-same : {lists : ProgramLists} {x : Annotations} {j : Judgement} {a : ValueArg} {par : Par} {l r : Judgement}
    → PassesValue lists x j a par l → PassesValue lists x j a par r → l ≡ r
value-same (term _ _) (term _ _) = refl
value-same (list _ _ _) (list _ _ _) = refl

-- where values pass, the others pass after the first one
values-rest : (lists : ProgramLists) (j k left : Judgement) (a : ValueArg) (args : List ValueArg) (par : Par)
    (pars : List Par) → PassesValue lists no_amounts j a par k
    → PassesValues lists no_amounts j (a ∷ args) (par ∷ pars) left → PassesValues lists no_amounts k args pars left
values-rest lists j k left a args par pars here (value first rest) =
    subst (λ (i : Judgement). PassesValues lists no_amounts i args pars left) (value-same first here) rest

-- the first value passes
values-first : (lists : ProgramLists) (j left : Judgement) (a : ValueArg) (args : List ValueArg) (par : Par)
    (pars : List Par) → PassesValues lists no_amounts j (a ∷ args) (par ∷ pars) left
    → (k : Judgement) × PassesValue lists no_amounts j a par k
values-first lists j left a args par pars (value {k = k} first rest) = (k, first)

-- there are as many values as parameters
pub values-count : (lists : ProgramLists) (j : Judgement) (args : List ValueArg) (pars : List Par) (left : Judgement)
    → PassesValues lists no_amounts j args pars left → length args ≡ length pars
values-count lists j _ _ left none = refl
values-count lists j _ _ left (value {k = k} {args = args} {pars = pars} first rest) =
    ap suc (values-count lists k args pars left rest)

-- what is left after values is one judgement
pub values-same : (lists : ProgramLists) (args : List ValueArg) (pars : List Par) (j l r : Judgement)
    → PassesValues lists no_amounts j args pars l → PassesValues lists no_amounts j args pars r → l ≡ r
values-same lists [] [] j l r none none = refl
values-same lists [] (par ∷ pars) j l r left right = elim left [ ]
values-same lists (a ∷ args) [] j l r left right = elim left [ ]
values-same lists (a ∷ args) (par ∷ pars) j l r (value {k = k} first rest) right =
    values-same lists args pars k l r rest (values-rest lists j k r a args par pars first right)

-- the terms of each argument are among those of all
pub terms-each : (n : ℕ) (args : List ValueArg) → AllBelow n (flat_map arg_terms args)
    → All (λ a. AllBelow n (arg_terms a)) args
terms-each n [] below = All-nil (λ (a : ValueArg). AllBelow n (arg_terms a))
terms-each n (arg.Term e ∷ args) below =
    let Below : ℕ → Type 0 = λ k. k < n in
    let Each : ValueArg → Type 0 = λ a. AllBelow n (arg_terms a) in
    let terms = flat_map arg_terms args in
    let here = All-cons Below e.0 [] (All-head Below e.0 terms below) (All-nil Below) in
    All-cons Each (arg.Term e) args here (terms-each n args (All-tail Below e.0 terms below))
terms-each n (arg.List w ∷ args) below =
    let Each : ValueArg → Type 0 = λ a. AllBelow n (arg_terms a) in
    All-cons Each (arg.List w) args (All-nil (λ (k : ℕ). k < n)) (terms-each n args below)

-- ---- a turn of the loop

module _ (lists : ProgramLists) (args : List ValueArg) (pars : List Par) (i : ℕ) (da : ValueArg) (dp : Par)
    (in_args : i < length args) (in_pars : i < length pars) where
  -- where all values pass after this turn, all of them pass
  pub turn-whole : (start now between : Standing) (first asked mid : Asked) → IsAscending (shape_of now).lists
      → ValuePassed lists now between (get_or args i da) (get_or pars i dp) asked mid
      → ((next : Standing) (new : Asked) → ValuesPassed lists now next (drop i args) (drop i pars) asked new
      → ValuesPassed lists start next args pars first new)
      → (next : Standing) (new : Asked) → ValuesPassed lists between next (drop (i + 1) args) (drop
      (i + 1) pars) mid new
      → ValuesPassed lists start next args pars first new
  turn-whole start now between first asked mid ascends here whole next new rest =
      let a = get_or args i da in
      let par = get_or pars i dp in
      let more = values-more lists now between next a (drop (i + 1) args) par (drop
      (i + 1) pars) asked mid new ascends here rest in
      let Passed : List ValueArg → List Par → Type 0 = λ x y. ValuesPassed lists now next x y asked new in
      whole next new (subst₂ Passed (sym (drop_more args i da in_args)) (sym (drop_more pars i dp in_pars)) more)

  -- where all values pass, those after this turn pass
  pub turn-rest : (start now between : Judgement) → PassesValue lists no_amounts now (get_or args i da)
      (get_or pars i dp) between
      → ((left : Judgement) → PassesValues lists no_amounts start args pars left
      → PassesValues lists no_amounts now (drop i args) (drop i pars) left)
      → (left : Judgement) → PassesValues lists no_amounts start args pars left
      → PassesValues lists no_amounts between (drop (i + 1) args) (drop (i + 1) pars) left
  turn-rest start now between here rest left all =
      let Passes : List ValueArg → List Par → Type 0 = λ x y. PassesValues lists no_amounts now x y left in
      values-rest lists now between left (get_or args i da) (drop (i + 1) args) (get_or pars i dp) (drop
      (i + 1) pars) here
      (subst₂ Passes (drop_more args i da in_args) (drop_more pars i dp in_pars) (rest left all))

  -- where the value of this turn does not pass, all do not
  pub turn-stuck : (start now : Judgement)
      → ((k : Judgement) → ¬ (PassesValue lists no_amounts now (get_or args i da) (get_or pars i dp) k))
      → ((left : Judgement) → PassesValues lists no_amounts start args pars left
      → PassesValues lists no_amounts now (drop i args) (drop i pars) left)
      → (left : Judgement) → ¬ (PassesValues lists no_amounts start args pars left)
  turn-stuck start now stays rest left all =
      let Passes : List ValueArg → List Par → Type 0 = λ x y. PassesValues lists no_amounts now x y left in
      let (k, here) =
      values-first lists now left (get_or args i da) (drop (i + 1) args) (get_or pars i dp) (drop (i + 1) pars)
      (subst₂ Passes (drop_more args i da in_args) (drop_more pars i dp in_pars) (rest left all))
      in
      stays k here
