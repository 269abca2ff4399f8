-- What parameters are given, one after the other, how a process begins, and what it hands over.
use Rattle.std.proofs.Common.{◌≡◌, ◌≢◌, ℕ, List, [], ◌∷◌, ◌++◌, ◌+◌, ◌*◌, ◌<◌, ◌≤◌, length, drop, get_or, Option, Some, None, sum_by, refl, sym, ap, ap₂, ◌∙◌, arith}
use Rattle.std.specs.Prelude.{option_and_then}
use Rattle.std.proofs.lemmas.List.{append_assoc, at_drop_all, at_drop_more, drop_more}
use Rattle.nomos_ir.specs.Bindings.{bound_to, bindings_of}
use Rattle.nomos_ir.specs.Value.{Value}
use Rattle.nomos_ir.specs.declared.code_node.ValueArg.{ValueArg}
use Rattle.nomos_ir.specs.declared.code_node.ValueArg.TheVariants as arg
use Rattle.nomos_ir.specs.declared.declaration.Par.{Par}
use Rattle.nomos_ir.specs.declared.declaration.ProcDecl.{ProcDecl}
use Rattle.nomos_ir.specs.declared.ids.TermId.{TermId}
use Rattle.nomos_ir.specs.declared.ids.TypeId.{TypeId}
use Rattle.nomos_ir.specs.declared.ids.VarId.{VarId}
use Rattle.nomos_types.specs.Acceptance.{Acceptance}
use Rattle.nomos_machine.specs.Deeds.{alone, calls, hands_over, hands_over_all, hands_over_lists}
use Rattle.nomos_machine.specs.Given.{Given, begins, give_names, give_values, me_value}
use Rattle.nomos_machine.specs.Revised.{list_used_up}
use Rattle.nomos_machine.specs.State.{State}
use Rattle.nomos_machine.specs.declared.object.PotentialList.{PotentialList}
use Rattle.nomos_machine.specs.declared.object.Process.{Process}
use Rattle.nomos_changes.specs.Gives.{called}

-- values and lists of parameters
abbrev pub ValuesAndLists : Type 0
ValuesAndLists = List (VarId × Value) × List (VarId × PotentialList)

-- values and lists, and behind them those of other parameters, if those are there
abbrev pub followed : ValuesAndLists → Option ValuesAndLists → Option ValuesAndLists
followed first (Some others) = Some (first.0 ++ others.0, first.1 ++ others.1)
followed first None = None

-- names, and behind them those of other parameters, if those are there
abbrev pub names_followed : List (VarId × ℕ) → Option (List (VarId × ℕ)) → Option (List (VarId × ℕ))
names_followed first (Some others) = Some (first ++ others)
names_followed first None = None

-- nothing follows on what may be there
none-then : {A B : Type 0} (found : Option A)
    → let nothing : Option B = None in nothing ≡ option_and_then (λ _. nothing) found
none-then None = refl
none-then (Some x) = refl

-- names are given to as many parameters as there are arguments
pub unequal-names : (p : Process) (args : List VarId) (pars : List (VarId × TypeId)) → length args ≢ length pars
    → None ≡ give_names p args pars
unequal-names p [] [] differ = absurd (differ refl)
unequal-names p [] (par ∷ pars) differ = refl
unequal-names p (v ∷ vs) [] differ = refl
unequal-names p (v ∷ vs) (par ∷ pars) differ =
    none-then (bound_to v.0 p.channels)
    ∙ ap (λ (rest : Option (List (VarId × ℕ))). option_and_then (λ name. option_and_then
    (λ others. Some ((par.0, name) ∷ others)) rest) (bound_to v.0 p.channels))
    (unequal-names p vs pars (λ same. differ (omega arith)))

-- a value or a list is given to as many parameters as there are arguments
pub unequal-values : (p : Process) (vs : List Value) (args : List ValueArg) (pars : List Par)
    → length args ≢ length pars → None ≡ give_values p vs args pars
unequal-values p [] [] [] differ = absurd (differ refl)
unequal-values p (x ∷ vs) [] [] differ = refl
unequal-values p [] [] (par ∷ pars) differ = refl
unequal-values p (x ∷ vs) [] (par ∷ pars) differ = refl
unequal-values p [] (arg.Term e ∷ args) [] differ = refl
unequal-values p [] (arg.List w ∷ args) [] differ = refl
unequal-values p (x ∷ vs) (arg.Term e ∷ args) [] differ = refl
unequal-values p (x ∷ vs) (arg.List w ∷ args) [] differ = refl
unequal-values p [] (arg.Term e ∷ args) (par ∷ pars) differ = refl
unequal-values p (x ∷ vs) (arg.Term e ∷ args) (par ∷ pars) differ =
    ap (option_and_then (λ others. Some ((par.var, x) ∷ others.0, others.1)))
    (unequal-values p vs args pars (λ same. differ (omega arith)))
unequal-values p [] (arg.List w ∷ args) (par ∷ pars) differ =
    none-then (bound_to w.0 p.lists)
    ∙ ap (λ (rest : Option ValuesAndLists). option_and_then (λ list. option_and_then
    (λ others. Some (others.0, (par.var, list) ∷ others.1)) rest) (bound_to w.0 p.lists))
    (unequal-values p [] args pars (λ same. differ (omega arith)))
unequal-values p (x ∷ vs) (arg.List w ∷ args) (par ∷ pars) differ =
    none-then (bound_to w.0 p.lists)
    ∙ ap (λ (rest : Option ValuesAndLists). option_and_then (λ list. option_and_then
    (λ others. Some (others.0, (par.var, list) ∷ others.1)) rest) (bound_to w.0 p.lists))
    (unequal-values p (x ∷ vs) args pars (λ same. differ (omega arith)))

-- one more value goes behind those so far
value-follows : (first : ValuesAndLists) (e : VarId × Value) (rest : Option ValuesAndLists)
    → followed first (option_and_then (λ others. Some (e ∷ others.0, others.1)) rest)
    ≡ followed (first.0 ++ e ∷ [], first.1) rest
value-follows first e (Some others) =
    ap (λ (vs : List (VarId × Value)). Some (vs, first.1 ++ others.1)) (sym (append_assoc first.0 (e ∷ []) others.0))
value-follows first e None = refl

-- one more list
list-follows : (first : ValuesAndLists) (e : VarId × PotentialList) (rest : Option ValuesAndLists)
    → followed first (option_and_then (λ others. Some (others.0, e ∷ others.1)) rest)
    ≡ followed (first.0, first.1 ++ e ∷ []) rest
list-follows first e (Some others) =
    ap (λ (ls : List (VarId × PotentialList)). Some (first.0 ++ others.0, ls))
    (sym (append_assoc first.1 (e ∷ []) others.1))
list-follows first e None = refl

-- a parameter whose argument is a list, whatever values there are
list-given : (p : Process) (vs : List Value) (w : VarId) (args : List ValueArg) (par : Par) (pars : List Par)
    → give_values p vs (arg.List w ∷ args) (par ∷ pars)
    ≡ option_and_then (λ list. option_and_then (λ others. Some (others.0, (par.var, list) ∷ others.1))
    (give_values p vs args pars)) (bound_to w.0 p.lists)
list-given p [] w args par pars = refl
list-given p (x ∷ vs) w args par pars = refl

-- at a place where arguments and parameters go on
module _ (p : Process) (values : List (VarId × Value)) (lists : List (VarId × PotentialList)) (args : List ValueArg)
    (pars : List Par) (i : ℕ) (a : ValueArg) (d : Par) (within : i < length args)
    (alike : length args ≡ length pars) where
  abbrev par_there : Par
  par_there = get_or pars i d

  pars-there : drop i pars ≡ par_there ∷ drop (i + 1) pars
  pars-there = drop_more pars i d (omega arith)

  args-there : (b : ValueArg) → get_or args i a ≡ b → drop i args ≡ b ∷ drop (i + 1) args
  args-there b there = drop_more args i a within ∙ ap (λ (c : ValueArg). c ∷ drop (i + 1) args) there

  -- the parameter is given the next value
  pub gives-value : (x : Value) (vs before : List Value) (after : List (VarId × Value)) (e : TermId)
      → get_or args i a ≡ arg.Term e → before ≡ x ∷ vs → after ≡ values ++ ((get_or pars i d).var, x) ∷ []
      → followed (after, lists) (give_values p vs (drop (i + 1) args) (drop (i + 1) pars))
      ≡ followed (values, lists) (give_values p before (drop i args) (drop i pars))
  gives-value x vs before after e there value_is after_is =
      let behind = give_values p vs (drop (i + 1) args) (drop (i + 1) pars) in
      ap (λ (ps : List (VarId × Value)). followed (ps, lists) behind) after_is
      ∙ sym (value-follows (values, lists) (par_there.var, x) behind)
      ∙ ap (λ (xs : List Value). followed (values, lists)
      (give_values p xs (arg.Term e ∷ drop (i + 1) args) (par_there ∷ drop (i + 1) pars))) (sym value_is)
      ∙ ap₂ (λ left others. followed (values, lists) (give_values p before left others))
      (sym (args-there (arg.Term e) there)) (sym pars-there)

  gives-what : (vs : List Value) (w : VarId) (found : Option PotentialList) → get_or args i a ≡ arg.List w
      → found ≡ bound_to w.0 p.lists
      → followed (values, lists) (option_and_then (λ list. option_and_then
      (λ others. Some (others.0, (par_there.var, list) ∷ others.1))
      (give_values p vs (drop (i + 1) args) (drop (i + 1) pars))) found)
      ≡ followed (values, lists) (give_values p vs (drop i args) (drop i pars))
  gives-what vs w found there list_is =
      ap (λ (o : Option PotentialList). followed (values, lists) (option_and_then (λ list. option_and_then
      (λ others. Some (others.0, (par_there.var, list) ∷ others.1))
      (give_values p vs (drop (i + 1) args) (drop (i + 1) pars))) o)) list_is
      ∙ ap (followed (values, lists)) (sym (list-given p vs w (drop (i + 1) args) par_there (drop (i + 1) pars)))
      ∙ ap₂ (λ left others. followed (values, lists) (give_values p vs left others))
      (sym (args-there (arg.List w) there)) (sym pars-there)

  -- the parameter is given a list
  pub gives-list : (vs : List Value) (w : VarId) (list : PotentialList) (after : List (VarId × PotentialList))
      → get_or args i a ≡ arg.List w → Some list ≡ bound_to w.0 p.lists
      → after ≡ lists ++ ((get_or pars i d).var, list) ∷ []
      → followed (values, after) (give_values p vs (drop (i + 1) args) (drop (i + 1) pars))
      ≡ followed (values, lists) (give_values p vs (drop i args) (drop i pars))
  gives-list vs w list after there list_is after_is =
      let behind = give_values p vs (drop (i + 1) args) (drop (i + 1) pars) in
      ap (λ (ls : List (VarId × PotentialList)). followed (values, ls) behind) after_is
      ∙ sym (list-follows (values, lists) (par_there.var, list) behind)
      ∙ gives-what vs w (Some list) there list_is

  -- there is no list for it
  pub gives-nothing : (vs : List Value) (w : VarId) → get_or args i a ≡ arg.List w → None ≡ bound_to w.0 p.lists
      → None ≡ followed (values, lists) (give_values p vs (drop i args) (drop i pars))
  gives-nothing vs w there list_is = gives-what vs w None there list_is

-- ---- a process at its start

-- a process of these parts is the one that begins
pub begun : (d : ProcDecl) (g : Given) (pid offers potential payer : ℕ) (values : List (VarId × Value))
    (lists : List (VarId × PotentialList)) (channels : List (VarId × ℕ)) (purse : ℕ)
    → values ≡ bindings_of (me_value d.me payer ++ g.values) → lists ≡ bindings_of g.lists
    → channels ≡ bindings_of g.channels
    → purse ≡ potential + sum_by (λ e. e.1.amount * length e.1.items) (bindings_of g.lists)
    → let made : Process = record {
      pid = pid;
      mode = d.mode;
      code = d.first;
      values = values;
      lists = lists;
      channels = channels;
      offers = offers;
      base = None;
      purse = purse;
      payer = payer;
    } in
    made ≡ begins d g pid offers potential payer
begun d g pid offers potential payer values lists channels purse values_are lists_are channels_are purse_is =
    cc (values_are, lists_are, channels_are, purse_is)

-- ---- what is handed over

module _ (a : Acceptance) (s : State) (p : Process) where
  -- a term hands nothing over
  pub hands-term : (args : List ValueArg) (i : ℕ) (d : ValueArg) (e : TermId) (q : Process) → i < length args
      → get_or args i d ≡ arg.Term e
      → hands_over_lists a s p (drop (i + 1) args) q ≡ hands_over_lists a s p (drop i args) q
  hands-term args i d e q within there =
      ap (λ (b : ValueArg). hands_over_lists a s p (b ∷ drop (i + 1) args) q) (sym there)
      ∙ sym (at_drop_more (λ (left : List ValueArg). hands_over_lists a s p left q) args i d within)

  -- a list is handed over
  pub hands-list : (args : List ValueArg) (i : ℕ) (d : ValueArg) (w : VarId) (q : Process) → i < length args
      → get_or args i d ≡ arg.List w
      → hands_over_lists a s p (drop (i + 1) args) (list_used_up w q) ≡ hands_over_lists a s p (drop i args) q
  hands-list args i d w q within there =
      ap (λ (b : ValueArg). hands_over_lists a s p (b ∷ drop (i + 1) args) q) (sym there)
      ∙ sym (at_drop_more (λ (left : List ValueArg). hands_over_lists a s p left q) args i d within)

  -- then nothing is left to hand over
  pub hands-no_lists : (args : List ValueArg) (i : ℕ) (q : Process) → length args ≤ i
      → q ≡ hands_over_lists a s p (drop i args) q
  hands-no_lists args i q past =
      sym (at_drop_all (λ (left : List ValueArg). hands_over_lists a s p left q) args i past)

  -- a channel is handed over
  pub hands-channel : (vs : List VarId) (i : ℕ) (d : VarId) (q : Process) → i < length vs
      → hands_over_all a s p (drop (i + 1) vs) (hands_over a s p (get_or vs i d) q)
      ≡ hands_over_all a s p (drop i vs) q
  hands-channel vs i d q within =
      sym (at_drop_more (λ (left : List VarId). hands_over_all a s p left q) vs i d within)

  pub hands-no_channels : (vs : List VarId) (i : ℕ) (q : Process) → length vs ≤ i
      → q ≡ hands_over_all a s p (drop i vs) q
  hands-no_channels vs i q past =
      sym (at_drop_all (λ (left : List VarId). hands_over_all a s p left q) vs i past)

  -- a call is the process alone, which goes on at the declaration
  pub calls-alone : (d : ProcDecl) (g : Given) → calls a s p d g ≡ alone a s p (called d g p)
  calls-alone d g = refl
