-- The parameters of one declaration have names that differ, and so have their variables.
use Rattle.std.proofs.Common.{◌≡◌, ◌≢◌, ℕ, Bool, true, false, List, [], ◌∷◌, ◌++◌, map, codes, All, Option, Some, None, refl, sym, subst}
use Rattle.std.specs.Prelude.{if◌then◌else◌}
use Rattle.std.specs.Str.{bytes_eq}
use Rattle.std.proofs.lemmas.List.Elements.{All-nil, All-cons, All-append}
use Rattle.std.proofs.lemmas.List.Kept.{AllPairs-cons}
use Rattle.nomos_elaborate.proofs.NameClaimLaws.{AllHold, first_holds, rest_hold, right_hold}
use Rattle.nomos_elaborate.proofs.DistinctNameLaws.{AreNew, new-differ, AllNamesDiffer, Numbered, none, Numbered-grows, Numbered-append, Numbered-seen, Numbered-differ}
use Rattle.nomos_elaborate.proofs.NumberLaws.{Grows, Grows-same, Grows-then, Grows-seen}
use Rattle.nomos_elaborate.proofs.TypeLabelLaws.{amount-variables, type-variables}
use Rattle.nomos_elaborate.specs.Built.{Built, with_variable}
use Rattle.nomos_elaborate.specs.NameClaim.{NameClaim, new_on_way}
use Rattle.nomos_elaborate.specs.FileBuild.{build_value_pars, par_amount, build_process_pars, build_chan_pars, with_payer}
use Rattle.nomos_elaborate.specs.FileClaims.{value_pars_claims, par_sort, process_pars_claims, process_pars_scope, chan_pars_claims, pars_claims}
use Rattle.nomos_elaborate.specs.Names.{Names, is_among, seen, number_of}
use Rattle.nomos_elaborate.specs.Scope.{Scope, sort_of, bind, is_unbound}
use Rattle.nomos_elaborate.specs.TypeBuild.{build_type}
use Rattle.nomos_elaborate.specs.TypeClaims.{type_claims}
use Rattle.nomos_elaborate.specs.declared.sort.Sort.{Sort}
use Rattle.nomos_elaborate.specs.declared.sort.Sort.TheVariants as sort
use Rattle.nomos_ir.specs.Name.{IsShortName}
use Rattle.nomos_ir.specs.Naming.{AllDiffer}
use Rattle.nomos_ir.specs.declared.word.Word.TheVariants as word
use Rattle.nomos_surface.specs.TreeBounds.{KeepsPar, KeepsChanPar, KeepsPars}
use Rattle.nomos_surface.specs.Grammatical.{Each}
use Rattle.nomos_surface.specs.declared.declarations.ListPotential.{ListPotential}
use Rattle.nomos_surface.specs.declared.declarations.ProcessPar.{ProcessPar}
use Rattle.nomos_surface.specs.declared.declarations.ValuePar.{ValuePar}
use Rattle.nomos_surface.specs.declared.name_at.NameAt.{NameAt}
use Rattle.nomos_surface.specs.Tree.{ChanParTree, ParTrees}

-- the names that are bound
abbrev bound_names : Scope → Names
bound_names scope = map (λ b. b.0) scope

-- a name that is not bound is not among them
unbound_is_out : (scope : Scope) (n : List ℕ) → is_unbound (sort_of scope n) ≡ true
    → is_among (bound_names scope) n ≡ false
unbound_is_out [] n h = refl
unbound_is_out (b ∷ scope) n h = by (bytes_eq b.0 n) refl (unbound_is_out scope n)
  where
    by : (t : Bool) → bytes_eq b.0 n ≡ t
        → (is_unbound (sort_of scope n) ≡ true → is_among (bound_names scope) n ≡ false)
        → is_among (bound_names (b ∷ scope)) n ≡ false
    by true e ih = absurd (let k = rw e at h in cc)
    by false e ih = let k = rw e at h in rw e (ih k)

-- what is bound is seen
bind-seen : (scope : Scope) (n : NameAt) (s : Sort) → bound_names (bind scope n s) ≡ seen (bound_names scope) n.name
bind-seen [] n s = refl
bind-seen (b ∷ scope) n s = by (bytes_eq b.0 n.name) refl (bind-seen scope n s)
  where
    behind : (t : Bool) (names : Names)
        → b.0 ∷ (if t then names else names ++ n.name ∷ []) ≡ (if t then b.0 ∷ names else b.0 ∷ names ++ n.name ∷ [])
    behind true names = refl
    behind false names = refl

    by : (t : Bool) → bytes_eq b.0 n.name ≡ t → bound_names (bind scope n s) ≡ seen (bound_names scope) n.name
        → bound_names (bind (b ∷ scope) n s) ≡ seen (bound_names (b ∷ scope)) n.name
    by true e ih = rw e refl
    by false e ih = rw (e, ih) (behind (is_among (bound_names scope) n.name) (bound_names scope))

-- a binder's name is new, and so are the names that are new once it is bound
bound-new : (scope : Scope) (n : NameAt) (s : Sort) (more : List NameClaim) (names : Names)
    → AllHold (new_on_way scope n ∷ more) → AreNew (bound_names (bind scope n s)) names
    → AreNew (bound_names scope) (n.name ∷ names)
bound-new scope n s more names h rest =
    let out = unbound_is_out scope n.name (first_holds (new_on_way scope n) more h) in
    (out, subst (λ before. AreNew before names) (bind-seen scope n s) rest)

-- the names of parameters, in order of text
abbrev pub value_names : List ValuePar → Names
value_names pars = map (λ p. p.name.name) pars

abbrev pub process_names : List ProcessPar → Names
process_names pars = map (λ p. p.name.name) pars

abbrev pub channel_names : List ChanParTree → Names
channel_names pars = map (λ p. p.name.name) pars

values-new : (scope : Scope) (pars : List ValuePar) → AllHold (value_pars_claims scope pars)
    → AreNew (bound_names scope) (value_names pars)
values-new scope [] h = tt
values-new scope (p ∷ pars) h =
    let inner = bind scope p.name sort.Value in
    let more = value_pars_claims inner pars in
    let rest = rest_hold (new_on_way scope p.name) more h in
    bound-new scope p.name sort.Value more (value_names pars) h (values-new inner pars rest)

channels-new : (types : Names) (scope : Scope) (pars : List ChanParTree) → AllHold (chan_pars_claims types scope pars)
    → AreNew (bound_names scope) (channel_names pars)
channels-new types scope [] h = tt
channels-new types scope (p ∷ pars) h =
    let inner = bind scope p.name sort.Channel in
    let first = type_claims types p.goes in
    let more = chan_pars_claims types inner pars in
    let rest = right_hold first more (rest_hold (new_on_way scope p.name) (first ++ more) h) in
    bound-new scope p.name sort.Channel (first ++ more) (channel_names pars) h (channels-new types inner pars rest)

-- the values and lists first, and then the channels
pars-new : (types : Names) (scope : Scope) (values : List ProcessPar) (channels : List ChanParTree)
    → AllHold (process_pars_claims scope values ++ chan_pars_claims types (process_pars_scope scope values) channels)
    → AreNew (bound_names scope) (process_names values ++ channel_names channels)
pars-new types scope [] channels h = channels-new types scope channels h
pars-new types scope (p ∷ values) channels h =
    let inner = bind scope p.name (par_sort p.list) in
    let behind = chan_pars_claims types (process_pars_scope inner values) channels in
    let more = process_pars_claims inner values ++ behind in
    let rest = rest_hold (new_on_way scope p.name) more h in
    bound-new scope p.name (par_sort p.list) more (process_names values ++ channel_names channels) h
    (pars-new types inner values channels rest)

-- while parameters are built, each variable keeps its number
values-grow : (s : Built) (pars : List ValuePar) → Grows s.variables (build_value_pars s pars).0.variables
values-grow s [] = Grows-same s.variables
values-grow s (p ∷ pars) = Grows-then (Grows-seen s.variables p.name.name) (values-grow (with_variable s p.name) pars)

par-variables : (s : Built) (q : Option ListPotential) → (par_amount s q).0.variables ≡ s.variables
par-variables s None = refl
par-variables s (Some q) = amount-variables s q.potential.quantity

-- one name is seen, and then something is built that has no variables
seen-grows : (s : Built) (n : NameAt) (t : Built) → t.variables ≡ (with_variable s n).variables
    → Grows (with_variable s n).variables t.variables
seen-grows s n t e = subst (Grows (with_variable s n).variables) (sym e) (Grows-same (with_variable s n).variables)

process_par-grows : (s : Built) (p : ProcessPar)
    → Grows (with_variable s p.name).variables (par_amount (with_variable s p.name) p.list).0.variables
process_par-grows s p =
    let bound = with_variable s p.name in
    seen-grows s p.name (par_amount bound p.list).0 (par-variables bound p.list)

chan_par-grows : (types : Names) (s : Built) (p : ChanParTree)
    → Grows (with_variable s p.name).variables (build_type types (with_variable s p.name) p.goes).0.variables
chan_par-grows types s p =
    let bound = with_variable s p.name in
    seen-grows s p.name (build_type types bound p.goes).0 (type-variables types bound p.goes)

process_pars-grow : (s : Built) (pars : List ProcessPar) → Grows s.variables (build_process_pars s pars).0.variables
process_pars-grow s [] = Grows-same s.variables
process_pars-grow s (p ∷ pars) =
    Grows-then (Grows-then (Grows-seen s.variables p.name.name) (process_par-grows s p))
    (process_pars-grow (par_amount (with_variable s p.name) p.list).0 pars)

chan_pars-grow : (types : Names) (s : Built) (pars : List ChanParTree)
    → Grows s.variables (build_chan_pars types s pars).0.variables
chan_pars-grow types s [] = Grows-same s.variables
chan_pars-grow types s (p ∷ pars) =
    Grows-then (Grows-then (Grows-seen s.variables p.name.name) (chan_par-grows types s p))
    (chan_pars-grow types (build_type types (with_variable s p.name) p.goes).0 pars)

-- the variables of parameters are the numbers of their names
values-numbered : (s : Built) (pars : List ValuePar)
    → (let built = build_value_pars s pars in
    Numbered built.0.variables (map (λ par. par.0.0) built.1) (value_names pars))
values-numbered s [] = none
values-numbered s (p ∷ pars) =
    Numbered-seen s.variables p.name.name (values-grow (with_variable s p.name) pars)
    (values-numbered (with_variable s p.name) pars)

process_pars-numbered : (s : Built) (pars : List ProcessPar)
    → (let built = build_process_pars s pars in
    Numbered built.0.variables (map (λ par. par.var.0) built.1) (process_names pars))
process_pars-numbered s [] = none
process_pars-numbered s (p ∷ pars) =
    let first = (par_amount (with_variable s p.name) p.list).0 in
    Numbered-seen s.variables p.name.name (Grows-then (process_par-grows s p) (process_pars-grow first pars))
    (process_pars-numbered first pars)

chan_pars-numbered : (types : Names) (s : Built) (pars : List ChanParTree)
    → (let built = build_chan_pars types s pars in
    Numbered built.0.variables (map (λ par. par.0.0) built.1) (channel_names pars))
chan_pars-numbered types s [] = none
chan_pars-numbered types s (p ∷ pars) =
    let first = (build_type types (with_variable s p.name) p.goes).0 in
    Numbered-seen s.variables p.name.name (Grows-then (chan_par-grows types s p) (chan_pars-grow types first pars))
    (chan_pars-numbered types first pars)

-- the variables of a function's parameters differ
pub value_pars-differ : (s : Built) (pars : List ValuePar) → AllHold (value_pars_claims [] pars)
    → AllDiffer (map (λ par. par.0.0) (build_value_pars s pars).1)
value_pars-differ s pars h =
    Numbered-differ (values-numbered s pars) (new-differ [] (value_names pars) (values-new [] pars h))

-- the names of a process's parameters
abbrev pub par_names : ParTrees → Names
par_names pars = process_names pars.values ++ channel_names pars.channels

-- the variables of a process's parameters
abbrev pub par_variables : Names → Built → ParTrees → List ℕ
par_variables types s pars =
    let values = build_process_pars s pars.values in
    map (λ par. par.var.0) values.1 ++ map (λ par. par.0.0) (build_chan_pars types values.0 pars.channels).1

abbrev pub pars_built : Names → Built → ParTrees → Built
pars_built types s pars = (build_chan_pars types (build_process_pars s pars.values).0 pars.channels).0

pars-numbered : (types : Names) (s : Built) (pars : ParTrees)
    → Numbered (pars_built types s pars).variables (par_variables types s pars) (par_names pars)
pars-numbered types s pars =
    let values = (build_process_pars s pars.values).0 in
    Numbered-append
    (Numbered-grows (chan_pars-grow types values pars.channels) (process_pars-numbered s pars.values))
    (chan_pars-numbered types values pars.channels)

par_names-differ : (types : Names) (pars : ParTrees) → AllHold (pars_claims types pars)
    → AllNamesDiffer (par_names pars)
par_names-differ types pars h = new-differ [] (par_names pars) (pars-new types [] pars.values pars.channels h)

-- they differ
pub pars-differ : (types : Names) (s : Built) (pars : ParTrees) → AllHold (pars_claims types pars)
    → AllDiffer (par_variables types s pars)
pars-differ types s pars h = Numbered-differ (pars-numbered types s pars) (par_names-differ types pars h)

-- a name is not `me`, which is reserved
not_me : (n : List ℕ) → IsShortName n → codes "me" ≢ n
not_me n short same = short.name.free (word.Me, same)

values-not_me : (pars : List ProcessPar) → Each KeepsPar pars → All (λ n. codes "me" ≢ n) (process_names pars)
values-not_me [] keeps = All-nil (λ n. codes "me" ≢ n)
values-not_me (p ∷ pars) keeps =
    All-cons (λ n. codes "me" ≢ n) p.name.name (process_names pars) (not_me p.name.name keeps.0.0)
    (values-not_me pars keeps.1)

channels-not_me : (pars : List ChanParTree) → Each KeepsChanPar pars → All (λ n. codes "me" ≢ n) (channel_names pars)
channels-not_me [] keeps = All-nil (λ n. codes "me" ≢ n)
channels-not_me (p ∷ pars) keeps =
    All-cons (λ n. codes "me" ≢ n) p.name.name (channel_names pars) (not_me p.name.name keeps.0.0)
    (channels-not_me pars keeps.1)

-- the variables of a transaction's parameters differ, and its payer from each of them
pub payer-differs : (types : Names) (s : Built) (pars : ParTrees) → AllHold (pars_claims types pars) → KeepsPars pars
    → AllDiffer (number_of (with_payer s).variables (codes "me") ∷ par_variables types (with_payer s) pars)
payer-differs types s pars h keeps =
    let payer = with_payer s in
    let values = (build_process_pars payer pars.values).0 in
    let grows = Grows-then (process_pars-grow payer pars.values) (chan_pars-grow types values pars.channels) in
    Numbered-differ
    (Numbered-seen s.variables (codes "me") grows (pars-numbered types payer pars))
    (AllPairs-cons (λ m n. m ≢ n) (codes "me") (par_names pars)
    (All-append (λ n. codes "me" ≢ n) (process_names pars.values) (channel_names pars.channels)
    (values-not_me pars.values keeps.0) (channels-not_me pars.channels keeps.1))
    (par_names-differ types pars h))
