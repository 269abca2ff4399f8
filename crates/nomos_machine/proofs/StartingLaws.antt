-- Starts, accounts and deposits leave a typed state typed, and nothing but a deposit and a new account brings gas.
use Rattle.std.proofs.Common.{◌≡◌, ◌≢◌, ◌⊎◌, ◌∙◌, ◌≤◌, ◌<◌, inl, inr, ℕ, ◌+◌, true, false, List, [], ◌∷◌, ◌++◌, map, length, Option, Some, slice_get, refl, sym, subst, ap, arith, append-nil, length-append, ne_eqb}
use Rattle.std.proofs.lemmas.Bool.{cases_eq}
use Rattle.std.proofs.lemmas.List.Elements.{All-nil, All-cons, All-contains, All-weaker, Contains-append_left}
use Rattle.std.specs.List.Sorted.{IsStrictlySortedBy}
use Rattle.std.specs.Ordering.{nat_cmp}
use Rattle.nomos_ir.specs.Order.{count_of}
use Rattle.nomos_ir.specs.Value.{Value}
use Rattle.nomos_ir.specs.declared.declaration.ProcDecl.{ProcDecl}
use Rattle.nomos_ir.specs.declared.ids.TypeId.{TypeId}
use Rattle.nomos_ir.specs.declared.ids.VarId.{VarId}
use Rattle.nomos_ir.specs.declared.mode.Mode.{Mode}
use Rattle.nomos_ir.specs.declared.mode.Mode.TheVariants as mode
use Rattle.nomos_ir.proofs.SumLaws.{times_bound, count-first}
use Rattle.nomos_types.specs.Acceptance.{Acceptance, IsAccepted}
use Rattle.nomos_types.specs.Amount.{dths}
use Rattle.nomos_types.specs.Modes.{HasMode}
use Rattle.nomos_types.proofs.AlikeLaws.{alike_types-same}
use Rattle.nomos_types.proofs.ModeLaws.{offered-has_mode}
use Rattle.nomos_types.proofs.OccurrenceLaws.{count-append, count-elsewhere, contained, contains-unmap}
use Rattle.nomos_machine.specs.Change.{changed, paid_in, made}
use Rattle.nomos_machine.specs.Given.{Given, begins}
use Rattle.nomos_machine.specs.Matching.{NameHasType}
use Rattle.nomos_machine.specs.Objects.{object_number, used}
use Rattle.nomos_machine.specs.Optional.{◌>>=◌}
use Rattle.nomos_machine.specs.Opening.{opens_talk}
use Rattle.nomos_machine.specs.Sight.{is_shared_name}
use Rattle.nomos_machine.specs.Starting.{GivenFits, CanStart, CanStartWith, opened, credited, cleared, starts, started, value_bindings, channel_bindings, started_with}
use Rattle.nomos_machine.specs.State.{State, NameTypes, empty, gas_of}
use Rattle.nomos_machine.specs.TypedState.{HasVariables, IsOwned, ObjectTyped, IsTyped, IsContractName}
use Rattle.nomos_machine.specs.declared.object.Object.{Object}
use Rattle.nomos_machine.specs.declared.object.Object.TheVariants as object
use Rattle.nomos_machine.specs.declared.object.Process.{Process}
use Rattle.nomos_machine.proofs.BeginLaws.{given-kept, begins-start, begins-typed, begins-variables, begun-uses}
use Rattle.nomos_machine.proofs.BirthLaws.{uses_at, IsBirth, birth-fits, shared-shown, next-unshown}
use Rattle.nomos_machine.proofs.ChangeLaws.{done}
use Rattle.nomos_machine.proofs.FitLaws.{Fits, changed-typed}
use Rattle.nomos_machine.proofs.GasLaws.{KeepsGas, paid_in-length, gas-changed}
use Rattle.nomos_machine.proofs.OwnedLaws.{next-not_outside}
use Rattle.nomos_machine.proofs.PlacedLaws.{leads-more}
use Rattle.nomos_machine.proofs.NameLaws.{type_of-added, type_of-kept}

-- a process at mode S or T has no base, and its name no user
line-not_l : (m : Mode) → (m ≡ mode.S) ⊎ (m ≡ mode.T) → m ≢ mode.L
line-not_l m (inl at_s) at_l = absurd cc
line-not_l m (inr at_t) at_l = absurd cc

line-unused : (m : Mode) → (m ≡ mode.S) ⊎ (m ≡ mode.T) → uses_at m ≡ 0
line-unused m (inl at_s) = ap uses_at at_s
line-unused m (inr at_t) = ap uses_at at_t

module _ {a : Acceptance} (accepted : IsAccepted a) {s : State} (typed : IsTyped a s) (number : ℕ) {d : ProcDecl}
    (declared : slice_get a.program.procs number ≡ Some d) {values : List (VarId × Value)}
    {channels : List (VarId × ℕ)} {payer : ℕ} (can : CanStart a s d values channels payer) where
  abbrev line : Given
  line = record { values = values; lists = []; channels = channels }

  abbrev gas : ℕ
  gas = dths a.annotations d.amount

  abbrev child : Process
  child = begins d line s.next_object s.next_name gas payer

  abbrev after : State
  after = made s (starts a s d values channels payer)

  offered-mode : HasMode a.program d.offers d.mode
  offered-mode = offered-has_mode a.program number d declared

  -- a name that is not shared is none of the line's
  unused : (name : ℕ) → is_shared_name a.program s.types name ≡ false → times_bound name channels ≡ 0
  unused name unshared =
      elim (cases_eq (times_bound name channels) 0) [
        | inl none ↦ none
        | inr some ↦
            let (e, there, same) = contains-unmap (λ (b : VarId × ℕ). b.1) channels name
            (contained name (map (λ (b : VarId × ℕ). b.1) channels) (omega arith)) in
            let contract = All-contains (λ (b : VarId × ℕ). IsContractName a s b.1) channels e can.contracts there in
            let shared = shared-shown accepted s.types e.1 contract.own contract.found contract.mode in
            let unshown : is_shared_name a.program s.types e.1 ≡ false =
            ap (is_shared_name a.program s.types) same ∙ unshared
            in
            absurd (differ (sym shared ∙ unshown))
      ]
    where
      differ : true ≡ false → ⊥
      differ equal = cc

  child-uses : (name : ℕ) → is_shared_name a.program s.types name ≡ false
      → count_of name (used (object.Process child)) ≡ 0
  child-uses name unshared =
      begun-uses accepted number declared can.fits child
      (begins-start accepted number declared can.fits s.next_object s.next_name gas payer) name
      ∙ unused name unshared

  started-offers : NameHasType a.program a.annotations after.types s.next_name d.offers
  started-offers = record {
    own = d.offers;
    found = type_of-added s.types s.next_name d.offers typed.numbered.names;
    alike = alike_types-same a.annotations accepted.typed.formed.program accepted.typed.formed.contractive offered-mode;
  }

  started-given : GivenFits a after.types d line
  started-given =
      given-kept s.types after.types (λ name t found. type_of-kept s.types ((s.next_name, d.offers) ∷ []) name t found)
      can.fits

  -- What the name that comes has for a user outside is what its mode wants, and no other name goes out or comes in.
  record SuitsOutside (outside : List ℕ) : Type 0 where
    not_l : d.mode ≢ mode.L
    next : d.mode ≢ mode.S → count_of s.next_name outside ≡ uses_at d.mode
    next_at_r : d.mode ≢ mode.R → count_of s.next_name outside ≡ 0
    others : (name : ℕ) → name ≢ s.next_name → count_of name outside ≡ count_of name s.outside

  line-birth : (outside : List ℕ) → SuitsOutside outside → IsBirth a s outside [] [] child d.offers (Some (payer, gas))
  line-birth outside suits = record {
    replaces = done s.objects;
    numbered = refl;
    offers = refl;
    at = offered-mode;
    not_l = suits.not_l;
    provides = λ name. refl;
    stands = λ name. refl;
    uses = λ name other unshared. omega (arith, child-uses name unshared);
    uses_next = λ not_s.
        omega (arith, child-uses s.next_name (next-unshown typed), suits.next not_s);
    outside_others = suits.others;
    outside_next = suits.next_at_r;
    leads = λ base name leads. leads-more s.objects after.objects
        (λ o there. Contains-append_left s.objects (object.Process child ∷ []) o there) base name leads;
    variables = All-cons HasVariables (object.Process child) []
        (begins-variables accepted number declared started-given s.next_object s.next_name gas payer
        started-offers) (All-nil HasVariables);
    typed = All-cons (ObjectTyped a after.types (length s.balances)) (object.Process child) []
        (begins-typed accepted number declared started-given s.next_object s.next_name payer started-offers can.account
        suits.not_l) (All-nil (ObjectTyped a after.types (length s.balances)));
  }

  -- a start of a contract or of a transaction
  pub starts-fits : (d.mode ≡ mode.S) ⊎ (d.mode ≡ mode.T) → Fits a s (starts a s d values channels payer)
  starts-fits its_mode =
      birth-fits accepted typed (line-birth s.outside (record {
        not_l = line-not_l d.mode its_mode;
        next = λ not_s. next-not_outside typed ∙ sym (line-unused d.mode its_mode);
        next_at_r = λ not_r. next-not_outside typed;
        others = λ name other. refl;
      }))

  pub started-typed : (d.mode ≡ mode.S) ⊎ (d.mode ≡ mode.T) → IsTyped a (started a s d values channels payer)
  started-typed its_mode = changed-typed a s (starts a s d values channels payer) typed (starts-fits its_mode)

  -- an outside party opens a talk
  pub opens_talk-fits : d.mode ≡ mode.R → Fits a s (opens_talk a s d values channels payer)
  opens_talk-fits at_r =
      let outside = s.outside ++ s.next_name ∷ [] in
      let once : count_of s.next_name outside ≡ 1 =
      let both = count-append s.next_name s.outside (s.next_name ∷ []) in
      omega (arith, both, next-not_outside typed, count-first s.next_name [])
      in
      let same : (name : ℕ) → name ≢ s.next_name → count_of name outside ≡ count_of name s.outside = λ name other.
      let apart : s.next_name ≢ name = λ equal. other (sym equal) in
      let none = count-elsewhere name s.next_name [] (ne_eqb s.next_name name apart) in
      omega (arith, count-append name s.outside (s.next_name ∷ []), none)
      in
      birth-fits accepted typed (line-birth outside (record {
        not_l = λ at_l. r-is_not_l (sym at_r ∙ at_l);
        next = λ not_s. once ∙ sym (ap uses_at at_r);
        next_at_r = λ not_r. absurd (not_r at_r);
        others = same;
      }))
    where
      r-is_not_l : mode.R ≡ mode.L → ⊥
      r-is_not_l equal = cc

  pub opened_talk-typed : d.mode ≡ mode.R → IsTyped a (changed s (opens_talk a s d values channels payer))
  opened_talk-typed at_r = changed-typed a s (opens_talk a s d values channels payer) typed (opens_talk-fits at_r)

  pub starts-keeps_gas : KeepsGas s (starts a s d values channels payer) []
  starts-keeps_gas = record { gives = (can.account, can.has); gets = tt; even = omega arith }

  pub opens_talk-keeps_gas : KeepsGas s (opens_talk a s d values channels payer) []
  opens_talk-keeps_gas = record { gives = (can.account, can.has); gets = tt; even = omega arith }

  pub gas-started : gas_of (started a s d values channels payer) ≡ gas_of s
  gas-started = gas-changed s (starts a s d values channels payer) [] (done s.objects) starts-keeps_gas

-- ---- starts by number

module _ {a : Acceptance} {s : State} {number : ℕ} {values : List Value} {names : List ℕ} {payer : ℕ}
    (can : CanStartWith a s number values names payer) where
  -- the state after a start that can be made
  abbrev pub after_start : State
  after_start =
      started a s can.declaration (value_bindings can.declaration values) (channel_bindings can.declaration names) payer

  pub starts-with : started_with a s number values names payer ≡ Some after_start
  starts-with =
      ap (λ (o : Option ProcDecl). o >>= λ d.
      Some (started a s d (value_bindings d values) (channel_bindings d names) payer)) can.declared

  -- it is typed, and has the gas that there was
  pub started_with-typed : IsAccepted a → IsTyped a s → IsTyped a after_start
  started_with-typed accepted typed = started-typed accepted typed number can.declared can.can can.its_mode

  pub gas-started_with : IsAccepted a → IsTyped a s → gas_of after_start ≡ gas_of s
  gas-started_with accepted typed = gas-started accepted typed number can.declared can.can

-- ---- accounts, deposits and results

module _ {a : Acceptance} {s : State} (typed : IsTyped a s) (balances : List ℕ) (spent : ℕ) (results : List (ℕ × Value))
    (enough : length s.balances ≤ length balances) where
  -- the same objects and names, with at least as many accounts
  abbrev with_accounts : State
  with_accounts = record s { balances = balances; spent = spent; results = results }

  accounts-each : (o : Object) → ObjectTyped a s.types (length s.balances) o → ObjectTyped a s.types (length balances) o
  accounts-each (object.Process p) t = record {
    place = t.place;
    is_place = t.is_place;
    matches = t.matches;
    covered = t.covered;
    derives = t.derives;
    payer = omega (arith, t.payer);
    offered = t.offered;
    has_base = t.has_base;
  }
  accounts-each (object.Message m) t = t

  accounts-owned : (m : Mode) (name : ℕ) → IsOwned m s name → IsOwned m with_accounts name
  accounts-owned mode.R name owned = owned
  accounts-owned mode.S name owned = owned
  accounts-owned mode.L name owned = owned
  accounts-owned mode.T name owned = owned

  accounts-typed : IsTyped a with_accounts
  accounts-typed = record {
    numbered = record {
      ascending = typed.numbered.ascending;
      over = typed.numbered.over;
      below = typed.numbered.below;
      next = typed.numbered.next;
      table = typed.numbered.table;
      names = typed.numbered.names;
      typed = typed.numbered.typed;
      variables = typed.numbered.variables;
    };
    owned = λ name t m found at. accounts-owned m name (typed.owned name t m found at);
    outside = typed.outside;
    each = All-weaker (ObjectTyped a s.types (length s.balances)) (ObjectTyped a s.types (length balances))
        accounts-each s.objects typed.each;
    sections = λ name t found at_l.
        let section = typed.sections name t found at_l in
        record {
          base = section.base;
          leads = section.leads;
          shared = section.shared;
          found = section.found;
          synchronizing = section.synchronizing;
        };
  }

-- a new account
pub opened-typed : {a : Acceptance} {s : State} → IsTyped a s → (gas : ℕ) → IsTyped a (opened s gas)
opened-typed {a} {s} typed gas =
    accounts-typed typed (s.balances ++ gas ∷ []) s.spent s.results
    (omega (arith, length-append s.balances (gas ∷ [])))

no-more : (n : ℕ) → n + 0 ≡ n
no-more n = omega arith

-- a deposit changes balances alone
credited-as : (s : State) (account gas : ℕ)
    → credited s account gas ≡ record s { balances = paid_in (Some (account, gas)) s.balances }
credited-as s account gas =
    let c = credited s account gas in
    let paid = c.balances in
    ap (λ (os : List Object). record c { objects = os }) (append-nil s.objects)
    ∙ ap (λ (n : ℕ). record c { objects = s.objects; next_object = n }) (no-more s.next_object)
    ∙ ap (λ (n : ℕ). record c { objects = s.objects; next_object = s.next_object; next_name = n }) (no-more s.next_name)
    ∙ ap (λ (ts : NameTypes). record s { balances = paid; types = ts; spent = c.spent; results = c.results })
    (append-nil s.types)
    ∙ ap (λ (n : ℕ). record s { balances = paid; spent = n; results = c.results }) (no-more s.spent)
    ∙ ap (λ (rs : List (ℕ × Value)). record s { balances = paid; results = rs }) (append-nil s.results)

pub credited-typed : {a : Acceptance} {s : State} → IsTyped a s → (account gas : ℕ) → IsTyped a (credited s account gas)
credited-typed {a} {s} typed account gas =
    subst (IsTyped a) (sym (credited-as s account gas))
    (accounts-typed typed (paid_in (Some (account, gas)) s.balances) s.spent s.results
    (omega (arith, paid_in-length (Some (account, gas)) s.balances)))

-- nothing emitted is kept
pub cleared-typed : {a : Acceptance} {s : State} → IsTyped a s → IsTyped a (cleared s)
cleared-typed {a} {s} typed = accounts-typed typed s.balances s.spent [] (omega arith)

-- nothing is in order
pub no-order : IsStrictlySortedBy nat_cmp []
unfolding IsStrictlySortedBy
no-order = tt

-- nothing is there
pub empty-typed : (a : Acceptance) → IsTyped a empty
empty-typed a = record {
  numbered = record {
    ascending = no-order;
    over = All-nil (λ o. 0 < object_number o);
    below = All-nil (λ o. object_number o < 1);
    next = omega arith;
    table = no-order;
    names = All-nil (λ (t : ℕ × TypeId). t.0 < 1);
    typed = λ name. (λ some. absurd cc, λ some. absurd (omega (arith, some)));
    variables = All-nil HasVariables;
  };
  owned = λ name t m found at. absurd cc;
  outside = λ name some. absurd (omega (arith, some));
  each = All-nil (ObjectTyped a [] 0);
  sections = λ name t found at_l. absurd cc;
}
