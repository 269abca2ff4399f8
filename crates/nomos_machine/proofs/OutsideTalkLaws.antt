-- Whatever is said, heard and fired along a talk of an outside party: the state stays typed, all gas is there, and the
-- party has a name until the end was heard, and none from then on.
use Rattle.std.proofs.Common.{◌≡◌, ◌∙◌, ◌||◌, ℕ, Bool, true, false, List, [], ◌∷◌, length, Option, Some, None, IsSome, refl, sym, subst, ap, arith}
use Rattle.std.proofs.lemmas.List.{length-map}
use Rattle.nomos_ir.specs.declared.ids.TypeId.{TypeId}
use Rattle.nomos_ir.specs.declared.mode.Mode.TheVariants as mode
use Rattle.nomos_ir.specs.declared.type_node.TypeNode.{TypeNode}
use Rattle.nomos_types.specs.Acceptance.{Acceptance, IsAccepted}
use Rattle.nomos_types.specs.Modes.{HasMode}
use Rattle.nomos_types.proofs.OccurrenceLaws.{contains-found, counted}
use Rattle.nomos_machine.specs.Change.{changed}
use Rattle.nomos_machine.specs.Hearing.{Hears, heard_names, heard_of, hears}
use Rattle.nomos_machine.specs.Opening.{OpensTalk, opened_talk, opens_talk, outside_name}
use Rattle.nomos_machine.specs.Optional.{◌>>=◌}
use Rattle.nomos_machine.specs.OutsideTalk.{HasOutsideParty, IsOutsideBy, TalksTo, is_closed, done, says as then_says, hears as then_hears, fires as then_fires}
use Rattle.nomos_machine.specs.Revised.{renamed}
use Rattle.nomos_machine.specs.Run.{run}
use Rattle.nomos_machine.specs.Saying.{Says, brought, says}
use Rattle.nomos_machine.specs.State.{State, NameTypes, type_of, gas_of}
use Rattle.nomos_machine.specs.Step.{step}
use Rattle.nomos_machine.specs.TypedMessage.{Brings, GoesOnAt, MessageTyped, own_label, other_label, own_channel, other_channel, own_value, other_value, own_potential, other_potential, end}
use Rattle.nomos_machine.specs.TypedState.{IsTyped}
use Rattle.nomos_machine.specs.Wrong.{Wrong}
use Rattle.nomos_machine.specs.declared.object.Heard.{Heard}
use Rattle.nomos_machine.specs.declared.object.Heard.TheVariants as heard
use Rattle.nomos_machine.specs.declared.object.Payload.{Payload}
use Rattle.nomos_machine.specs.declared.object.Said.{Said}
use Rattle.nomos_machine.proofs.ContractLaws.{KeepsContracts, step-keeps_contracts}
use Rattle.nomos_machine.proofs.HearingLaws.{message-read_outside, heard_message-typed, heard-carries_none, heard-typed, heard-gas, heard-none, heard-fewer, heard-keeps_contracts, heard-accounts}
use Rattle.nomos_machine.proofs.LifeLaws.{KeepsTypes, changed-keeps_types, step-keeps_types, types-same, types-through}
use Rattle.nomos_machine.proofs.NotWrongLaws.{typed-not_wrong}
use Rattle.nomos_machine.proofs.OpeningLaws.{opens-typed, opens-gas, opens-outside, opens-keeps_contracts, opens-accounts}
use Rattle.nomos_machine.proofs.OutsideLaws.{step-outside}
use Rattle.nomos_machine.proofs.PreservationLaws.{step-keeps}
use Rattle.nomos_machine.proofs.RunLaws.{run-rises}
use Rattle.nomos_machine.proofs.SayingLaws.{said-typed, said-gas, said-outside, said-keeps_contracts, said-accounts}

-- ---- what is heard tells whether there is a next name

-- where a talk is closed there is none, and elsewhere one
abbrev pub NextBy : Bool → Option ℕ → Type 0
NextBy true next = next ≡ None
NextBy false next = IsSome next

module _ (a : Acceptance) (types : NameTypes) where
  abbrev GoesOn : Option ℕ → Option TypeId → Type 0
  GoesOn next goes = GoesOnAt a.program a.annotations types next goes

  some-next : (what other : Heard) (t : TypeId) → Some other ≡ Some what → is_closed other ≡ false
      → (next : Option ℕ) → GoesOn next (Some t) → NextBy (is_closed what) next
  some-next what other t is stays None on = absurd on
  some-next what other t is stays (Some k) on =
      let same : other ≡ what = cc in
      subst (λ (b : Bool). NextBy b (Some k)) (sym stays ∙ ap is_closed same) refl

  no-next : (what : Heard) → Some heard.Closed ≡ Some what → (next : Option ℕ) → GoesOn next None
      → NextBy (is_closed what) next
  no-next what is (Some k) on = absurd on
  no-next what is None on =
      let same : heard.Closed ≡ what = cc in
      subst (λ (b : Bool). NextBy b None) (ap is_closed same) refl

  pub next-told : {way : Bool} {head : TypeNode} {p : Payload} {gas : ℕ} {goes : Option TypeId} (what : Heard)
      → Brings a.program a.annotations types way head p gas goes → heard_of p gas ≡ Some what
      → (next : Option ℕ) → GoesOn next goes → NextBy (is_closed what) next
  next-told what (own_label bs l t found) is next on = some-next what (heard.Label l) t is refl next on
  next-told what (other_label bs l t found) is next on = some-next what (heard.Label l) t is refl next on
  next-told what (own_channel sent t n of) is next on = absurd cc
  next-told what (other_channel sent t n of) is next on = absurd cc
  next-told what (own_value kind t v has) is next on = some-next what (heard.Value v) t is refl next on
  next-told what (other_value kind t v has) is next on = some-next what (heard.Value v) t is refl next on
  next-told {gas = gas} what (own_potential r t) is next on = some-next what (heard.Paid gas) t is refl next on
  next-told {gas = gas} what (other_potential r t) is next on = some-next what (heard.Paid gas) t is refl next on
  next-told what end is next on = no-next what is next on

-- ---- how many names are outside, one after another

as-before : (closed : Bool) (s t u : State) → length t.outside ≡ length s.outside → IsOutsideBy closed t u
    → IsOutsideBy closed s u
as-before true s t u same ends = ends
as-before false s t u same ends = ends ∙ same

empty-by : (names : List ℕ) → length names ≡ 0 → names ≡ []
empty-by [] is = refl
empty-by (n ∷ names) is = absurd (omega (arith, is))

after-end : (closed : Bool) (t u : State) → t.outside ≡ [] → IsOutsideBy closed t u → u.outside ≡ []
after-end true t u none ends = ends
after-end false t u none ends = empty-by u.outside (ends ∙ ap (λ (ns : List ℕ). length ns) none)

heard-before : (now closed : Bool) (s t u : State) → IsOutsideBy now s t → IsOutsideBy closed t u
    → IsOutsideBy (now || closed) s u
heard-before true closed s t u first further = after-end closed t u first further
heard-before false closed s t u first further = as-before closed s t u first further

-- ---- what one saying, one hearing and one firing make of it

-- There is an outside party again, all gas is there, names of contracts are what they were, and no name that was taken
-- has another type.
pub record GoesOnOutside (a : Acceptance) (account : ℕ) (s t : State) : Type 0 where
  pub has : HasOutsideParty a t account
  pub gas : gas_of t ≡ gas_of s
  pub contracts : KeepsContracts a s t
  pub types : KeepsTypes s t

goes-through : {a : Acceptance} {account : ℕ} (s u t : State) → GoesOnOutside a account s u
    → GoesOnOutside a account u t → GoesOnOutside a account s t
goes-through s u t first rest = record {
  has = rest.has;
  gas = rest.gas ∙ first.gas;
  contracts = λ name own found at_s. rest.contracts name own (first.contracts name own found at_s) at_s;
  types = types-through s u t first.types rest.types;
}

-- a run is firings of a talk, which may then go on
pub run-talks : {a : Acceptance} (account : ℕ) (closed : Bool) (s t u : State) (pids : List ℕ) → run a s pids ≡ Some t
    → TalksTo a account closed t u → TalksTo a account closed s u
run-talks {a} account closed s t u [] is further =
    let same : s ≡ t = cc in
    subst (λ (v : State). TalksTo a account closed v u) (sym same) further
run-talks {a} account closed s t u (pid ∷ pids) is further =
    at (step a s pid) refl is (λ v rest. run-talks account closed v t u pids rest further)
  where
    at : (o : Option State) → step a s pid ≡ o → (o >>= λ next. run a next pids) ≡ Some t
        → ((v : State) → run a v pids ≡ Some t → TalksTo a account closed v u) → TalksTo a account closed s u
    at (Some v) steps runs rest = then_fires closed s v u pid steps (rest v runs)
    at None steps runs rest = absurd cc

-- the outside name has a type, of mode R
pub outside-typed : {a : Acceptance} {s : State} → IsTyped a s → (name : ℕ) → outside_name s ≡ Some name
    → (t : TypeId) × (type_of s.types name ≡ Some t) × HasMode a.program t mode.R
outside-typed {a} {s} typed name is =
    typed.outside name (counted name s.outside (contains-found s.outside 0 name is))

module _ {a : Acceptance} (accepted : IsAccepted a) {account : ℕ} where
  goes-to : (s t u : State) → u ≡ t → GoesOnOutside a account s t → GoesOnOutside a account s u
  goes-to s t u is goes = subst (λ (v : State). GoesOnOutside a account s v) (sym is) goes

  -- where a talk was opened there is one
  pub opens-party : {s t : State} → IsTyped a s → (number : ℕ) → OpensTalk a s number account t
      → GoesOnOutside a account s t
  opens-party {s} {t} typed number h =
      let after : State = opened_talk a s h.can.declaration account in
      goes-to s after t h.after (record {
        has = record {
          typed = opens-typed accepted typed number account h.can;
          few = omega (arith, ap (λ (ns : List ℕ). length ns) (opens-outside accepted typed number account h.can));
          its_account = omega (arith, opens-accounts accepted typed number account h.can, h.can.its_account);
        };
        gas = opens-gas accepted typed number account h.can;
        contracts = opens-keeps_contracts accepted typed number account h.can;
        types = changed-keeps_types s (opens_talk a s h.can.declaration [] [] account);
      })

  pub says-party : (s t : State) (what : Said) → HasOutsideParty a s account → Says a s account what t
      → GoesOnOutside a account s t
  says-party s t what party h =
      let typed = party.typed in
      let after : State = changed s (says s h.may.name (brought what) h.goes account h.gas) in
      goes-to s after t h.after (record {
        has = record {
          typed = said-typed accepted typed what h.gas h.goes h.may account;
          few = omega (arith, said-outside accepted typed what h.gas h.goes h.may account, party.few);
          its_account = omega (
            arith,
            said-accounts accepted typed what h.gas h.goes h.may account,
            party.its_account,
          );
        };
        gas = said-gas accepted typed what h.gas h.goes h.may account h.has;
        contracts = said-keeps_contracts accepted typed what h.gas h.goes h.may account;
        types = changed-keeps_types s (says s h.may.name (brought what) h.goes account h.gas);
      })

  pub hears-party : (s t : State) (what : Heard) → HasOutsideParty a s account → Hears s account what t
      → GoesOnOutside a account s t
  hears-party s t what party h =
      let typed = party.typed in
      let m = h.message in
      let reads = message-read_outside s m h.there in
      let silent = heard-carries_none m.payload m.purse what h.is in
      let after : State = changed s (hears s m account) in
      goes-to s after t h.after (record {
        has = record {
          typed = heard-typed accepted typed m reads silent account;
          few = heard-fewer accepted typed m reads silent account party.few;
          its_account = omega (arith, heard-accounts accepted typed m reads silent account, party.its_account);
        };
        gas = heard-gas accepted typed m reads silent account party.its_account;
        contracts = heard-keeps_contracts accepted typed m reads silent account;
        types = changed-keeps_types s (hears s m account);
      })

  pub fires-party : (s t : State) (pid : ℕ) → HasOutsideParty a s account → step a s pid ≡ Some t
      → GoesOnOutside a account s t
  fires-party s t pid party steps =
      let keeps = step-keeps accepted party.typed pid t steps in
      let rises = run-rises accepted s t (pid ∷ []) party.typed
      (ap (λ (o : Option State). o >>= λ next. Some next) steps) in
      record {
        has = record {
          typed = keeps.typed;
          few = omega (arith, step-outside a s t pid steps, party.few);
          its_account = omega (arith, rises.accounts, party.its_account);
        };
        gas = keeps.gas;
        contracts = step-keeps_contracts accepted party.typed pid t steps;
        types = step-keeps_types a s t pid steps;
      }

  -- the end was heard where nobody is outside any more
  pub hears-ends : (s t : State) (what : Heard) → HasOutsideParty a s account → Hears s account what t
      → IsOutsideBy (is_closed what) s t
  hears-ends s t what party h =
      let typed = party.typed in
      let m = h.message in
      let reads = message-read_outside s m h.there in
      let silent = heard-carries_none m.payload m.purse what h.is in
      let message : MessageTyped a s.types m = heard_message-typed accepted typed m reads silent account in
      subst (λ (u : State). IsOutsideBy (is_closed what) s u) (sym h.after)
      (by_end (is_closed what) m.next refl (next-told a s.types what message.brings h.is m.next message.next))
    where
      by_end : (closed : Bool) (next : Option ℕ) → h.message.next ≡ next → NextBy closed next
          → IsOutsideBy closed s (changed s (hears s h.message account))
      by_end true next is none =
          heard-none accepted party.typed h.message (message-read_outside s h.message h.there)
          (heard-carries_none h.message.payload h.message.purse what h.is) account party.few (is ∙ none)
      by_end false (Some k) is some =
          ap (λ (o : Option ℕ). length (heard_names h.message.from o s.outside)) is
          ∙ length-map s.outside (renamed h.message.from k)
      by_end false None is some = absurd cc

  -- ---- the whole

  -- whatever is said, heard and fired, in any order
  pub talk-goes_on : (closed : Bool) (s t : State) → HasOutsideParty a s account → TalksTo a account closed s t
      → GoesOnOutside a account s t
  talk-goes_on _ s _ party (done _) = record {
    has = party;
    gas = refl;
    contracts = λ name own found at_s. found;
    types = types-same s;
  }
  talk-goes_on closed s u party (then_says _ _ t _ what h rest) =
      let first = says-party s t what party h in
      goes-through s t u first (talk-goes_on closed t u first.has rest)
  talk-goes_on _ s u party (then_hears closed _ t _ what h rest) =
      let first = hears-party s t what party h in
      goes-through s t u first (talk-goes_on closed t u first.has rest)
  talk-goes_on closed s u party (then_fires _ _ t _ pid steps rest) =
      let first = fires-party s t pid party steps in
      goes-through s t u first (talk-goes_on closed t u first.has rest)

  -- so it never goes wrong
  pub talk-not_wrong : (closed : Bool) (s t : State) → HasOutsideParty a s account → TalksTo a account closed s t
      → ¬ (Wrong a t)
  talk-not_wrong closed s t party calls = typed-not_wrong accepted (talk-goes_on closed s t party calls).has.typed

  -- until the end was heard as many names are outside as were, and from then on none is
  pub talk-ends : (closed : Bool) (s t : State) → HasOutsideParty a s account → TalksTo a account closed s t
      → IsOutsideBy closed s t
  talk-ends _ s _ party (done _) = refl
  talk-ends closed s u party (then_says _ _ t _ what h rest) =
      let first = says-party s t what party h in
      let same : length t.outside ≡ length s.outside =
      subst (λ (v : State). length v.outside ≡ length s.outside) (sym h.after)
      (said-outside accepted party.typed what h.gas h.goes h.may account) in
      as-before closed s t u same (talk-ends closed t u first.has rest)
  talk-ends _ s u party (then_hears closed _ t _ what h rest) =
      let first = hears-party s t what party h in
      heard-before (is_closed what) closed s t u (hears-ends s t what party h) (talk-ends closed t u first.has rest)
  talk-ends closed s u party (then_fires _ _ t _ pid steps rest) =
      let first = fires-party s t pid party steps in
      as-before closed s t u (step-outside a s t pid steps) (talk-ends closed t u first.has rest)
