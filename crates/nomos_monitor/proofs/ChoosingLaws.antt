-- The declaration with which a talk is opened.
use Rattle.std.proofs.Common.{◌≡◌, ◌∙◌, ◌↔◌, ◌≤◌, ◌<◌, ◌+◌, ℕ, Bool, false, IsTrue, List, [], length, Option, Some, None, slice_get, slice_index, sym, subst, ap, arith, inl, inr}
use Rattle.std.specs.Option.{IfSome}
use Rattle.std.proofs.lemmas.Bool.{cases_lt, false≢true}
use Rattle.nomos_ir.proofs.NodeLaws.{All-at}
use Rattle.std.proofs.lemmas.Option.{get_or_from_slice_get, slice_get-get_or, slice_get_within}
use Rattle.nomos_ir.specs.Ids.{ProcInRange}
use Rattle.nomos_ir.specs.declared.declaration.ProcDecl.{ProcDecl}
use Rattle.nomos_ir.specs.declared.ids.TypeId.{TypeId}
use Rattle.nomos_ir.specs.declared.lists.ProgramLists.{ProgramLists}
use Rattle.nomos_ir.specs.declared.mode.Mode.TheVariants as mode
use Rattle.nomos_types.specs.Acceptance.{Acceptance, IsAccepted}
use Rattle.nomos_types.specs.Amount.{dths}
use Rattle.nomos_machine.specs.Opening.{IsOpenerNamed}
use Rattle.nomos_machine.specs.State.{State}
use Rattle.nomos_equality.specs.Carriers.{CarriesChannel, CarriesNothing}
use Rattle.nomos_monitor.specs.TalkOpening.{CanOpenBy, HasOpener, IsTalkRefused, no_account, no_process, carries, no_gas}
use Rattle.nomos_monitor.specs.declared.talk_refusal.TalkRefusal.TheVariants as refusal

one-declaration : {d e : ProcDecl} → Some d ≡ Some e → d ≡ e
one-declaration is = cc

-- ---- the one that is sought

abbrev pub OpensBy : ProcDecl → List ℕ → Type 0
OpensBy d name = (d.name ≡ name) × (d.mode ≡ mode.R) × (d.values ≡ []) × (d.channels ≡ [])

module _ (a : Acceptance) (name : List ℕ) (number : ℕ) (d : ProcDecl)
    (declared : slice_get a.program.procs number ≡ Some d)
    (here : Bool) (opens : IsTrue here ↔ OpensBy d name) where
  pub not-opener : here ≡ false → (e : ProcDecl) → IsOpenerNamed a name number e → ⊥
  not-opener fails e is =
      let same = one-declaration (sym is.opener.declared ∙ declared) in
      let its : OpensBy e name = (is.named, is.opener.at_r, is.opener.no_values, is.opener.no_channels) in
      false≢true (sym fails ∙ opens.1 (subst (λ (x : ProcDecl). OpensBy x name) same its))

-- where none is below a number and none is there, none is below the next one
pub none-further : (a : Acceptance) (name : List ℕ) (at : ℕ)
    → ((number : ℕ) (d : ProcDecl) → number < at → IsOpenerNamed a name number d → ⊥)
    → ((d : ProcDecl) → IsOpenerNamed a name at d → ⊥) → (number : ℕ) (d : ProcDecl) → number < at + 1
    → IsOpenerNamed a name number d → ⊥
none-further a name at before here number d less is =
    elim (cases_lt number at) [
      | inl below ↦ before number d below is
      | inr least ↦
          let same : number ≡ at = omega (arith, least, less) in
          here d (subst (λ (n : ℕ). IsOpenerNamed a name n d) same is)
    ]

pub none-at_all : (a : Acceptance) (name : List ℕ) (at : ℕ) → length a.program.procs ≤ at
    → ((number : ℕ) (d : ProcDecl) → number < at → IsOpenerNamed a name number d → ⊥)
    → (number : ℕ) (d : ProcDecl) → IsOpenerNamed a name number d → ⊥
none-at_all a name at all before number d is =
    let within = slice_get_within a.program.procs number d is.opener.declared in
    before number d (omega (arith, within, all)) is

-- ---- why none is taken

module _ {a : Acceptance} {s : State} {name : List ℕ} {account : ℕ} where
  pub no-account : slice_get s.balances account ≡ None → IsTalkRefused a s name account refusal.NoAccount
  no-account none =
      elim (cases_lt account (length s.balances)) [
        | inl less ↦
            let there : Some (slice_index s.balances account) ≡ None =
            sym (slice_get-get_or s.balances account 0 less) ∙ none in
            absurd cc
        | inr least ↦ no_account least
      ]

  module _ (has : ℕ) (there : slice_get s.balances account ≡ Some has) where
    pub no-process : ((number : ℕ) (d : ProcDecl) → IsOpenerNamed a name number d → ⊥)
        → IsTalkRefused a s name account refusal.NoProcess
    no-process none = no_process (slice_get_within s.balances account has there) none

    has-opener : (number : ℕ) (d : ProcDecl) → IsOpenerNamed a name number d → HasOpener a s name account number d
    has-opener number d is = record { its_account = slice_get_within s.balances account has there; opener = is }

    module _ (number : ℕ) (d : ProcDecl) (is : IsOpenerNamed a name number d) where
      pub it-carries : CarriesChannel a.program d.offers → IsTalkRefused a s name account refusal.Carries
      it-carries carried = carries number d (has-opener number d is) carried

      pub too-little : CarriesNothing a.program d.offers → (needs : ℕ) → needs ≡ dths a.annotations d.amount
          → has < needs → IsTalkRefused a s name account (refusal.NoGas has needs)
      too-little alone needs bound less =
          let balance : slice_index s.balances account ≡ has = get_or_from_slice_get s.balances account has 0 there in
          let few : slice_index s.balances account < dths a.annotations d.amount =
          omega (arith, balance, bound, less) in
          subst (λ (n : ℕ). IsTalkRefused a s name account (refusal.NoGas n needs)) balance
          (subst (λ (n : ℕ). IsTalkRefused a s name account (refusal.NoGas (slice_index s.balances account) n))
          (sym bound)
          (no_gas number d (has-opener number d is) alone few))

      pub can-by : CarriesNothing a.program d.offers → (needs : ℕ) → needs ≡ dths a.annotations d.amount → needs ≤ has
          → s.outside ≡ [] → CanOpenBy a s name account number
      can-by alone needs bound enough nobody =
          let balance : slice_index s.balances account ≡ has = get_or_from_slice_get s.balances account has 0 there in
          record {
            can = record {
              declaration = d;
              opener = is.opener;
              nobody = nobody;
              its_account = slice_get_within s.balances account has there;
              has = omega (arith, balance, bound, enough);
            };
            named = is.named;
            alone = alone;
          }

-- the declaration that is read is the one that was found
pub read-opener : {a : Acceptance} {name : List ℕ} {number : ℕ} {lists : ProgramLists} {e : ProcDecl}
    → lists ≡ a.program → ((d : ProcDecl) × IsOpenerNamed a name number d) → slice_get lists.procs number ≡ Some e
    → IsOpenerNamed a name number e
read-opener {a} {name} {number} {lists} {e} same found read =
    subst (λ (d : ProcDecl). IsOpenerNamed a name number d)
    (one-declaration (sym found.1.opener.declared
    ∙ ap (λ (l : ProgramLists). slice_get l.procs number) (sym same) ∙ read))
    found.1

-- the type that it offers is one of the program's
pub type-in_range : {a : Acceptance} {name : List ℕ} {number : ℕ} {d : ProcDecl} → IsAccepted a
    → IsOpenerNamed a name number d → d.offers.0 < length a.program.types
type-in_range {a} {number = number} {d = d} accepted is =
    (All-at (ProcInRange a.program) a.program.procs number d accepted.is_program.ids.procs is.opener.declared).offers

-- where no channel is found none is sent
pub nothing-carried : (a : Acceptance) {lists : ProgramLists} → lists ≡ a.program → (t : TypeId) (found : Bool)
    → (IsTrue found ↔ CarriesChannel lists t) → found ≡ false → CarriesNothing a.program t
nothing-carried a {lists} same t found tells none carried =
    false≢true (sym none ∙ tells.1 (subst (λ (l : ProgramLists). CarriesChannel l t) (sym same) carried))

-- its declared potential, as it is read
pub bound-is : {a : Acceptance} {name : List ℕ} {number : ℕ} {d : ProcDecl} → IsOpenerNamed a name number d
    → (bound : ℕ) → IfSome (slice_get a.program.procs number) (λ e. bound ≡ dths a.annotations e.amount)
    → bound ≡ dths a.annotations d.amount
bound-is {a} is bound told =
    subst (λ (o : Option ProcDecl). IfSome o (λ e. bound ≡ dths a.annotations e.amount)) is.opener.declared told
