-- A talk that is opened, as the small changes that it is made of.
use Rattle.std.proofs.Common.{◌≡◌, ◌∙◌, ℕ, List, [], ◌∷◌, ◌++◌, Some, slice_get, sym, ap, refl, arith, append-nil}
use Rattle.nomos_ir.specs.declared.declaration.ProcDecl.{ProcDecl}
use Rattle.nomos_ir.specs.declared.ids.TypeId.{TypeId}
use Rattle.nomos_types.specs.Acceptance.{Acceptance}
use Rattle.nomos_types.specs.Amount.{dths}
use Rattle.nomos_machine.specs.Change.{made, paid_out, tidied}
use Rattle.nomos_machine.specs.Given.{Given, begins}
use Rattle.nomos_machine.specs.Opening.{CanOpen, OpensTalk, opened_talk, opens_talk}
use Rattle.nomos_machine.specs.State.{State}
use Rattle.nomos_machine.specs.declared.object.Process.{Process}
use Rattle.nomos_changes.specs.Beginnings.{with_come}
use Rattle.nomos_changes.proofs.MadeLemmas.{one-some, same-state}

-- ---- the name goes outside, and is taken back

-- nobody is outside again
pub back-inside : (s : State) → s.outside ≡ [] → record s { outside = [] } ≡ s
back-inside s none =
    same-state (record s { outside = [] }) s refl refl refl refl refl refl refl (sym none)

-- a name went outside, and then a process came
pub gone-outside : (s t u : State) (name account dths : ℕ) (child : Process) (offers : TypeId) → s.outside ≡ []
    → t ≡ record s { outside = s.outside ++ name ∷ [] }
    → u ≡ tidied (with_come (record t { balances = paid_out (Some (account, dths)) t.balances }) child offers)
    → u ≡ tidied (with_come (record s {
      balances = paid_out (Some (account, dths)) s.balances;
      outside = name ∷ [];
    }) child offers)
gone-outside s t u name account dths child offers none is after =
    after
    ∙ ap (λ (t : State). tidied (with_come (record t { balances = paid_out (Some (account, dths)) t.balances })
    child offers)) is
    ∙ ap (λ (names : List ℕ). tidied (with_come (record s {
      balances = paid_out (Some (account, dths)) s.balances;
      outside = names ++ name ∷ [];
    }) child offers)) none

-- ---- the whole

abbrev nothing : Given
nothing = record { values = []; lists = []; channels = [] }

abbrev parts_of : Given → Given
parts_of g = record { values = g.values; lists = g.lists; channels = g.channels }

-- nothing is given, in each of its parts
pub nothing-given : (g : Given) → g.values ≡ [] → g.lists ≡ [] → g.channels ≡ [] → g ≡ nothing
nothing-given g its_values its_lists its_channels =
    let parts : parts_of g ≡ nothing = cc in
    parts

module _ (a : Acceptance) (s : State) (number account : ℕ) (can : CanOpen a s number account) where
  abbrev d : ProcDecl
  d = can.declaration

  abbrev gas : ProcDecl → ℕ
  gas e = dths a.annotations e.amount

  abbrev child : Process
  child = begins d nothing s.next_object s.next_name (gas d) account

  -- the account paid so much, and this name is outside
  abbrev speaking : State → ℕ → ℕ → ℕ → State
  speaking t payer paid name = record t {
    balances = paid_out (Some (payer, paid)) t.balances;
    outside = name ∷ [];
  }

  -- the process comes, the account pays, and its name is outside
  opening-made : tidied (with_come (speaking s account (gas d) s.next_name) child d.offers) ≡ opened_talk a s d account
  opening-made =
      ap tidied (same-state (with_come (speaking s account (gas d) s.next_name) child d.offers)
      (made s (opens_talk a s d [] [] account))
      refl refl refl refl refl (omega arith) (sym (append-nil s.results))
      (sym (ap (λ (names : List ℕ). names ++ s.next_name ∷ []) can.nobody)))

  -- the same, where these are what was found
  pub opening-opens : (t u : State) (e : ProcDecl) (g : Given) (born : Process) (paid potential : ℕ) → t ≡ s
      → slice_get a.program.procs number ≡ Some e → g ≡ nothing → potential ≡ gas e → paid ≡ potential
      → born ≡ begins e g t.next_object t.next_name potential account
      → u ≡ tidied (with_come (speaking t born.payer paid born.offers) born e.offers)
      → OpensTalk a s number account u
  opening-opens t u e g born paid potential same declared none bound cast is after =
      let same_d : e ≡ d = one-some e d (sym declared ∙ can.opener.declared) in
      let child_is : born ≡ child =
      is
      ∙ ap (λ (t : State). begins e g t.next_object t.next_name potential account) same
      ∙ ap (λ (g : Given). begins e g s.next_object s.next_name potential account) none
      ∙ ap (λ (potential : ℕ). begins e nothing s.next_object s.next_name potential account) bound
      ∙ ap (λ (e : ProcDecl). begins e nothing s.next_object s.next_name (gas e) account) same_d
      in
      let becomes : u ≡ opened_talk a s d account =
      after
      ∙ ap (λ (t : State). tidied (with_come (speaking t born.payer paid born.offers) born e.offers)) same
      ∙ ap (λ (born : Process). tidied (with_come (speaking s born.payer paid born.offers) born e.offers)) child_is
      ∙ ap (λ (paid : ℕ). tidied (with_come (speaking s account paid s.next_name) child e.offers)) (cast ∙ bound)
      ∙ ap (λ (e : ProcDecl). tidied (with_come (speaking s account (gas e) s.next_name) child e.offers)) same_d
      ∙ opening-made
      in
      record { can = can; after = becomes }
