-- The start of a process by a line of a script.
use Rattle.std.proofs.Common.{◌≡◌, ◌∙◌, ℕ, List, [], ◌∷◌, ◌++◌, Option, Some, length, slice_get, sym, ap, subst, refl, arith, append-nil}
use Rattle.std.specs.List.{zip}
use Rattle.nomos_ir.specs.Value.{Value}
use Rattle.nomos_ir.specs.declared.declaration.ProcDecl.{ProcDecl}
use Rattle.nomos_ir.specs.declared.ids.VarId.{VarId}
use Rattle.nomos_types.specs.Acceptance.{Acceptance, IsAccepted}
use Rattle.nomos_types.specs.Amount.{dths}
use Rattle.nomos_machine.specs.Change.{made, paid_out, tidied}
use Rattle.nomos_machine.specs.Given.{Given, begins}
use Rattle.nomos_machine.specs.Optional.{◌>>=◌}
use Rattle.nomos_machine.specs.Starting.{CanStartWith, channel_bindings, started, started_with, starts, value_bindings}
use Rattle.nomos_machine.specs.State.{State}
use Rattle.nomos_machine.specs.TypedState.{IsTyped}
use Rattle.nomos_machine.specs.declared.object.PotentialList.{PotentialList}
use Rattle.nomos_machine.specs.declared.object.Process.{Process}
use Rattle.nomos_machine.proofs.StartingLaws.{after_start, started_with-typed, starts-with}
use Rattle.nomos_changes.specs.Beginnings.{with_come}
use Rattle.nomos_changes.proofs.MadeLemmas.{one-some, same-state}

-- what has no length is empty
pub none-left : {X : Type 0} (xs : List X) → length xs ≡ 0 → xs ≡ []
none-left [] none = refl
none-left (x ∷ xs) none = absurd (omega arith)

-- where one of the lists has nothing left there are no more pairs
zip-none : {X Y : Type 0} (xs : List X) (ys : List Y) → ys ≡ [] → zip xs ys ≡ []
zip-none [] ys none = refl
zip-none (x ∷ xs) [] none = refl
zip-none (x ∷ xs) (y ∷ ys) none = absurd cc

-- and those so far are all
pub all-paired : {X Y : Type 0} (made all : List (X × Y)) (xs : List X) (ys : List Y) → ys ≡ []
    → made ++ zip xs ys ≡ all → made ≡ all
all-paired made all xs ys none so_far =
    sym (append-nil made) ∙ ap (λ rest. made ++ rest) (sym (zip-none xs ys none)) ∙ so_far

abbrev parts_of : List (VarId × Value) → List (VarId × PotentialList) → List (VarId × ℕ) → Given
parts_of values lists channels = record { values = values; lists = lists; channels = channels }

module _ (a : Acceptance) (s : State) (f : ℕ) (d : ProcDecl) (values : List Value) (names : List ℕ) (payer : ℕ) where
  abbrev line : Given
  line = record { values = value_bindings d values; lists = []; channels = channel_bindings d names }

  abbrev gas : ℕ
  gas = dths a.annotations d.amount

  abbrev child : Process
  child = begins d line s.next_object s.next_name gas payer

  abbrev paying : State
  paying = record s { balances = paid_out (Some (payer, gas)) s.balances }

  -- what is given, in each of its parts
  pub line-given : (g : Given) → g.values ≡ line.values → g.lists ≡ line.lists → g.channels ≡ line.channels → g ≡ line
  line-given g its_values its_lists its_channels =
      let parts : parts_of g.values g.lists g.channels ≡ parts_of line.values line.lists line.channels = cc in
      parts

  -- the process comes, and its payer pays
  line-made : tidied (with_come paying child d.offers)
      ≡ started a s d (value_bindings d values) (channel_bindings d names) payer
  line-made =
      ap tidied (same-state (with_come paying child d.offers)
      (made s (starts a s d (value_bindings d values) (channel_bindings d names) payer))
      refl refl refl refl refl (omega arith) (sym (append-nil s.results)) refl)

  -- the same, where these are what was found
  pub line-started : (t u : State) (g : Given) (born : Process) (paid potential : ℕ) → t ≡ s
      → slice_get a.program.procs f ≡ Some d → g ≡ line → potential ≡ gas → paid ≡ potential
      → born ≡ begins d g t.next_object t.next_name potential payer
      → u ≡ tidied (with_come (record t { balances = paid_out (Some (born.payer, paid)) t.balances }) born d.offers)
      → started_with a s f values names payer ≡ Some u
  line-started t u g born paid potential same declared lines bound cast is after =
      let child_is : born ≡ child =
      is
      ∙ ap (λ (t : State). begins d g t.next_object t.next_name potential payer) same
      ∙ ap (λ (g : Given). begins d g s.next_object s.next_name potential payer) lines
      ∙ ap (λ (potential : ℕ). begins d line s.next_object s.next_name potential payer) bound
      in
      let becomes : u ≡ started a s d (value_bindings d values) (channel_bindings d names) payer =
      after
      ∙ ap (λ (t : State). tidied (with_come (record t { balances = paid_out (Some (born.payer, paid)) t.balances })
      born d.offers)) same
      ∙ ap (λ (born : Process). tidied (with_come
      (record s { balances = paid_out (Some (born.payer, paid)) s.balances }) born d.offers)) child_is
      ∙ ap (λ (paid : ℕ). tidied (with_come (record s { balances = paid_out (Some (payer, paid)) s.balances })
      child d.offers)) (cast ∙ bound)
      ∙ line-made
      in
      ap (λ (o : Option ProcDecl). o >>= λ d.
      Some (started a s d (value_bindings d values) (channel_bindings d names) payer)) declared
      ∙ ap Some (sym becomes)

-- a state after a start that can be made is typed
pub line-typed : (a : Acceptance) (s u : State) (f : ℕ) (values : List Value) (names : List ℕ) (payer : ℕ)
    → IsAccepted a → IsTyped a s → CanStartWith a s f values names payer
    → started_with a s f values names payer ≡ Some u → IsTyped a u
line-typed a s u f values names payer accepted typed can is =
    subst (IsTyped a) (one-some (after_start can) u (sym (starts-with can) ∙ is))
    (started_with-typed can accepted typed)
