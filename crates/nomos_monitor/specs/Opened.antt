-- What is answered to one who opens a talk.
use Rattle.std.specs.Prelude.{◌≡◌, ℕ, List, Option, None}
use Rattle.nomos_types.specs.Acceptance.{Acceptance}
use Rattle.nomos_machine.specs.State.{State}
use Rattle.nomos_monitor.specs.TalkOpening.{IsTalkRefused, OpensNamed}
use Rattle.nomos_monitor.specs.declared.outside_talk.TalkOpening.{TalkOpening}
use Rattle.nomos_monitor.specs.declared.talk_refusal.TalkRefusal.{TalkRefusal}
use Rattle.nomos_monitor.specs.declared.outside_talk.TalkOpening.TheVariants as opening

-- A talk of the program and the account, in the state that comes of the opening; or the machine, whose state is as it
-- was and is not marked.
abbrev pub OpensTo : {M : Type 0} → (M → State) → (M → Option State) → Acceptance → State → List ℕ → ℕ → TalkOpening M
    → Type 0
OpensTo state_of marked_of a s proc account (opening.Talk t) =
    (t.a ≡ a) × (t.account ≡ account) × OpensNamed a s proc account t.state
OpensTo state_of marked_of a s proc account (opening.Refused m why) =
    (state_of m ≡ s) × (marked_of m ≡ None) × IsTalkRefused a s proc account why
OpensTo state_of marked_of a s proc account (opening.NoMemory m) = (state_of m ≡ s) × (marked_of m ≡ None)

-- it is refused so, unless memory was wanting
abbrev pub IsRefusedSo : {M : Type 0} → TalkRefusal → TalkOpening M → Type 0
IsRefusedSo why (opening.Talk t) = ⊥
IsRefusedSo why (opening.Refused m other) = other ≡ why
IsRefusedSo why (opening.NoMemory m) = Unit {0}

-- it is opened, and this is the state, unless memory was wanting
abbrev pub IsOpenedSo : {M : Type 0} → State → TalkOpening M → Type 0
IsOpenedSo u (opening.Talk t) = t.state ≡ u
IsOpenedSo u (opening.Refused m why) = ⊥
IsOpenedSo u (opening.NoMemory m) = Unit {0}
