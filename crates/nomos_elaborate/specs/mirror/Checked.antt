-- A mirror of how the code ends: with a value, or at the first name that breaks a rule. No promise stands on it.
use Rattle.std.specs.Prelude.{◌≡◌, ℕ, Result, Ok, Err, if◌then◌else◌}
use Rattle.nomos_elaborate.specs.NameClaim.{NameClaim}
use Rattle.nomos_elaborate.specs.declared.elab_error.ElabError.{ElabError}
use Rattle.nomos_elaborate.specs.declared.elab_error.ElabError.TheVariants as stop

pub data Checked (A : Type 0) : Type 0 where
  found : (value : A) → Checked A
  broken : (at : ℕ) → Checked A

infixl 10 ◌>>=◌
abbrev pub ◌>>=◌ : {A B : Type 0} → Checked A → (A → Checked B) → Checked B
found x >>= f = f x
broken at >>= f = broken at

-- nothing, where the claim holds
abbrev pub demand : NameClaim → Checked (Unit {0})
demand c = if c.holds then found tt else broken c.at

-- why nothing was returned
abbrev pub Stops : {Y : Type 0} → ElabError → Checked Y → Type 0
Stops (stop.Name at) checked = checked ≡ broken at
Stops (stop.Cost at) checked = ⊥
Stops stop.NoMemory checked = Unit {0}

-- What a function returned, seen by view, is what was checked, unless memory ran out.
abbrev pub Gives : {X Y : Type 0} → (X → Y) → Result X ElabError → Checked Y → Type 0
Gives view (Ok x) checked = checked ≡ found (view x)
Gives view (Err e) checked = Stops e checked
