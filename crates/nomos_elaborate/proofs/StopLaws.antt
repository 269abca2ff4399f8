-- How a call ends early, and that a call gives one thing.
use Rattle.std.proofs.Common.{◌≡◌, ap}
use Rattle.nomos_elaborate.specs.declared.elab_error.ElabError.{ElabError}
use Rattle.nomos_elaborate.specs.declared.elab_error.ElabError.TheVariants as stop
use Rattle.nomos_elaborate.specs.mirror.Checked.{Checked, found, Stops, ◌>>=◌}

-- what is given is one thing
pub found_same : {A : Type 0} {x y : A} → found x ≡ found y → x ≡ y
found_same e = cc

-- where nothing is broken, only memory ends a call
pub stops-found : {A B : Type 0} (e : ElabError) (x : A) (y : B) → Stops e (found x) → Stops e (found y)
stops-found (stop.Name at) x y h = cc
stops-found (stop.Cost at) x y h = absurd h
stops-found stop.NoMemory x y h = tt

-- what stops early stops what comes behind it
pub stops-then : {A B : Type 0} (e : ElabError) (c : Checked A) (f : A → Checked B) → Stops e c → Stops e (c >>= f)
stops-then (stop.Name at) c f h = ap (λ d. d >>= f) h
stops-then (stop.Cost at) c f h = absurd h
stops-then stop.NoMemory c f h = tt
