-- A mirror of the code: what stands before anything is gathered.
use Rattle.std.specs.Prelude.{◌≡◌, [], None}
use Rattle.nomos_check.specs.declared.code_walk.CodeWalk.{CodeWalk}

-- nothing was gathered, and nothing is left to do
pub record IsFresh (w : CodeWalk) : Type 0 where
  pub forms : w.forms.items ≡ []
  pub pairs : w.asked.pairs.items ≡ []
  pub stuck : w.stuck ≡ None
  pub todo : w.todo ≡ []
  pub places : w.places.items ≡ []
  pub potentials : w.potentials.items ≡ []
