-- A refusal that is no want of memory has a line.
use Rattle.std.proofs.Common.{◌≡◌, ◌≢◌, ℕ, ◌∷◌, ◌++◌, [], refl}
use Rattle.std.specs.Prelude.{codes}
use Rattle.nomos_replay.specs.Refusal.{cause_of, refusal_line}
use Rattle.nomos_replay.specs.declared.error.ReplayError.{ReplayError}
use Rattle.nomos_replay.specs.declared.error.ReplayError.TheVariants as error

pub refused-line : (unit : ℕ) (e : ReplayError) → e ≢ error.NoMemory
    → refusal_line unit e ≡ codes "journal refused " ++ cause_of unit e ++ 10 ∷ []
refused-line unit error.NoMemory differs = absurd (differs refl)
refused-line unit error.TooLong differs = refl
refused-line unit (error.BadLine at) differs = refl
refused-line unit (error.NotEnabled at pid) differs = refl
refused-line unit (error.WrongFiring at pid) differs = refl
refused-line unit (error.WrongEnd at kept found) differs = refl
