-- A mirror of the code: the names with which objects have to do, and how often they may.
use Rattle.std.specs.Prelude.{◌≡◌, ℕ, Bool, true, false, List, map, filter, Option, Some, None, option_and_then, slice_get}
use Rattle.std.specs.List.{flat_map}
use Rattle.nomos_ir.specs.Order.{count_of}
use Rattle.nomos_ir.specs.declared.mode.Mode.{Mode}
use Rattle.nomos_ir.specs.declared.mode.Mode.TheVariants as mode
use Rattle.nomos_machine.specs.Objects.{provided, used, shared_names, mentioned}
use Rattle.nomos_machine.specs.State.{type_of}
use Rattle.nomos_machine.specs.declared.object.Object.{Object}
use Rattle.nomos_typed.specs.declared.tie.Often.{Often}
use Rattle.nomos_typed.specs.declared.tie.Often.TheVariants as often
use Rattle.nomos_typed.specs.declared.tie.Tie.{Tie}
use Rattle.nomos_typed.specs.declared.tie.Tie.TheVariants as tie
use Rattle.nomos_typed.specs.declared.told.Told.{Told}

-- the names with which an object has to do in this way
abbrev pub tied : Tie → Object → List ℕ
tied tie.Provides o = provided o
tied tie.Uses o = used o
tied tie.Shares o = shared_names o
tied tie.Mentions o = mentioned o

-- how often objects may have to do with a name of this mode
abbrev pub times_at : Tie → Mode → Often
times_at tie.Provides mode.S = often.AnyTimes
times_at tie.Provides _ = often.Once
times_at tie.Uses mode.S = often.AnyTimes
times_at tie.Uses mode.T = often.Never
times_at tie.Uses _ = often.Once
times_at tie.Shares mode.S = often.Once
times_at tie.Shares _ = often.AnyTimes
times_at tie.Mentions _ = often.AnyTimes

abbrev pub times_for : Tie → Option Mode → Often
times_for tie (Some m) = times_at tie m
times_for tie None = often.AnyTimes

abbrev pub is_limited : Often → Bool
is_limited often.AnyTimes = false
is_limited _ = true

abbrev pub is_once : Often → Bool
is_once often.Once = true
is_once _ = false

-- it is so many times
abbrev pub IsOften : Often → ℕ → Type 0
IsOften often.Once times = times ≡ 1
IsOften often.Never times = times ≡ 0
IsOften often.AnyTimes times = Unit {0}

-- the mode of a name, where its type is one of the program's
abbrev pub mode_in : Told → ℕ → Option Mode
mode_in told name = option_and_then (λ t. slice_get told.modes.now t.0) (type_of told.types.now name)

abbrev pub limited : Told → Tie → ℕ → Bool
limited told tie name = is_limited (times_for tie (mode_in told name))

abbrev pub once : Told → Tie → ℕ → Bool
once told tie name = is_once (times_for tie (mode_in told name))

-- all names of objects in this way
abbrev pub all_tied : Tie → List Object → List ℕ
all_tied tie objects = flat_map (tied tie) objects

-- of the names that are limited, those that stand once stand as often as they should, and no other does
abbrev pub AreTied : Told → Tie → List Object → Type 0
AreTied told tie objects = (name : ℕ) → count_of name (filter (limited told tie) (all_tied tie objects))
    ≡ count_of name (filter (once told tie) (map (λ t. t.0) told.types.now))
