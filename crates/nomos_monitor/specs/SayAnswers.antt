-- How a saying is answered.
use Rattle.std.specs.Prelude.{◌≡◌, ◌<◌, ℕ, Result, Ok, Err, slice_index}
use Rattle.nomos_types.specs.Acceptance.{Acceptance}
use Rattle.nomos_machine.specs.Saying.{MayNotSay, MaySayWith, Says}
use Rattle.nomos_machine.specs.State.{State}
use Rattle.nomos_machine.specs.declared.object.Said.{Said}
use Rattle.nomos_monitor.specs.declared.talk_refusal.SayError.{SayError}
use Rattle.nomos_monitor.specs.declared.talk_refusal.SayError.TheVariants as error

-- why it is not said, where memory is found: it may not be; or the account has less than what goes with it
abbrev pub IsUnsaid : Acceptance → State → ℕ → Said → SayError → Type 0
IsUnsaid a s account what error.Protocol = MayNotSay a s what
IsUnsaid a s account what (error.NoGas has needs) =
    MaySayWith a s what needs × (has ≡ slice_index s.balances account) × (has < needs)
IsUnsaid a s account what error.NoMemory = ⊥

-- it is said; or it is not, for one of these reasons or since memory was wanting, and then nothing changes
abbrev pub AnswersSaying : Acceptance → State → ℕ → Said → Result Unit SayError → State → Type 0
AnswersSaying a s account what (Ok done) t = Says a s account what t
AnswersSaying a s account what (Err error.NoMemory) t = t ≡ s
AnswersSaying a s account what (Err why) t = IsUnsaid a s account what why × (t ≡ s)

-- where memory is found, the one answer is the other, and so are the states that are left
abbrev pub IsSameSaying : Result Unit SayError → State → Result Unit SayError → State → Type 0
IsSameSaying (Err error.NoMemory) t other u = Unit {0}
IsSameSaying answer t (Err error.NoMemory) u = Unit {0}
IsSameSaying answer t other u = (answer ≡ other) × (t ≡ u)
