-- Sources and sinks over memory, with calls that are to fail.
use Rattle.std.specs.Prelude.{ℕ, ◌-◌, ◌==◌, ◌||◌, ◌&&◌, nat_lt, nat_le, min, Bool, List, length, if◌then◌else◌}
use Rattle.std.specs.List.{list_any}
use Rattle.nomos_base.specs.Faults.{last_count, next_count}
use Rattle.nomos_base.specs.declared.source.Got.{Got}
use Rattle.nomos_base.specs.declared.source.Got.TheVariants.{Got as got_bytes, End, Failed as read_failed}
use Rattle.nomos_base.specs.declared.sink.Put.{Put}
use Rattle.nomos_base.specs.declared.sink.Put.TheVariants.{Wrote, Failed as write_failed}

-- which calls fail: how many there were, the numbers of those that are to fail, and how many failed
pub record Plan : Type 0 where
  pub calls : ℕ
  pub failing : List ℕ
  pub faults : ℕ

-- no calls yet
abbrev pub fresh_plan : List ℕ → Plan
fresh_plan failing = record { calls = 0; failing = failing; faults = 0 }

-- whether the next call is to fail; once the counter of calls stands at its last value, none is
abbrev pub fails_next : Plan → Bool
fails_next plan =
    nat_lt (next_count plan.calls) last_count &&
    list_any (λ number. number == next_count plan.calls) plan.failing

-- the plan after one more call, which failed or did not
abbrev pub after_call : Plan → Bool → Plan
after_call plan failed = record {
  calls = next_count plan.calls;
  failing = plan.failing;
  faults = if failed then next_count plan.faults else plan.faults;
}

-- a source over memory: the bytes that are left, the most that one call gives, and which calls fail
pub record Supply : Type 0 where
  pub left : List ℕ
  pub piece : ℕ
  pub plan : Plan

-- what a read gets that may get `most` bytes and does not fail
abbrev pub piece_of : List ℕ → ℕ → Got
piece_of left most = if length left == 0 then End else got_bytes (min most (length left))

-- what the next read into `space` bytes gets
abbrev pub next_read : Supply → ℕ → Got
next_read supply space =
    if fails_next supply.plan then read_failed else piece_of supply.left (min space supply.piece)

-- a sink over memory: the bytes written, its room, the most that one call takes, and which calls fail
pub record Store : Type 0 where
  pub written : List ℕ
  pub room : ℕ
  pub piece : ℕ
  pub plan : Plan

-- whether the next write fails: it is to fail, or no room is left
abbrev pub write_fails : Store → Bool
write_fails store = fails_next store.plan || nat_le store.room (length store.written)

-- what the next write of `count` bytes does
abbrev pub next_write : Store → ℕ → Put
next_write store count =
    if write_fails store then write_failed
    else Wrote (min count (min store.piece (store.room - length store.written)))
