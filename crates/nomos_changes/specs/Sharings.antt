-- What becomes of two processes where one acquires the other, or releases it.
use Rattle.std.specs.Prelude.{ℕ, Some, None}
use Rattle.nomos_ir.specs.declared.mode.Mode.TheVariants as mode
use Rattle.nomos_deeds.specs.declared.act.Acquire.{Acquire}
use Rattle.nomos_deeds.specs.declared.act.Release.{Release}
use Rattle.nomos_machine.specs.Revised.{standing_at, with_channel, without_channel}
use Rattle.nomos_machine.specs.State.{State}
use Rattle.nomos_machine.specs.declared.object.Process.{Process}
use Rattle.nomos_changes.specs.SmallChanges.{with_name, with_process}

-- two processes became others
abbrev pub with_two : State → ℕ → Process → ℕ → Process → State
with_two s n p k q = with_process k q (with_process n p s)

-- how the process goes on that acquires under this name, and the one that it acquires
abbrev pub acquiring : Acquire → ℕ → Process → Process
acquiring acquire name p = standing_at acquire.next (with_channel acquire.variable name p)

abbrev pub provides_linear : Acquire → ℕ → Process → Process
provides_linear acquire name q = record q {
  mode = mode.L;
  code = acquire.onward;
  offers = name;
  base = Some acquire.shared;
}

abbrev pub acquired : Acquire → State → ℕ → Process → Process → State
acquired acquire s n p q =
    with_two (with_name acquire.goes s) n (acquiring acquire s.next_name p) acquire.other
    (provides_linear acquire s.next_name q)

-- how the process goes on that releases, and the one that it releases
abbrev pub releasing : Release → Process → Process
releasing release p =
    standing_at release.next (with_channel release.reference release.shared (without_channel release.variable p))

abbrev pub provides_shared : Release → Process → Process
provides_shared release q = record q {
  mode = mode.S;
  code = release.onward;
  offers = release.shared;
  base = None;
}

abbrev pub released : Release → State → ℕ → Process → Process → State
released release s n p q = with_two s n (releasing release p) release.other (provides_shared release q)
