-- Firings of the lowest ready process, one after another.
use Rattle.std.proofs.Common.{◌≡◌, ◌+◌, ◌<◌, ◌^◌, ◌++◌, ◌∷◌, [], ℕ, List, length, refl, sym, subst, arith, length-append}
use Rattle.nomos_types.specs.Acceptance.{Acceptance, IsAccepted}
use Rattle.nomos_machine.specs.Policies.{IsRunOf}
use Rattle.nomos_machine.specs.Policies as policies
use Rattle.nomos_machine.specs.State.{State}
use Rattle.nomos_machine.specs.TypedState.{IsTyped}
use Rattle.nomos_machine.specs.declared.policy.Policy.TheVariants as policy
use Rattle.nomos_machine.proofs.PolicyLaws.{follows-push, follows-run}
use Rattle.nomos_machine.proofs.RunLaws.{run-rises}
use Rattle.nomos_deeds.specs.Acting.{HasNumbers}
use Rattle.nomos_deeds.specs.Firings.{Fires}
use Rattle.nomos_deeds.specs.declared.fire.Fire.{Fire}
use Rattle.nomos_deeds.specs.declared.fire.Fire.TheVariants as fire
use Rattle.nomos_monitor.specs.Talks.{FiresLowest, IsTalk}
use Rattle.nomos_monitor.proofs.TalkingLaws.{fires-talk}

-- so many firings of the lowest ready process lead from the one state to the other
pub record HasFired (a : Acceptance) (made : ℕ) (s t : State) : Type 0 where
  pub pids : List ℕ
  pub run : IsRunOf policy.First a s pids t
  pub count : made ≡ length pids

pub fired-none : (a : Acceptance) (s : State) → HasFired a 0 s s
fired-none a s = record {
  pids = [];
  run = record { last = 0; follows = policies.done s 0 };
  count = refl;
}

pub fired-more : {a : Acceptance} {made : ℕ} {s t u : State} → HasFired a made s t → FiresLowest a t u
    → HasFired a (made + 1) s u
fired-more fired more = record {
  pids = fired.pids ++ more.pid ∷ [];
  run = record { last = more.pid; follows = follows-push more.pid fired.run.follows more.chosen more.steps };
  count = omega (arith, fired.count, length-append fired.pids (more.pid ∷ []));
}

-- next numbers grow by one a firing at most
pub fired-numbers : {a : Acceptance} → IsAccepted a → {made limit : ℕ} {s t : State} → IsTyped a s
    → HasFired a made s t → made < limit → s.next_object + limit < 2 ^ 32 → s.next_name + limit < 2 ^ 32 → HasNumbers t
fired-numbers accepted {s = s} {t = t} typed fired few objects names =
    let rises = run-rises accepted s t fired.pids typed (follows-run fired.run.follows) in
    record {
      object = omega (arith, rises.objects, fired.count, few, objects);
      name = omega (arith, rises.names, fired.count, few, names);
    }

-- whatever a firing answers, a talk is one then
pub look-talk : {a : Acceptance} → IsAccepted a → {s t : State} {account : ℕ} (pid : ℕ) (answer : Fire)
    → IsTalk a s account
    → Fires a s pid answer t → IsTalk a t account
look-talk accepted {s} {t} {account} pid fire.Fired talk fires = fires-talk accepted s t pid talk fires
look-talk {a} accepted {account = account} pid (fire.Faulted f) talk fires =
    subst (λ (u : State). IsTalk a u account) (sym fires.1) talk
