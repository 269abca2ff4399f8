-- What an outside party opens, says and hears, as a set of the processes that may be ready is told of it.
use Rattle.std.proofs.Common.{◌≡◌, ◌∙◌, inl, inr, ℕ, false, List, [], ◌∷◌, ◌++◌, Contains, Option, Some, None, refl, sym, subst, arith}
use Rattle.std.proofs.lemmas.List.Elements.{All-contains, All-contains_itself, All-nil, Contains-append_cases, Contains-append_left}
use Rattle.nomos_types.specs.Acceptance.{Acceptance, IsAccepted}
use Rattle.nomos_types.specs.Amount.{dths}
use Rattle.nomos_machine.specs.Change.{put_at}
use Rattle.nomos_machine.specs.Given.{Given, begins}
use Rattle.nomos_machine.specs.Hearing.{AnswersHearing, Hears}
use Rattle.nomos_machine.specs.Opening.{OpensTalk, outside_name}
use Rattle.nomos_machine.specs.Saying.{Says, brought}
use Rattle.nomos_machine.specs.Sight.{offering}
use Rattle.nomos_machine.specs.State.{State}
use Rattle.nomos_machine.specs.TypedState.{IsTyped}
use Rattle.nomos_machine.specs.declared.object.Heard.{Heard}
use Rattle.nomos_machine.specs.declared.object.Message.{Message}
use Rattle.nomos_machine.specs.declared.object.Object.{Object}
use Rattle.nomos_machine.specs.declared.object.Object.TheVariants as object
use Rattle.nomos_machine.specs.declared.object.Process.{Process}
use Rattle.nomos_machine.specs.declared.object.Said.{Said}
use Rattle.nomos_machine.proofs.ApartLaws.{numbers-differ}
use Rattle.nomos_machine.proofs.GoesLaws.{process-typed}
use Rattle.nomos_machine.proofs.NameLaws.{type_of-below}
use Rattle.nomos_machine.proofs.SectionLaws.{offering-found}
use Rattle.nomos_machine.proofs.PutLaws.{contains-one, put-all, put-kept}
use Rattle.nomos_machine.proofs.HearingLaws.{message-read_outside}
use Rattle.nomos_ready.specs.ProcessesCome.{HasGrown, IsNewIn}
use Rattle.nomos_ready.specs.Covering.{Covers}
use Rattle.nomos_ready.specs.declared.awake.Awake.{Awake}
use Rattle.nomos_ready.proofs.CoverLaws.{spoken-covers}
use Rattle.nomos_monitor.specs.Watching.{IsWatched}
use Rattle.nomos_ready.specs.Woken.{IsSpokenTo, IsSpoken}

-- ---- what is said

-- a message came to the provider of the name
pub says-spoken : {a : Acceptance} {s t : State} {account : ℕ} {what : Said} → (h : Says a s account what t)
    → IsSpokenTo h.may.name s t
says-spoken {a} {s} {t} {account} {what} h =
    subst (λ (u : State). IsSpokenTo h.may.name s u) (sym h.after) (record {
      processes = λ r there. inl (old r there);
      stays = λ r there. inl (Contains-append_left s.objects (object.Message message ∷ []) (object.Process r) there);
      messages = λ m there.
          elim (Contains-append_cases s.objects (object.Message message ∷ []) (object.Message m) there) [
            | inl before ↦ inl (record { other = m; there = before; way = refl; name = refl })
            | inr came ↦
                let one = contains-one (object.Message message) (object.Message m) came in
                let same : message ≡ m = cc in
                inr (subst (λ (n : Message). IsSpoken h.may.name n.to_client n.from) same (refl, refl))
          ];
    })
  where
    message : Message
    message = record {
      number = s.next_object;
      to_client = false;
      from = h.may.name;
      next = Some s.next_name;
      payload = brought what;
      purse = h.gas;
    }

    old : (r : Process) → Contains (s.objects ++ object.Message message ∷ []) (object.Process r)
        → Contains s.objects (object.Process r)
    old r there =
        elim (Contains-append_cases s.objects (object.Message message ∷ []) (object.Process r) there) [
          | inl before ↦ before
          | inr came ↦
              let one = contains-one (object.Message message) (object.Process r) came in
              absurd cc
        ]

-- the name is the one that is outside
pub said-spoken : {a : Acceptance} {s t : State} {account name : ℕ} {what : Said} → outside_name s ≡ Some name
    → Says a s account what t → IsSpokenTo name s t
said-spoken {s = s} {t = t} outside h =
    subst (λ (n : ℕ). IsSpokenTo n s t) (the-name (sym h.may.outside ∙ outside)) (says-spoken h)
  where
    the-name : {m n : ℕ} → Some m ≡ Some n → m ≡ n
    the-name is = cc

-- ---- what is heard

-- a message left, and nothing came
pub hears-spoken : {a : Acceptance} {s t : State} {account : ℕ} {what : Heard} → IsTyped a s → (name : ℕ)
    → Hears s account what t → IsSpokenTo name s t
hears-spoken {a} {s} {t} {account} {what} typed name h =
    subst (λ (u : State). IsSpokenTo name s u) (sym h.after) (record {
      processes = λ r there. inl (before (object.Process r) (shorter (object.Process r) there));
      stays = λ r there. inl (stays r there);
      messages = λ m there.
          inl (record {
            other = m;
            there = before (object.Message m) (shorter (object.Message m) there);
            way =
                refl;
            name = refl;
          });
    })
  where
    left : List Object
    left = put_at h.message.number None s.objects

    -- nothing comes
    shorter : (o : Object) → Contains (left ++ []) o → Contains left o
    shorter o there =
        elim (Contains-append_cases left [] o there) [
          | inl among ↦ among
          | inr none ↦ absurd (omega (arith, none.1))
        ]

    before : (o : Object) → Contains left o → Contains s.objects o
    before o among =
        All-contains (Contains s.objects) left o
        (put-all (Contains s.objects) h.message.number None s.objects (All-contains_itself s.objects)
        (All-nil (Contains s.objects)))
        among

    stays : (r : Process) → Contains s.objects (object.Process r) → Contains (left ++ []) (object.Process r)
    stays r there =
        Contains-append_left left [] (object.Process r)
        (put-kept h.message.number None (object.Process r) s.objects other there)
      where
        heard : Contains s.objects (object.Message h.message)
        heard = (message-read_outside s h.message h.there).reads.waiting

        other : (r.pid ≡ h.message.number) → ⊥
        other same = numbers-differ s.objects typed.numbered.ascending r h.message there heard same

-- ---- an opening

-- a process came, with a new number and a new name
pub opened-grown : {a : Acceptance} {s t : State} {number account : ℕ} → OpensTalk a s number account t → HasGrown s t
opened-grown {a} {s} {t} {number} {account} h =
    subst (HasGrown s) (sym h.after) (record {
      stays = λ o there. Contains-append_left s.objects (object.Process child ∷ []) o there;
      each = λ o there.
          elim (Contains-append_cases s.objects (object.Process child ∷ []) o there) [
            | inl before ↦ inl before
            | inr came ↦ inr (subst (IsNewIn s) (contains-one (object.Process child) o came) (omega arith, omega arith))
          ];
      objects = omega arith;
      names = omega arith;
    })
  where
    child : Process
    child =
        let g : Given = record { values = []; lists = []; channels = [] } in
        begins h.can.declaration g s.next_object s.next_name (dths a.annotations h.can.declaration.amount) account

-- nobody offers the next name
next-offered : {a : Acceptance} {t : State} → IsTyped a t → (r : Process)
    → offering t.objects t.next_name ≡ Some r → ⊥
next-offered {a} {t} typed r found =
    let (there, offers) = offering-found t.objects t.next_name r found in
    let its = (process-typed typed there).matches.offers in
    let below = type_of-below t.types r.offers t.next_name its.own typed.numbered.names its.found in
    omega (arith, below, offers)

-- what covers a state covers the one after what is heard
pub heard-covers : {a : Acceptance} → IsAccepted a → {s t : State} (account : ℕ) → IsTyped a s → IsTyped a t
    → (heard : Option Heard) → AnswersHearing s account heard t → (w : Awake) → Covers a s w → Covers a t w
heard-covers {a} accepted {s} {t} account typed_s typed_t None answer w covers =
    subst (λ (u : State). Covers a u w) (sym answer.1) covers
heard-covers {a} accepted {s} {t} account typed_s typed_t (Some what) answer w covers =
    spoken-covers accepted typed_s typed_t t.next_name (hears-spoken typed_s t.next_name answer) w w covers
    (record {
      ready = λ q may. may;
      waiting = refl;
      followed = λ name is. is;
      sought = refl;
    })
    (λ r found. absurd (next-offered typed_t r found))

pub heard-watched : {a : Acceptance} → IsAccepted a → {s t : State} (account : ℕ) → IsTyped a s → IsTyped a t
    → (heard : Option Heard) → AnswersHearing s account heard t → (awake : Option Awake) → IsWatched a s awake
    → IsWatched a t awake
heard-watched accepted account typed_s typed_t heard answer None watched = tt
heard-watched accepted account typed_s typed_t heard answer (Some w) watched =
    heard-covers accepted account typed_s typed_t heard answer w watched
