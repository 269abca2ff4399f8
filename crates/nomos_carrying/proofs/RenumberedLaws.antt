-- Of a ledger that is loaded there is one renumbered ledger.
use Rattle.std.proofs.Common.{◌≡◌, ◌∙◌, ◌≤◌, ◌==◌, ◌++◌, ◌∷◌, [], Bool, true, false, cond, ℕ, List, All, map, find, Option, Some, None, Ok, eq-eqb, refl, ap, sym, arith}
use Rattle.std.specs.Prelude.{IsSome}
use Rattle.std.specs.Option.{option_map, option_to_list}
use Rattle.std.proofs.lemmas.Bool.{eqb-true, false≢true}
use Rattle.std.proofs.lemmas.List.{get_or_default}
use Rattle.std.proofs.lemmas.List.Elements.{All-head, All-tail}
use Rattle.std.proofs.lemmas.List.Sums.{sum_by-append, sum_by-cons}
use Rattle.nomos_ir.specs.Bindings.{each_bound}
use Rattle.nomos_ir.specs.Order.{count_of}
use Rattle.nomos_ir.specs.declared.ids.TypeId.{TypeId}
use Rattle.nomos_ir.specs.declared.ids.VarId.{VarId}
use Rattle.nomos_legal.specs.Ledger.{Contracts, LedgerState}
use Rattle.nomos_legal.specs.StandsFor.{IsSettled}
use Rattle.nomos_machine.specs.Objects.{carried, mentioned, object_number, times, used}
use Rattle.nomos_machine.specs.State.{NameTypes, State, type_of}
use Rattle.nomos_machine.specs.TypedState.{IsContractName}
use Rattle.nomos_machine.specs.declared.object.Object.{Object}
use Rattle.nomos_machine.specs.declared.object.Object.TheVariants as object
use Rattle.nomos_machine.specs.declared.object.Payload.{Payload}
use Rattle.nomos_machine.specs.declared.object.Payload.TheVariants as payload
use Rattle.nomos_snapshot.specs.Loading.{Loads}
use Rattle.nomos_snapshot.proofs.LoadingLaws.{loads-loaded}
use Rattle.nomos_types.specs.Acceptance.{Acceptance, IsAccepted}
use Rattle.nomos_carrying.specs.Renumbered.{IsRenumbered, MakesDense, ledger_by, object_by, payload_by, state_by}

-- ---- numbers that both maps make dense

dense-same : (f h : ℕ → ℕ) (xs : List ℕ) → MakesDense f xs → MakesDense h xs → All (λ n. f n ≡ h n) xs
dense-same f h xs one two k d within =
    let here = get_or_default xs k d 0 within in
    ap f here ∙ one.each k within ∙ sym (two.each k within) ∙ sym (ap h here)

-- ---- names that are mentioned

module _ (g h : ℕ → ℕ) where
  -- both maps take each of these names to one number
  record TakeAlike (ns : List ℕ) : Type 0 where
    each : (n : ℕ) → 1 ≤ count_of n ns → g n ≡ h n

  alike-head : (n : ℕ) (ns : List ℕ) → TakeAlike (n ∷ ns) → g n ≡ h n
  alike-head n ns alike =
      let own : cond {A = ℕ} (n == n) 1 0 ≡ 1 = ap (λ (t : Bool). cond {A = ℕ} t 1 0) (eq-eqb n n refl) in
      alike.each n (omega (arith, own, sum_by-cons (λ (k : ℕ). cond {A = ℕ} (k == n) 1 0) n ns))

  alike-left : (xs ys : List ℕ) → TakeAlike (xs ++ ys) → TakeAlike xs
  alike-left xs ys alike = record {
    each = λ n some. alike.each n (omega (arith, some, sum_by-append (λ (k : ℕ). cond {A = ℕ} (k == n) 1 0) xs ys));
  }

  alike-right : (xs ys : List ℕ) → TakeAlike (xs ++ ys) → TakeAlike ys
  alike-right xs ys alike = record {
    each = λ n some. alike.each n (omega (arith, some, sum_by-append (λ (k : ℕ). cond {A = ℕ} (k == n) 1 0) xs ys));
  }

  alike-option : (o : Option ℕ) → TakeAlike (option_to_list o) → option_map g o ≡ option_map h o
  alike-option (Some n) alike = ap Some (alike-head n [] alike)
  alike-option None alike = refl

  alike-payload : (p : Payload) → TakeAlike (carried p) → payload_by g p ≡ payload_by h p
  alike-payload (payload.Channel n) alike = ap payload.Channel (alike-head n [] alike)
  alike-payload (payload.Label l) alike = refl
  alike-payload (payload.Value v) alike = refl
  alike-payload payload.Pay alike = refl
  alike-payload payload.Close alike = refl

  alike-channels : (cs : List (VarId × ℕ)) → TakeAlike (map (λ (e : VarId × ℕ). e.1) cs)
      → each_bound g cs ≡ each_bound h cs
  alike-channels [] alike = refl
  alike-channels (c ∷ cs) alike =
      let ns : List ℕ = map (λ (e : VarId × ℕ). e.1) cs in
      let rest = alike-channels cs (alike-right (c.1 ∷ []) ns alike) in
      let first = alike-head c.1 ns alike in
      λ i. (c.0, first i) ∷ rest i

  -- the names of a message: that on which it is read, the next one if there is one, and what it brings
  record TakeMessageAlike (read : ℕ) (next : Option ℕ) (brings : List ℕ) : Type 0 where
    read_is : g read ≡ h read
    next_is : option_map g next ≡ option_map h next
    brings_are : TakeAlike brings

  alike-message : (read : ℕ) (next : Option ℕ) (brings : List ℕ) (to_client : Bool)
      → TakeAlike ((cond to_client (read ∷ []) (option_to_list next)
      ++ (cond to_client (option_to_list next) (read ∷ []) ++ brings)) ++ [])
      → TakeMessageAlike read next brings
  alike-message read next brings true alike =
      let behind = option_to_list next ++ brings in
      let all = alike-left (read ∷ behind) [] alike in
      let uses = alike-right (read ∷ []) behind all in
      record {
        read_is = alike-head read behind all;
        next_is = alike-option next (alike-left (option_to_list next) brings uses);
        brings_are = alike-right (option_to_list next) brings uses;
      }
  alike-message read next brings false alike =
      let all = alike-left (option_to_list next ++ (read ∷ brings)) [] alike in
      let uses = alike-right (option_to_list next) (read ∷ brings) all in
      record {
        read_is = alike-head read brings uses;
        next_is = alike-option next (alike-left (option_to_list next) (read ∷ brings) all);
        brings_are = alike-right (read ∷ []) brings uses;
      }

  -- an object whose names both take alike
  alike-object : (f e : ℕ → ℕ) (o : Object) → f (object_number o) ≡ e (object_number o) → TakeAlike (mentioned o)
      → object_by f g o ≡ object_by e h o
  alike-object f e (object.Process p) number alike =
      let behind = alike-right (p.offers ∷ []) (used (object.Process p) ++ option_to_list p.base) alike in
      let channels = alike-channels p.channels
      (alike-left (used (object.Process p)) (option_to_list p.base) behind) in
      let offers = alike-head p.offers (used (object.Process p) ++ option_to_list p.base) alike in
      let base = alike-option p.base (alike-right (used (object.Process p)) (option_to_list p.base) behind) in
      λ i. object.Process (record p { pid = number i; channels = channels i; offers = offers i; base = base i })
  alike-object f e (object.Message m) number alike =
      let names = alike-message m.from m.next (carried m.payload) m.to_client alike in
      let brings = alike-payload m.payload names.brings_are in
      λ i. object.Message (record m {
        number = number i;
        from = names.read_is i;
        next = names.next_is i;
        payload = brings i;
      })

-- all of them
alike-objects : (f e g h : ℕ → ℕ) (os : List Object) → All (λ n. f n ≡ e n) (map object_number os)
    → ((n : ℕ) → 1 ≤ times mentioned os n → g n ≡ h n) → map (object_by f g) os ≡ map (object_by e h) os
alike-objects f e g h [] numbers names = refl
alike-objects f e g h (o ∷ os) numbers names =
    let split = λ (n : ℕ). sum_by-cons (λ (p : Object). count_of n (mentioned p)) o os in
    let first = alike-object g h f e o (All-head (λ n. f n ≡ e n) (object_number o) (map object_number os) numbers)
    (record { each = λ n some. names n (omega (arith, some, split n)) }) in
    let rest = alike-objects f e g h os (All-tail (λ n. f n ≡ e n) (object_number o) (map object_number os) numbers)
    (λ n some. names n (omega (arith, some, split n))) in
    λ i. first i ∷ rest i

-- ---- names that have a type

alike-types : (g h : ℕ → ℕ) (ts : NameTypes) → All (λ n. g n ≡ h n) (map (λ (t : ℕ × TypeId). t.0) ts)
    → map {B = ℕ × TypeId} (λ t. (g t.0, t.1)) ts ≡ map {B = ℕ × TypeId} (λ t. (h t.0, t.1)) ts
alike-types g h [] same = refl
alike-types g h (t ∷ ts) same =
    let names : List ℕ = map (λ (u : ℕ × TypeId). u.0) ts in
    let first = All-head (λ n. g n ≡ h n) t.0 names same in
    let rest = alike-types g h ts (All-tail (λ n. g n ≡ h n) t.0 names same) in
    let at : ℕ → ℕ × TypeId = λ n. (n, t.1) in
    λ i. at (first i) ∷ rest i

alike-typed : (g h : ℕ → ℕ) (ts : NameTypes) → All (λ n. g n ≡ h n) (map (λ (t : ℕ × TypeId). t.0) ts) → (n : ℕ)
    → IsSome (type_of ts n) → g n ≡ h n
alike-typed g h [] same n some = absurd (false≢true some)
alike-typed g h (t ∷ ts) same n some =
    by (t.0 == n) (λ is. eqb-true t.0 n is)
    (alike-typed g h ts (All-tail (λ n. g n ≡ h n) t.0 (map (λ (u : ℕ × TypeId). u.0) ts) same) n) some
  where
    by : (b : Bool) → (b ≡ true → t.0 ≡ n) → (IsSome (type_of ts n) → g n ≡ h n)
        → IsSome (option_map (λ (u : ℕ × TypeId). u.1) (cond b (Some t) (find (λ (u : ℕ × TypeId). u.0 == n) ts)))
        → g n ≡ h n
    by true is rest there =
        let own = is refl in
        ap g (sym own) ∙ All-head (λ n. g n ≡ h n) t.0 (map (λ (u : ℕ × TypeId). u.0) ts) same ∙ ap h own
    by false is rest there = rest there

alike-contracts : (g h : ℕ → ℕ) (a : Acceptance) (s : State) (cs : Contracts) → All (λ c. IsContractName a s c.1) cs
    → ((n : ℕ) → IsSome (type_of s.types n) → g n ≡ h n)
    → map {B = List ℕ × ℕ} (λ c. (c.0, g c.1)) cs ≡ map {B = List ℕ × ℕ} (λ c. (c.0, h c.1)) cs
alike-contracts g h a s [] are names = refl
alike-contracts g h a s (c ∷ cs) are names =
    let own = All-head (λ (d : List ℕ × ℕ). IsContractName a s d.1) c cs are in
    let first = names c.1 (rw own.found refl) in
    let rest = alike-contracts g h a s cs (All-tail (λ (d : List ℕ × ℕ). IsContractName a s d.1) c cs are) names in
    let at : ℕ → List ℕ × ℕ = λ n. (c.0, n) in
    λ i. at (first i) ∷ rest i

-- ---- one ledger

pub renumbered-one : {a : Acceptance} {text : List ℕ} {l m k : LedgerState} → IsAccepted a → Loads a text (Ok l)
    → IsRenumbered l m → IsRenumbered l k → m ≡ k
renumbered-one {a} {text} {l} {m} {k} accepted loads one two = one.is ∙ same ∙ sym two.is
  where
    settled : IsSettled a l
    settled = (loads-loaded accepted loads).stands.settled

    numbers : All (λ n. one.objects n ≡ two.objects n) (map object_number l.state.objects)
    numbers = dense-same one.objects two.objects (map object_number l.state.objects) one.objects_dense two.objects_dense

    names : All (λ n. one.names n ≡ two.names n) (map (λ (t : ℕ × TypeId). t.0) l.state.types)
    names = dense-same one.names two.names (map (λ (t : ℕ × TypeId). t.0) l.state.types) one.names_dense two.names_dense

    typed : (n : ℕ) → IsSome (type_of l.state.types n) → one.names n ≡ two.names n
    typed n some = alike-typed one.names two.names l.state.types names n some

    same : ledger_by one.objects one.names l ≡ ledger_by two.objects two.names l
    same =
        let objects = alike-objects one.objects two.objects one.names two.names l.state.objects numbers
        (λ n some. typed n ((settled.typed.numbered.typed n).1 some)) in
        let types = alike-types one.names two.names l.state.types names in
        let contracts = alike-contracts one.names two.names a l.state l.contracts settled.contracts typed in
        λ i. record l {
          contracts = contracts i;
          state = record (state_by one.objects one.names l.state) { objects = objects i; types = types i };
        }
