-- Tallies of a state in which objects come, leave and become others.
use Rattle.std.proofs.Common.{◌≡◌, ◌≢◌, ◌∙◌, inl, inr, ◌≤◌, ◌<◌, ◌+◌, ◌==◌, ℕ, Bool, Contains, find, eqb-true, IsSome, OnErr, OnOk, true, false, cond, map, List, [], ◌∷◌, ◌++◌, arith, All, Option, Some, None, Result, Ok, Err, refl, sym, ap, subst, option_and_then}
use Rattle.std.specs.Option.{option_map, option_to_list}
use Rattle.std.proofs.lemmas.Bool.{cases_eq}
use Rattle.std.proofs.lemmas.List.Elements.{All-weaker}
use Rattle.std.specs.List.Sorted.{IsStrictlySortedBy}
use Rattle.std.specs.Ordering.{nat_cmp}
use Rattle.nomos_machine.specs.Change.{put_at}
use Rattle.nomos_machine.specs.Objects.{carried, object_at, object_number, process_of, times}
use Rattle.nomos_machine.specs.State.{NameTypes, State, process_at, type_of}
use Rattle.nomos_machine.specs.declared.object.Message.{Message}
use Rattle.nomos_machine.specs.declared.object.Object.{Object}
use Rattle.nomos_machine.specs.declared.object.Object.TheVariants as object
use Rattle.nomos_machine.specs.declared.object.Payload.{Payload}
use Rattle.nomos_machine.specs.declared.object.Payload.TheVariants as payload
use Rattle.nomos_machine.specs.declared.object.Process.{Process}
use Rattle.nomos_machine.proofs.PreservationLaws.{process_at-there}
use Rattle.nomos_machine.proofs.PutLaws.{object_at-first, object_at-found, object_at-put}
use Rattle.nomos_changes.specs.SmallChanges.{Becomes, with_channels, with_name, with_object, with_process, without_object}
use Rattle.nomos_slots.specs.Numbers.{IsAscending, numbers}
use Rattle.nomos_slots.specs.declared.numbered.Slot.{Slot}
use Rattle.nomos_ir.specs.Order.{count_of}
use Rattle.nomos_deeds.specs.declared.sight.SeenProcess.{SeenProcess}
use Rattle.nomos_ir.specs.declared.ids.TypeId.{TypeId}
use Rattle.nomos_ir.specs.declared.ids.VarId.{VarId}
use Rattle.nomos_state.specs.Mentions.{channel_in, names_in}
use Rattle.nomos_state.specs.Moving.{Moves}
use Rattle.nomos_state.specs.Suspecting.{IsSuspectIfIdle, KeepsSuspects}
use Rattle.nomos_state.specs.Tallying.{AreRight, Shifts, channels_used, names_of, nothing, only, tallied}
use Rattle.nomos_state.specs.declared.tallies.Tallies.{Tallies}
use Rattle.nomos_state.specs.declared.tally.NameUse.TheVariants as doing
use Rattle.nomos_state.specs.declared.tally.NameUse.{NameUse}
use Rattle.nomos_state.specs.declared.tally.Tally.{Tally}
use Rattle.nomos_state.proofs.CountLaws.{Exchanges, channels-exchanges, fields_of, leaving-exchanges, right-come, right-put}
use Rattle.nomos_state.proofs.MoveLaws.{moves-both, moves-still}
use Rattle.nomos_state.specs.Counting.{fields_seen, names_used}
use Rattle.nomos_state.specs.Tallied.{AreTalliesOf, AreTalliesOfMarked}
use Rattle.std.specs.declared.alloc.AllocError.{AllocError}

process-there : (o : Option Object) (p : Process) → option_and_then process_of o ≡ Some p → o ≡ Some (object.Process p)
process-there (Some (object.Process q)) p is = ap (λ (r : Process). Some (object.Process r)) (same is)
  where
    same : Some q ≡ Some p → q ≡ p
    same e = cc
process-there (Some (object.Message m)) p is = absurd cc
process-there None p is = absurd cc

-- where no object has the number nothing is put
put_at-none : (number : ℕ) (new : Option Object) (objects : List Object) → object_at objects number ≡ None
    → put_at number new objects ≡ objects
put_at-none number new [] none = refl
put_at-none number new (o ∷ objects) none = by_test (object_number o == number) none (put_at-none number new objects)
  where
    by_test : (b : Bool) → cond b (Some o) (object_at objects number) ≡ None
        → (object_at objects number ≡ None → put_at number new objects ≡ objects)
        → cond b (option_to_list new ++ objects) (o ∷ put_at number new objects) ≡ o ∷ objects
    by_test true is rest = absurd cc
    by_test false is rest = ap (λ (os : List Object). o ∷ os) (rest is)

-- tallies that shift as objects do are those of the state afterwards, where names and their types stay
pub moved-tallied : (before after : Tallies) (s t : State) (less more : NameUse → List ℕ) → AreTalliesOf before s
    → t.next_name ≡ s.next_name → t.types ≡ s.types → Moves before after less more
    → (AreRight before.names.now s.objects → Shifts before.names.now after.names.now less more
    → AreRight after.names.now t.objects)
    → AreTalliesOf after t
moved-tallied before after s t less more of next types moves right = record {
  order = subst (IsStrictlySortedBy nat_cmp) (sym moves.order) of.order;
  below =
      subst (λ (n : ℕ). All (λ m. m < n + 1) (numbers after.names.now)) (sym next)
      (subst (All (λ n. n < s.next_name + 1)) (sym moves.order) of.below);
  right = λ yes. right (of.right (moves.exact yes)) (moves.counts yes);
  suspected = λ yes known name typed.
      let (was_known, keeps) = moves.suspects yes known in
      keeps name
      (of.suspected (moves.exact yes) was_known name
      (subst (λ (ts : NameTypes). IsSome (type_of ts name)) types typed));
}

-- so are those that shift as a process exchanges what it does
pub becomes-tallied : (before after : Tallies) (s t : State) (pid : ℕ) (p : Process) (f : Process → Process)
    (less more : NameUse → List ℕ) → AreTalliesOf before s → process_at s pid ≡ Some p → Becomes s pid f t
    → Exchanges (object.Process p) (Some (object.Process (f p))) less more → Moves before after less more
    → AreTalliesOf after t
becomes-tallied before after s t pid p f less more of there becomes exchanges moves =
    let is : t ≡ with_process pid (f p) s = becomes p there in
    let own : p.pid ≡ pid = (process_at-there s pid p there).1 in
    let found : object_at s.objects pid ≡ Some (object.Process p) =
    process-there (object_at s.objects pid) p there in
    let found-own = subst (λ (n : ℕ). object_at s.objects n ≡ Some (object.Process p)) (sym own) found in
    subst (AreTalliesOf after) (sym is)
    (moved-tallied before after s (with_process pid (f p) s) less more of refl refl moves
    (λ right shifts. subst (λ (n : ℕ). AreRight after.names.now (put_at n (Some (object.Process (f p))) s.objects)) own
    (right-put before.names.now after.names.now s.objects right (object.Process p) (Some (object.Process (f p))) less
    more found-own exchanges shifts)))

-- so are those that shift as an object comes
pub come-tallied : (before after : Tallies) (s : State) (o : Object) → AreTalliesOf before s
    → Moves before after nothing (λ d. names_of d o) → AreTalliesOf after (with_object o s)
come-tallied before after s o of moves =
    moved-tallied before after s (with_object o s) nothing (λ d. names_of d o) of refl refl moves
    (λ right shifts. right-come before.names.now after.names.now s.objects right o shifts)

-- and those that shift as the object of a number leaves
pub left-tallied : (before after : Tallies) (s : State) (number : ℕ) (o : Object) → AreTalliesOf before s
    → object_at s.objects number ≡ Some o → Moves before after (λ d. names_of d o) nothing
    → AreTalliesOf after (without_object number s)
left-tallied before after s number o of found moves =
    let (own, inside) = object_at-found number o s.objects found in
    moved-tallied before after s (without_object number s) (λ d. names_of d o) nothing of refl refl moves
    (λ right shifts. subst (λ (n : ℕ). AreRight after.names.now (put_at n None s.objects)) own
    (right-put before.names.now after.names.now s.objects right o None (λ d. names_of d o) nothing
    (subst (λ (n : ℕ). object_at s.objects n ≡ Some o) (sym own) found) (leaving-exchanges o) shifts))

-- where no object has the number nothing leaves
pub none-left-tallied : (before after : Tallies) (s : State) (number : ℕ) → AreTalliesOf before s
    → object_at s.objects number ≡ None → Moves before after nothing nothing
    → AreTalliesOf after (without_object number s)
none-left-tallied before after s number of none moves =
    moved-tallied before after s (without_object number s) nothing nothing of refl refl moves
    (λ right shifts d name.
    omega (
      arith,
      shifts d name,
      right d name,
      ap (λ (os : List Object). times (names_of d) os name)
          (put_at-none number None s.objects none),
    ))

-- whether an object has the number or not
module _ (before after : Tallies) (s : State) (number : ℕ)
    (there : (o : Object) → object_at s.objects number ≡ Some o → Moves before after (λ d. names_of d o) nothing)
    (none : object_at s.objects number ≡ None → Moves before after nothing nothing) where
  pub left-either : (o : Option Object) → object_at s.objects number ≡ o → AreTalliesOf before s
      → AreTalliesOf after (without_object number s)
  left-either (Some o) is of = left-tallied before after s number o of is (there o is)
  left-either None is of = none-left-tallied before after s number of is (none is)

  pub left-marks : (o : Option Object) → object_at s.objects number ≡ o → after.names.marked ≡ before.names.marked
  left-marks (Some o) is = (there o is).marked
  left-marks None is = (none is).marked

-- a name that had a type before another one came has it still
typed-before : (types : NameTypes) (e : ℕ × TypeId) (n : ℕ) → n ≢ e.0 → IsSome (type_of (types ++ e ∷ []) n)
    → IsSome (type_of types n)
typed-before [] e n other some = absurd (last (e.0 == n) refl some)
  where
    last : (b : Bool) → (e.0 == n) ≡ b → IsSome (option_map (λ (t : ℕ × TypeId). t.1) (cond b (Some e) None)) → ⊥
    last true same some = other (sym (eqb-true e.0 n same))
    last false same some = cc
typed-before (d ∷ types) e n other some = by_test (d.0 == n) (typed-before types e n other) some
  where
    by_test : (b : Bool) → (IsSome (type_of (types ++ e ∷ []) n) → IsSome (type_of types n))
        → IsSome (option_map (λ (t : ℕ × TypeId). t.1)
        (cond b (Some d) (find (λ (t : ℕ × TypeId). t.0 == n) (types ++ e ∷ []))))
        → IsSome (option_map (λ (t : ℕ × TypeId). t.1) (cond b (Some d) (find (λ (t : ℕ × TypeId). t.0 == n) types)))
    by_test true rest some = refl
    by_test false rest some = rest some

-- a name comes, above all others, and is a suspect
pub named-tallied : (before after : Tallies) (s t : State) (type : TypeId) (name : ℕ) → AreTalliesOf before s
    → t ≡ with_name type s → name ≡ s.next_name → IsAscending after.names.now
    → All (λ n. n < name + 1) (numbers after.names.now) → (after.exact ≡ true → before.exact ≡ true)
    → (after.exact ≡ true → (d : NameUse) (n : ℕ) → tallied after.names.now d n ≡ tallied before.names.now d n)
    → (after.exact ≡ true → KeepsSuspects before.names.now after.names.now before.suspects after.suspects)
    → (after.exact ≡ true → after.suspects.lost ≡ false → Contains after.suspects.names name) → AreTalliesOf after t
named-tallied before after s t type name of is own order below exact counts keeps suspect =
    subst (AreTalliesOf after) (sym is) (record {
      order = order;
      below =
          All-weaker (λ n. n < name + 1) (λ n. n < s.next_name + 1 + 1) (λ n under. omega (arith, under, own))
          (numbers after.names.now) below;
      right = λ yes d n. counts yes d n ∙ of.right (exact yes) d n;
      suspected = λ yes known n typed.
          elim (cases_eq n s.next_name) [
            | inl same ↦ λ idle.
                subst (Contains after.suspects.names) (own ∙ sym same) (suspect yes known)
            | inr other ↦
                let (was_known, kept) = keeps yes known in
                kept n
                (of.suspected (exact yes) was_known n (typed-before s.types (s.next_name, type) n other typed))
          ];
    })

-- what stands aside of names may change
pub aside-tallied : (t : Tallies) (s u : State) → AreTalliesOf t s → u.objects ≡ s.objects → u.types ≡ s.types
    → u.next_name ≡ s.next_name → AreTalliesOf t u
aside-tallied t s u of objects types next =
    moved-tallied t t s u nothing nothing of next types (moves-still t nothing nothing (λ d name. refl))
    (λ right shifts. subst (AreRight t.names.now) (sym objects) right)

-- so may the numbers that are drawn next
pub drawn-tallied : (t : Tallies) (s u : State) → AreTalliesOf t s → u.objects ≡ s.objects → u.types ≡ s.types
    → s.next_name ≤ u.next_name → AreTalliesOf t u
drawn-tallied t s u of objects types next = record {
  order = of.order;
  below =
      All-weaker (λ n. n < s.next_name + 1) (λ n. n < u.next_name + 1) (λ n under. omega (arith, under, next))
      (numbers t.names.now) of.below;
  right = λ yes. subst (AreRight t.names.now) (sym objects) (of.right yes);
  suspected = λ yes known.
      subst
      (λ (table : NameTypes). (name : ℕ) → IsSome (type_of table name) → IsSuspectIfIdle t.names.now t.suspects name)
      (sym types) (of.suspected yes known);
}

-- so may what a process carries
pub carries-tallied : (t : Tallies) (s u : State) (pid : ℕ) (p : Process) (f : Process → Process) → AreTalliesOf t s
    → process_at s pid ≡ Some p → Becomes s pid f u → (f p).offers ≡ p.offers → (f p).base ≡ p.base
    → (f p).channels ≡ p.channels → AreTalliesOf t u
carries-tallied t s u pid p f of there becomes offers base channels =
    becomes-tallied t t s u pid p f (channels_used p) (channels_used (f p)) of there becomes
    (channels-exchanges p (f p) offers base)
    (moves-still t (channels_used p) (channels_used (f p))
    (λ d name. sym (ap (λ (cs : List (VarId × ℕ)). count_of name (only doing.Uses (map (λ e. e.1) cs) d)) channels)))

-- and where there is no such process nothing changes
pub carries-either : (t : Tallies) (s u : State) (pid : ℕ) (f : Process → Process) → AreTalliesOf t s
    → Becomes s pid f u → (process_at s pid ≡ None → u ≡ s) → ((p : Process) → (f p).offers ≡ p.offers)
    → ((p : Process) → (f p).base ≡ p.base) → ((p : Process) → (f p).channels ≡ p.channels) → AreTalliesOf t u
carries-either t s u pid f of becomes none offers base channels = at (process_at s pid) refl
  where
    at : (o : Option Process) → process_at s pid ≡ o → AreTalliesOf t u
    at (Some p) there = carries-tallied t s u pid p f of there becomes (offers p) (base p) (channels p)
    at None there = subst (AreTalliesOf t) (sym (none there)) of

-- an object is found that came last, where none had its number
found-last : (number : ℕ) (o : Object) (objects : List Object) → object_number o ≡ number
    → object_at objects number ≡ None → object_at (objects ++ o ∷ []) number ≡ Some o
found-last number o [] own none = object_at-first number o [] own
found-last number o (e ∷ objects) own none = by_test (object_number e == number) none (found-last number o objects own)
  where
    by_test : (b : Bool) → cond b (Some e) (object_at objects number) ≡ None
        → (object_at objects number ≡ None → object_at (objects ++ o ∷ []) number ≡ Some o)
        → cond b (Some e) (object_at (objects ++ o ∷ []) number) ≡ Some o
    by_test true is rest = absurd cc
    by_test false is rest = rest is

pub process-come : (s : State) (number : ℕ) (p : Process) → p.pid ≡ number → object_at s.objects number ≡ None
    → process_at (with_object (object.Process p) s) number ≡ Some p
process-come s number p own none =
    ap (option_and_then process_of) (found-last number (object.Process p) s.objects own none)

-- a process is found that stands in the place of another
pub process-put : (s : State) (pid : ℕ) (p q : Process) → process_at s pid ≡ Some p → q.pid ≡ p.pid
    → process_at (with_process pid q s) pid ≡ Some q
process-put s pid p q there keeps =
    let own : p.pid ≡ pid = (process_at-there s pid p there).1 in
    ap (option_and_then process_of)
    (object_at-put pid (object.Process q) (object.Process p) s.objects
    (process-there (object_at s.objects pid) p there) (keeps ∙ own))

-- The channels of a process are replaced, or are not.
module _ (s t : State) (pid : ℕ) (p : Process) (channels : List (VarId × ℕ)) (there : process_at s pid ≡ Some p) where
  -- a process stands there in either case
  pub replaced-there : (result : Result (Unit {0}) AllocError) → OnOk result (Becomes s pid (with_channels channels) t)
      → OnErr result (t ≡ s) → (q : Process) × (process_at t pid ≡ Some q)
  replaced-there (Ok x) becomes same =
      let q = with_channels channels p in
      (q, ap (λ (u : State). process_at u pid) (becomes p there) ∙ process-put s pid p q there refl)
  replaced-there (Err e) becomes same = (p, ap (λ (u : State). process_at u pid) same ∙ there)

  module _ (before between after : Tallies) (of : AreTalliesOf before s)
      (out : Moves before between (channels_used p) nothing) where
    -- those of before are counted out, and what is there is counted in
    pub replaced-tallied : (result : Result (Unit {0}) AllocError)
        → OnOk result (Becomes s pid (with_channels channels) t) → OnErr result (t ≡ s)
        → ((q : Process) → process_at t pid ≡ Some q → Moves between after nothing (channels_used q))
        → AreTalliesOf after t
    unfolding replaced-there
    replaced-tallied (Ok x) becomes same back =
        let q = with_channels channels p in
        let found = replaced-there (Ok x) becomes same in
        becomes-tallied before after s t pid p (with_channels channels) (channels_used p) (channels_used q) of there
        becomes (channels-exchanges p q refl refl)
        (moves-both before between after (channels_used p) nothing nothing (channels_used q) (channels_used p)
        (channels_used q) out (back q found.1) (λ d name. omega arith))
    replaced-tallied (Err e) becomes same back =
        let found = replaced-there (Err e) becomes same in
        moved-tallied before after s t (channels_used p) (channels_used p) of (ap (λ (u : State). u.next_name) same)
        (ap (λ (u : State). u.types) same)
        (moves-both before between after (channels_used p) nothing nothing (channels_used p) (channels_used p)
        (channels_used p) out (back p found.1) (λ d name. omega arith))
        (λ right shifts d name.
        omega (arith, shifts d name, right d name, ap (λ (u : State). times (names_of d) u.objects name) same))

-- The channels of a process are counted out; where there is no such process nothing is.
module _ (s : State) (pid : ℕ) (before between : Tallies)
    (out : (p : Process) → process_at s pid ≡ Some p → Moves before between (channels_used p) nothing)
    (still : process_at s pid ≡ None → between ≡ before) where
  pub out-order : (o : Option Process) → process_at s pid ≡ o
      → numbers between.names.now ≡ numbers before.names.now
  out-order (Some p) there = (out p there).order
  out-order None missing = ap (λ (u : Tallies). numbers u.names.now) (still missing)

  -- They are replaced or not, and what is there is counted in.
  module _ (t : State) (channels : List (VarId × ℕ)) (after : Tallies) (of : AreTalliesOf before s)
      (result : Result (Unit {0}) AllocError) (becomes : OnOk result (Becomes s pid (with_channels channels) t))
      (same : OnErr result (t ≡ s)) (none : process_at s pid ≡ None → t ≡ s)
      (back : (q : Process) → process_at t pid ≡ Some q → Moves between after nothing (channels_used q))
      (again : process_at s pid ≡ None → after ≡ between) where
    pub either-tallied : (o : Option Process) → process_at s pid ≡ o → AreTalliesOf after t
    either-tallied (Some p) there =
        replaced-tallied s t pid p channels there before between after of (out p there) result becomes same back
    either-tallied None missing =
        subst (AreTalliesOf after) (sym (none missing))
        (subst (λ (u : Tallies). AreTalliesOf u s) (sym (again missing ∙ still missing)) of)

    pub either-marked : (o : Option Process) → process_at s pid ≡ o → after.names.marked ≡ before.names.marked
    either-marked (Some p) there =
        let stands = replaced-there s t pid p channels there result becomes same in
        (back stands.0 stands.1).marked ∙ (out p there).marked
    either-marked None missing = ap (λ (u : Tallies). u.names.marked) (again missing ∙ still missing)

-- what a process does by its channels and by its plain fields is what it does with names
pub process-counted : (p : Process) (x : SeenProcess) → x.offers ≡ p.offers → x.base ≡ p.base → (d : NameUse) (name : ℕ)
    → count_of name (channels_used p d) + count_of name (fields_seen x d)
    ≡ count_of name (names_of d (object.Process p))
process-counted p x offers base doing.Provides name = omega (arith, ap (λ (n : ℕ). count_of name (n ∷ [])) offers)
process-counted p x offers base doing.Uses name = omega arith
process-counted p x offers base doing.Bases name =
    omega (arith, ap (λ (o : Option ℕ). count_of name (option_to_list o)) base)

-- what a message does with the names that it mentions is what it does with names
message-does : (m : Message) (d : NameUse) → names_used (names_in m) d ≡ names_of d (object.Message m)
message-does m doing.Provides = by_way m.to_client
  where
    by_way : (b : Bool) → option_to_list (cond b (Some m.from) m.next) ≡ cond b (m.from ∷ []) (option_to_list m.next)
    by_way true = refl
    by_way false = refl
message-does m doing.Uses = both m.to_client m.payload
  where
    both : (b : Bool) (x : Payload)
        → option_to_list (cond b m.next (Some m.from)) ++ option_to_list (channel_in x)
        ≡ cond b (option_to_list m.next) (m.from ∷ []) ++ carried x
    both true (payload.Label l) = refl
    both true (payload.Value x) = refl
    both true (payload.Channel name) = refl
    both true payload.Pay = refl
    both true payload.Close = refl
    both false (payload.Label l) = refl
    both false (payload.Value x) = refl
    both false (payload.Channel name) = refl
    both false payload.Pay = refl
    both false payload.Close = refl
message-does m doing.Bases = refl

pub message-counted : (m : Message) (d : NameUse) (name : ℕ)
    → count_of name (names_used (names_in m) d) ≡ count_of name (names_of d (object.Message m))
message-counted m d name = ap (count_of name) (message-does m d)

-- what is marked stays as it was
pub marked-kept : (exact lost : Bool) (before after : Option (List (Slot Tally))) (s t : Option State)
    → AreTalliesOfMarked exact lost before s → after ≡ before → t ≡ s → AreTalliesOfMarked exact lost after t
marked-kept exact lost before after s t of tallies_same state_same =
    subst (λ (ts : Option (List (Slot Tally))). AreTalliesOfMarked exact lost ts t) (sym tallies_same)
    (subst (λ (u : Option State). AreTalliesOfMarked exact lost before u) (sym state_same) of)

-- of what is seen there is something
pub seen-there : {X Y : Type 0} (f : X → Y) (o : Option X) (y : Y) → Some y ≡ option_map f o
    → (x : X) × (o ≡ Some x) × (y ≡ f x)
seen-there f (Some x) y is = (x, refl, same y (f x) is)
  where
    same : {Y : Type 0} (a b : Y) → Some a ≡ Some b → a ≡ b
    same a b e = cc
seen-there f None y is = absurd cc

-- and of nothing that is seen there is nothing
pub none-there : {X Y : Type 0} (f : X → Y) (o : Option X) → None ≡ option_map f o → o ≡ None
none-there f (Some x) is = absurd cc
none-there f None is = refl

-- one exchange of the name that is provided, and one of the base, make the exchange of plain fields
pub fields-moves : (a b c : Tallies) (p q : Process) (offers : ℕ) (base : Option ℕ) → offers ≡ p.offers → base ≡ p.base
    → Moves a b (only doing.Provides (offers ∷ [])) (only doing.Provides (q.offers ∷ []))
    → Moves b c (only doing.Bases (option_to_list base)) (only doing.Bases (option_to_list q.base))
    → Moves a c (fields_of p) (fields_of q)
fields-moves a b c p q offers base is_offered is_base one other =
    moves-both a b c (only doing.Provides (offers ∷ [])) (only doing.Provides (q.offers ∷ []))
    (only doing.Bases (option_to_list base)) (only doing.Bases (option_to_list q.base)) (fields_of p) (fields_of q) one
    other balanced
  where
    balanced : (d : NameUse) (name : ℕ)
        → count_of name (fields_of p d) + count_of name (only doing.Provides (q.offers ∷ []) d)
        + count_of name (only doing.Bases (option_to_list q.base) d)
        ≡ count_of name (fields_of q d) + count_of name (only doing.Provides (offers ∷ []) d)
        + count_of name (only doing.Bases (option_to_list base) d)
    balanced doing.Provides name = omega (arith, ap (λ (n : ℕ). count_of name (n ∷ [])) is_offered)
    balanced doing.Uses name = refl
    balanced doing.Bases name = omega (arith, ap (λ (o : Option ℕ). count_of name (option_to_list o)) is_base)
