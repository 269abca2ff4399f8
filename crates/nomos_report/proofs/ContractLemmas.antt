-- The process that stands for a contract is the one that its keeper's number shows.
use Rattle.std.proofs.Common.{◌≡◌, ◌∙◌, ℕ, Bool, true, false, cond, List, [], ◌∷◌, Contains, find, Option, Some, None, ◌++◌, codes, decimal, refl, sym, ap, arith, append_assoc}
use Rattle.std.specs.Option.{option_map}
use Rattle.std.proofs.lemmas.List.Elements.{Contains-append_right}
use Rattle.nomos_base.specs.Gas.{gas_text}
use Rattle.nomos_machine.specs.Objects.{process_of}
use Rattle.nomos_machine.specs.Optional.{◌>>=◌}
use Rattle.nomos_machine.specs.State.{State, process_at}
use Rattle.nomos_machine.specs.TypedState.{Numbered}
use Rattle.nomos_machine.specs.declared.object.Object.{Object}
use Rattle.nomos_machine.specs.declared.object.Object.TheVariants as object
use Rattle.nomos_machine.specs.declared.object.Process.{Process}
use Rattle.nomos_machine.proofs.PutLaws.{object_at-own}
use Rattle.nomos_deeds.specs.Readers.{keeper, stands_for, view_of}
use Rattle.nomos_deeds.specs.declared.machine.View.{View}
use Rattle.nomos_report.specs.ShownState.{contract_line, held_text, standing_for}

-- what is found is there
found-there : {X : Type 0} (test : X → Bool) (xs : List X) (x : X) → find test xs ≡ Some x → Contains xs x
found-there test [] x found = absurd cc
found-there {X} test (e ∷ xs) x found = at (found-there test xs x) (test e) found
  where
    at : (find test xs ≡ Some x → Contains xs x) → (b : Bool) → cond b (Some e) (find test xs) ≡ Some x
        → Contains (e ∷ xs) x
    at rest true found = let same : e ≡ x = cc in (0, omega arith, same)
    at rest false found = Contains-append_right (e ∷ []) xs x (rest found)

-- the process that stands for a name is the one of its keeper's number
pub standing-kept : {s : State} → Numbered s → (shared : ℕ) (p : Process) → standing_for s.objects shared ≡ Some p
    → process_at s p.pid ≡ Some p
standing-kept {s} numbered shared p is = at (find (stands_for shared) s.objects) refl is
  where
    at : (o : Option Object) → find (stands_for shared) s.objects ≡ o → (o >>= process_of) ≡ Some p
        → process_at s p.pid ≡ Some p
    at (Some (object.Process q)) found is =
        let same : q ≡ p = cc in
        let there = found-there (stands_for shared) s.objects (object.Process q) found in
        ap (λ (r : Process). process_at s r.pid) (sym same)
        ∙ ap (λ (o : Option Object). o >>= process_of)
        (object_at-own (object.Process q) s.objects numbered.ascending there)
        ∙ is
    at (Some (object.Message m)) found is = absurd cc
    at None found is = absurd cc

-- Where a name has a keeper, a process stands for it that has the keeper's number, and is what is shown of it.
pub record Stands (s : State) (shared pid : ℕ) : Type 0 where
  pub process : Process
  pub is : standing_for s.objects shared ≡ Some process
  pub number : process.pid ≡ pid
  pub shows : option_map view_of (process_at s pid) ≡ Some (view_of process)

pub keeper-stands : {s : State} → Numbered s → (shared pid : ℕ) → keeper s.objects shared ≡ Some pid
    → Stands s shared pid
keeper-stands {s} numbered shared pid kept = at (standing_for s.objects shared) refl kept
  where
    at : (o : Option Process) → standing_for s.objects shared ≡ o → option_map (λ p. p.pid) o ≡ Some pid
        → Stands s shared pid
    at (Some p) is kept =
        let number : p.pid ≡ pid = cc in
        record {
          process = p;
          is = is;
          number = number;
          shows = ap (λ (n : ℕ). option_map view_of (process_at s n)) (sym number)
              ∙ ap (option_map view_of) (standing-kept numbered shared p is);
        }
    at None is kept = absurd cc

-- what is printed of a contract, one after another
contract-joined : (text word name process pid gas amount blank held feed : List ℕ)
    → (text ++ (word ++ name)) ++ (process ++ pid ++ gas ++ amount ++ blank ++ held ++ feed)
    ≡ text ++ ((word ++ name ++ process ++ pid ++ gas ++ amount ++ blank ++ held) ++ feed)
contract-joined text word name process pid gas amount blank held feed = simp append_assoc

-- it is the line of the contract
pub contract-printed : {s : State} → Numbered s → (unit shared pid : ℕ) (text name : List ℕ) (view : View)
    → keeper s.objects shared ≡ Some pid → Some view ≡ option_map view_of (process_at s pid)
    → (text ++ (codes "contract " ++ name))
    ++ (codes " process " ++ decimal pid ++ codes " gas " ++ gas_text view.purse unit ++ codes " "
    ++ held_text view.base
    ++ codes "\n")
    ≡ text ++ contract_line unit name (standing_for s.objects shared)
contract-printed {s} numbered unit shared pid text name view kept shown =
    let stands = keeper-stands numbered shared pid kept in
    let own : view ≡ view_of stands.process = own-view (shown ∙ stands.shows) in
    let lines : ℕ → View → List ℕ = λ n v.
    codes " process " ++ decimal n ++ codes " gas " ++ gas_text v.purse unit ++ codes " " ++ held_text v.base
    ++ codes "\n"
    in
    (λ i. (text ++ (codes "contract " ++ name)) ++ lines (sym stands.number i) (own i))
    ∙ contract-joined text (codes "contract ") name (codes " process ") (decimal stands.process.pid) (codes " gas ")
    (gas_text stands.process.purse unit) (codes " ") (held_text stands.process.base) (codes "\n")
    ∙ ap (λ (o : Option Process). text ++ contract_line unit name o) (sym stands.is)
  where
    own-view : {v w : View} → Some v ≡ Some w → v ≡ w
    own-view e = cc
