-- A report leaves no line out: of a ledger that stands, of a state that is typed, and so of each passage of a legal
-- journal.
use Rattle.std.proofs.Common.{◌≡◌, ◌∙◌, ◌≤◌, ℕ, ◌==◌, Bool, true, false, cond, List, [], find, All, Contains, Option, Some, None, slice_get, refl, sym, subst, ap, arith, eq-eqb}
use Rattle.std.proofs.lemmas.List.Elements.{All-nil, All-cons, All-weaker}
use Rattle.std.proofs.lemmas.Slice.Zip.{firsts-zip}
use Rattle.std.specs.Option.{option_map, option_or}
use Rattle.nomos_ir.specs.Bindings.{bound_to}
use Rattle.nomos_ir.specs.Order.{count_of}
use Rattle.nomos_ir.specs.declared.code_node.CodeNode.{CodeNode}
use Rattle.nomos_ir.specs.declared.code_node.CodeNode.TheVariants as code
use Rattle.nomos_ir.specs.declared.ids.CodeId.{CodeId}
use Rattle.nomos_ir.specs.declared.ids.TypeId.{TypeId}
use Rattle.nomos_ir.specs.declared.ids.VarId.{VarId}
use Rattle.nomos_ir.specs.declared.mode.Mode.TheVariants as mode
use Rattle.nomos_ir.proofs.BindingLaws.{all-bound}
use Rattle.nomos_ir.proofs.PairedLaws.{paired-left}
use Rattle.nomos_types.specs.Acceptance.{Acceptance, IsAccepted}
use Rattle.nomos_types.specs.Judgement.{type_held}
use Rattle.nomos_types.specs.Modes.{HasMode}
use Rattle.nomos_types.proofs.ModeLaws.{mode-unique}
use Rattle.nomos_types.proofs.OccurrenceLaws.{contained}
use Rattle.nomos_types.proofs.RowLaws.{row-inverted}
use Rattle.nomos_machine.specs.Objects.{object_number, process_of, shared_names, times}
use Rattle.nomos_machine.specs.Optional.{◌>>=◌}
use Rattle.nomos_machine.specs.Sight.{owner}
use Rattle.nomos_machine.specs.State.{State, type_of}
use Rattle.nomos_machine.specs.TypedState.{IsTyped, IsContractName}
use Rattle.nomos_machine.specs.declared.object.Object.{Object}
use Rattle.nomos_machine.specs.declared.object.Object.TheVariants as object
use Rattle.nomos_machine.specs.declared.object.Process.{Process}
use Rattle.nomos_machine.proofs.GoesLaws.{process-typed, own-row, own-stands, own-is_judgement}
use Rattle.nomos_machine.proofs.NameLaws.{contains-times, names-told}
use Rattle.nomos_machine.proofs.OwnerLaws.{name-has_owner}
use Rattle.nomos_machine.proofs.ProcessLaws.{own_judgement}
use Rattle.nomos_deeds.specs.Readers.{IsLinearType, acquires, acquires_at, keeper, looks_linear, stands_for}
use Rattle.nomos_deeds.proofs.LinearNameLaws.{any-shown, looks-linear}
use Rattle.nomos_deeds.proofs.LowestLaws.{first-found, none-passes}
use Rattle.nomos_script.specs.declared.item.ScriptItem.{ScriptItem}
use Rattle.nomos_legal.specs.Ledger.{LedgerState}
use Rattle.nomos_legal.specs.Legal.{Leads, TellsFrom}
use Rattle.nomos_legal.specs.Legal as legal
use Rattle.nomos_legal.specs.Passage.{Passage, IsPassage}
use Rattle.nomos_legal.specs.Passage as passage
use Rattle.nomos_legal.specs.StandsFor.{StandsNamed}
use Rattle.nomos_legal.specs.declared.journal.Journal.{Journal}
use Rattle.nomos_legal.proofs.RightLaws.{batch-started, passage-standing}
use Rattle.nomos_legal.proofs.WorldLaws.{settled-reached}
use Rattle.nomos_report.specs.NothingLeftOut.{HasContractLine, HasOwnerLine, LeavesNothingOut, ShowsAll, ShowsWaits}
use Rattle.nomos_report.specs.Reported.{IsReportFrom, waits_line}
use Rattle.nomos_report.specs.ShownState.{channel_line, contract_line, owner_line, standing_for}

-- ---- who stands for a shared name

-- a process that is there, stands for the name, and is found by search
record IsFound (objects : List Object) (shared : ℕ) : Type 0 where
  process : Process
  there : Contains objects (object.Process process)
  stands : Contains (shared_names (object.Process process)) shared
  found : standing_for objects shared ≡ Some process

module _ {a : Acceptance} {s : State} (typed : IsTyped a s) (shared : ℕ) where
  -- where the name is counted, one is
  counted-found : 1 ≤ times shared_names s.objects shared → IsFound s.objects shared
  counted-found some = by_search (find (stands_for shared) s.objects) refl
    where
      by_search : (o : Option Object) → find (stands_for shared) s.objects ≡ o → IsFound s.objects shared
      by_search (Some (object.Process p)) is =
          let first =
          first-found object_number (stands_for shared) s.objects (object.Process p) typed.numbered.ascending is
          in
          let names : List ℕ = shared_names (object.Process p) in
          record {
            process = p;
            there = first.there;
            stands = contained shared names ((names-told names shared).0 first.passed);
            found = ap (λ (o : Option Object). o >>= process_of) is;
          }
      by_search (Some (object.Message m)) is =
          let first =
          first-found object_number (stands_for shared) s.objects (object.Message m) typed.numbered.ascending is
          in
          let passed : false ≡ true = first.passed in
          absurd cc
      by_search None is =
          let (o, inside, among) = contains-times shared_names shared s.objects some in
          let passed : stands_for shared o ≡ true =
          any-shown (λ n. n == shared) (shared_names o) shared among (eq-eqb shared shared refl)
          in
          absurd (none-passes object_number (stands_for shared) s.objects is o inside passed)

  -- so one stands for each contract
  contract-found : IsContractName a s shared → IsFound s.objects shared
  contract-found contract =
      counted-found (omega (arith, (typed.owned shared contract.own mode.S contract.found contract.mode).0))

-- ---- the line of a contract

contract-line : {a : Acceptance} {s : State} → IsTyped a s → (unit : ℕ) (c : List ℕ × ℕ) → IsContractName a s c.1
    → HasContractLine unit s.objects c
contract-line typed unit c contract =
    let is = contract-found typed c.1 contract in
    record {
      process = is.process;
      there = is.there;
      stands = is.stands;
      line = ap (contract_line unit c.0) is.found;
    }

-- ---- the line of a name

-- the owner's line or none, by whether the type looks as one of mode R or L
abbrev line_by : State → ℕ → Bool → List ℕ
line_by s name linear = cond linear (owner_line name (owner s name)) []

module _ {a : Acceptance} (accepted : IsAccepted a) {s : State} (typed : IsTyped a s) (inside : s.outside ≡ [])
    (name : ℕ)
    (t : TypeId) where
  owner-line : type_of s.types name ≡ Some t → IsLinearType a.program t → HasOwnerLine a s name t
  owner-line found is =
      let (m, has, linear) = is in
      let one = name-has_owner accepted typed name t m found has linear (ap (count_of name) inside) in
      let looks : looks_linear a.program t ≡ true =
      (looks-linear a t (looks_linear a.program t) accepted refl).1 is
      in
      record { one = one; line = ap (line_by s name) looks ∙ ap (owner_line name) one.found }

  no-line : ¬ (IsLinearType a.program t) → channel_line a s (name, t) ≡ []
  no-line other = at (looks_linear a.program t) refl
    where
      at : (looks : Bool) → looks_linear a.program t ≡ looks → line_by s name looks ≡ []
      at true is = absurd (other ((looks-linear a t true accepted (sym is)).0 refl))
      at false is = refl

-- ---- the line of a process that waits

-- a process that stands at `acquire` waits for the name of a contract
record WaitsFor (a : Acceptance) (s : State) (p : Process) : Type 0 where
  shared : ℕ
  waits : acquires a p ≡ Some shared
  contract : IsContractName a s shared

acquiring-waits : {a : Acceptance} → IsAccepted a → {s : State} → IsTyped a s → (p : Process) (at : ℕ) (r v : VarId)
    (next : CodeId) → Contains s.objects (object.Process p)
    → slice_get a.program.code p.code.0 ≡ Some (code.Acquire at r v next) → WaitsFor a s p
acquiring-waits {a} accepted {s} typed p at r v next there stands =
    let own = own_judgement p (process-typed typed there) in
    let n : CodeNode = code.Acquire at r v next in
    let (after, row) = own-row typed there accepted in
    let (t, premises, goes_on) = row-inverted n (own-stands typed there n stands) row in
    let held : type_held own r.0 ≡ Some premises.own =
    ap (λ (o : Option TypeId). option_or o (bound_to r.0 own.linear)) premises.reference
    in
    let (shared, bound, has) = paired-left premises.own ((process-typed typed there).matches.channels r.0) held in
    let at_s = all-bound (λ (u : TypeId). HasMode a.program u mode.S) r.0 premises.own own.shared
    (own-is_judgement typed there accepted).shared_modes premises.reference in
    let same = mode-unique accepted.typed.formed.program has.alike.right_mode at_s in
    record {
      shared = shared;
      waits = ap (λ (o : Option CodeNode). o >>= acquires_at p) stands ∙ bound;
      contract = record {
        own = has.own;
        found = has.found;
        mode = subst (HasMode a.program has.own) same has.alike.left_mode;
      };
    }

-- Each process of a typed state that stands at `acquire` has its line, also where the state is quiet.
pub typed-shows_waits : {a : Acceptance} → IsAccepted a → {s : State} → IsTyped a s → ShowsWaits a s
typed-shows_waits {a} accepted {s} typed p at r v next there stands =
    let waiting = acquiring-waits accepted typed p at r v next there stands in
    let is = contract-found typed waiting.shared waiting.contract in
    let kept : keeper s.objects waiting.shared ≡ Some is.process.pid =
    ap (λ (o : Option Process). option_map (λ (q : Process). q.pid) o) is.found
    in
    record {
      shared = waiting.shared;
      waits = waiting.waits;
      keeper = is.process;
      there = is.there;
      stands = is.stands;
      line = ap (λ (o : Option ℕ). waits_line p.pid o (o >>= keeper s.objects)) waiting.waits
          ∙ ap (waits_line p.pid (Some waiting.shared)) kept;
    }

-- ---- ledgers

-- Of a ledger that stands a `show` leaves nothing out.
pub standing-shows_all : {a : Acceptance} → IsAccepted a → {l : LedgerState} → StandsNamed a l → ShowsAll a l
standing-shows_all {a} accepted {l} standing =
    let settled = standing.stands.settled in
    record {
      accounts = firsts-zip l.accounts l.state.balances (sym standing.counted);
      contracts =
          All-weaker (λ (c : List ℕ × ℕ). IsContractName a l.state c.1)
          (HasContractLine a.annotations.unit l.state.objects)
          (λ c contract. contract-line settled.typed a.annotations.unit c contract) l.contracts settled.contracts;
      owned = λ name t found linear. owner-line accepted settled.typed settled.outside name t found linear;
      others = λ name t found other. no-line accepted settled.typed settled.outside name t other;
    }

-- ---- passages

module _ {a : Acceptance} (accepted : IsAccepted a) where
  -- the state to which its firings lead is typed
  last-typed : {most : ℕ} {p : Passage} → IsPassage a most p → StandsNamed a p.before → IsTyped a p.last
  last-typed (passage.deposit l line units name fits) standing = standing.stands.settled.typed
  last-typed (passage.no_deposit l line units name never) standing = standing.stands.settled.typed
  last-typed (passage.refused l batch line cause refuses) standing = standing.stands.settled.typed
  last-typed (passage.stays l batch starts pids last begun reaches) standing =
      (settled-reached accepted (batch-started accepted standing begun).settled pids last reaches.reached).typed
  last-typed (passage.undone l batch starts pids last answer begun reaches undoes) standing =
      (settled-reached accepted (batch-started accepted standing begun).settled pids last reaches.reached).typed
  last-typed (passage.shown l line) standing = standing.stands.settled.typed

  leads-nothing_left_out : {limit made : ℕ} {l last : LedgerState} {ps : List Passage} → Leads a limit made l ps last
      → StandsNamed a l → All (LeavesNothingOut a) ps
  leads-nothing_left_out (legal.done made l) standing = All-nil (LeavesNothingOut a)
  leads-nothing_left_out (legal.passes made p ps last is rest) standing =
      let leaves : LeavesNothingOut a p = record {
        ledger = standing-shows_all accepted standing;
        waits = typed-shows_waits accepted (last-typed is standing);
      } in
      All-cons (LeavesNothingOut a) p ps leaves (leads-nothing_left_out rest (passage-standing accepted is standing))

  -- Of no passage of a legal journal anything is left out, from any ledger that stands.
  pub legal-nothing_left_out : {first last : LedgerState} → StandsNamed a first → {items : List ScriptItem}
      {journal : Journal} {ps : List Passage} → TellsFrom a first items journal ps last → All (LeavesNothingOut a) ps
  legal-nothing_left_out standing tells = leads-nothing_left_out tells.leads standing

  -- So a report leaves no line out.
  pub report-nothing_left_out : {first : LedgerState} → StandsNamed a first → {items : List ScriptItem}
      {journal : Journal} {text : List ℕ} → (report : IsReportFrom a first items journal text)
      → All (LeavesNothingOut a) report.passages
  report-nothing_left_out standing report = legal-nothing_left_out standing report.tells
