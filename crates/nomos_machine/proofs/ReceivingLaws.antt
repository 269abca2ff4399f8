-- A process that looks for a message takes it where it is there, and waits where it is not.
use Rattle.std.proofs.Common.{◌≡◌, ◌∙◌, ◌≤◌, not, ℕ, ◌+◌, ◌*◌, Bool, true, List, [], ◌∷◌, length, sum_by, Contains, Option, Some, None, is_some, refl, sym, subst, ap, arith}
use Rattle.std.specs.Prelude.{option_and_then}
use Rattle.std.specs.Option.{option_to_list}
use Rattle.nomos_ir.specs.Bindings.{IsAscending}
use Rattle.nomos_ir.specs.Order.{count_of}
use Rattle.nomos_ir.specs.Unfold.{Unfolds}
use Rattle.nomos_ir.specs.declared.code_node.Chan.{Chan}
use Rattle.nomos_ir.specs.declared.code_node.Chan.TheVariants as chan
use Rattle.nomos_ir.specs.declared.ids.CodeId.{CodeId}
use Rattle.nomos_ir.specs.declared.ids.TypeId.{TypeId}
use Rattle.nomos_ir.specs.declared.ids.VarId.{VarId}
use Rattle.nomos_ir.specs.declared.type_node.TypeNode.{TypeNode}
use Rattle.nomos_ir.proofs.SumLaws.{count-after_unbind, count-first}
use Rattle.nomos_types.specs.Acceptance.{Acceptance, IsAccepted}
use Rattle.nomos_types.specs.Judgement.{Judgement, channel_type, goes_on, with_potential}
use Rattle.nomos_types.specs.Modes.{IsLinearMode}
use Rattle.nomos_types.specs.TypingRule.{TypingRule}
use Rattle.nomos_machine.specs.Change.{Change}
use Rattle.nomos_machine.specs.Deeds.{does, takes, receives}
use Rattle.nomos_machine.specs.Matching.{NameHasType, Matches}
use Rattle.nomos_machine.specs.Objects.{carried, used, potential_of, free_purse}
use Rattle.nomos_machine.specs.Revised.{standing_at, under_name, richer}
use Rattle.nomos_machine.specs.Sight.{is_own, present_name, message_on}
use Rattle.nomos_machine.specs.State.{State}
use Rattle.nomos_machine.specs.TypedMessage.{Brings, GoesOnAt}
use Rattle.nomos_machine.specs.TypedState.{IsTyped}
use Rattle.nomos_machine.specs.declared.object.Message.{Message}
use Rattle.nomos_machine.specs.declared.object.Object.TheVariants as object
use Rattle.nomos_machine.specs.declared.object.Payload.{Payload}
use Rattle.nomos_machine.specs.declared.object.PotentialList.{PotentialList}
use Rattle.nomos_machine.specs.declared.object.Process.{Process}
use Rattle.nomos_machine.proofs.ChannelLaws.{under-keeps, channel-unshared, present-has_type, matches-goes_on, under-ascending, both-ends, under-uses, received-uses}
use Rattle.nomos_machine.proofs.GoesLaws.{Goes, acts, waits, process-typed, process-variables, own-is_judgement, own-matches, next-is_judgement}
use Rattle.nomos_machine.proofs.LinearLaws.{IsLinearAt, linear-at, base-same}
use Rattle.nomos_machine.proofs.MatchLaws.{matches-differ}
use Rattle.nomos_machine.proofs.MessageLaws.{IsReadOn, message_on-found, next-there, BringsTo, message-brings}
use Rattle.nomos_machine.proofs.ProcessLaws.{own_judgement, process-next}
use Rattle.nomos_machine.proofs.ReceiveLaws.{Turning, provider, client, Taking, receives-replaces, receives-fits, receives-keep_gas}
use Rattle.nomos_machine.proofs.TalkLaws.{brings-linear}

module _ {a : Acceptance} (accepted : IsAccepted a) {s : State} (typed : IsTyped a s) {p : Process}
    (there : Contains s.objects (object.Process p)) where
  abbrev pub own : Judgement
  own = own_judgement p (process-typed typed there)

  -- ---- the message is there, or it is not

  -- a change that takes a message is made
  take-acts : (m : Message) (q : Process) → Taking a s p m (richer m.purse q)
      → Goes a s true (does a s p (Some (takes a s p m q)))
  take-acts m q taking =
      acts (takes a s p m q) (object.Process p ∷ object.Message m ∷ [])
      (receives-replaces accepted typed there m (richer m.purse q) taking)
      (receives-fits accepted typed there m (richer m.purse q) taking)
      (receives-keep_gas accepted typed there m (richer m.purse q) taking)

  -- What it makes of each message that it may find.
  abbrev pub Takes : Message → Option Change → Type 0
  Takes m change = (q : Process) × (change ≡ Some (takes a s p m q)) × Taking a s p m (richer m.purse q)

  -- where it finds one it takes it, and otherwise it waits
  pub looked-goes : (way : Bool) (from : ℕ) (makes : Message → Option Change)
      → ((m : Message) → IsReadOn s.objects way from m → Takes m (makes m))
      → Goes a s (is_some (message_on s.objects way from))
      (does a s p (option_and_then makes (message_on s.objects way from)))
  looked-goes way from makes each = come (message_on s.objects way from) refl
    where
      come : (o : Option Message) → message_on s.objects way from ≡ o
          → Goes a s (is_some o) (does a s p (option_and_then makes o))
      come None is = waits
      come (Some m) is =
          let (q, makes_it, taking) = each m (message_on-found way from m s.objects is) in
          subst (λ (o : Option Change). Goes a s true (does a s p o)) (sym makes_it) (take-acts m q taking)

  -- what it makes of a message at a receive
  abbrev makes_of : Chan → (Payload → Process → Option Process) → Message → Option Change
  makes_of c reads m =
      option_and_then (λ name. option_and_then (λ q. Some (takes a s p m q)) (reads m.payload (under_name c name p)))
      m.next

  receives-go : (c : Chan) (held : TypeId) (n : TypeNode) (reads : Payload → Process → Option Process)
      → channel_type own c ≡ Some held → Unfolds a.program held.0 n
      → ((m : Message) → IsReadOn s.objects (not (is_own c)) m.from m → present_name p c ≡ Some m.from
      → BringsTo a s m held n
      → Takes m (makes_of c reads m))
      → Goes a s (is_some (option_and_then (message_on s.objects (not (is_own c))) (present_name p c)))
      (does a s p (receives a s p c reads))
  receives-go c held n reads holds unfolds each =
      let unshared = channel-unshared (own-is_judgement typed there accepted) c held holds in
      let (from, here, is) = present-has_type (own-matches typed there) c held unshared holds in
      let way : Bool = not (is_own c) in
      let at_each : (m : Message) → IsReadOn s.objects way from m → Takes m (makes_of c reads m) = λ m read.
      let is_read : from ≡ m.from = sym read.read in
      each m (record { waiting = read.waiting; goes_way = read.goes_way; read = refl })
      (here ∙ ap (λ (k : ℕ). Some k) is_read)
      (message-brings accepted typed m held n read.waiting
      (subst (λ (k : ℕ). NameHasType a.program a.annotations s.types k held) is_read is) unfolds)
      in
      subst (λ (o : Option ℕ). Goes a s (is_some (option_and_then (message_on s.objects way) o))
      (does a s p (option_and_then (λ k. option_and_then (makes_of c reads) (message_on s.objects way k)) o)))
      (sym here)
      (looked-goes way from (makes_of c reads) at_each)

  -- ---- as which it goes on

  -- It received the message, whose next name is this one, and goes on as q: by the rule of its judgement, under that
  -- name, with the message's gas; and it uses what the message brings.
  pub record Received (c : Chan) (m : Message) (name : ℕ) (q : Process) : Type 0 where
    pub after : List Judgement
    pub k : Judgement
    pub row : TypingRule a.program a.annotations own after
    pub among : Contains after k
    pub matches : Matches a.program a.annotations s.types q k
    pub pid : q.pid ≡ (under_name c name p).pid
    pub same_mode : q.mode ≡ (under_name c name p).mode
    pub offers : q.offers ≡ (under_name c name p).offers
    pub base : q.base ≡ (under_name c name p).base
    pub held_lists : q.lists ≡ (under_name c name p).lists
    pub payer : q.payer ≡ (under_name c name p).payer
    pub purse : q.purse ≡ (under_name c name p).purse + m.purse
    pub uses : (n : ℕ) → count_of n (used (object.Process q))
        ≡ count_of n (used (object.Process (under_name c name p))) + count_of n (carried m.payload)
    pub values : IsAscending q.values
    pub channels : IsAscending q.channels
    pub exact : k.q ≡ own.q + m.purse

  turns-at : (c : Chan) (m : Message) (name : ℕ) (q : Process) → m.to_client ≡ not (is_own c)
      → present_name p c ≡ Some m.from → m.next ≡ Some name → q.offers ≡ (under_name c name p).offers
      → IsLinearAt c p.mode → Turning p q m
  turns-at chan.Own m name q way here next offers linear =
      provider (some-same here) way (next ∙ ap (λ (k : ℕ). Some k) (sym offers)) linear
    where
      some-same : {i j : ℕ} → Some i ≡ Some j → i ≡ j
      some-same same = cc
  turns-at (chan.Var v) m name q way here next offers linear =
      let count = count-after_unbind m.from v.0 p.channels in
      let one = ap (λ (o : Option ℕ). count_of m.from (option_to_list o)) here in
      client offers way (omega (arith, count, one, count-first m.from []))

  taking-so : (c : Chan) (m : Message) (held : TypeId) (n : TypeNode) (t : TypeId) (name : ℕ) (q : Process)
      → IsReadOn s.objects (not (is_own c)) m.from m → present_name p c ≡ Some m.from → Unfolds a.program held.0 n
      → (b : BringsTo a s m held n) → b.goes ≡ Some t → m.next ≡ Some name → Received c m name q → Taking a s p m q
  taking-so c m held n t name q read here unfolds b goes next g =
      let formed = accepted.typed.formed in
      let it = process-typed typed there in
      let kept = under-keeps c name p in
      let brings = subst
      (λ (o : Option TypeId). Brings a.program a.annotations s.types m.to_client n m.payload m.purse o) goes b.brings
      in
      let linear : IsLinearMode b.mode = brings-linear formed b.held_mode unfolds brings in
      let linear_too = linear-at accepted it c m.from b.own b.mode here b.found b.has_mode linear in
      let potential : potential_of q ≡ potential_of p =
      ap (λ (ls : List (VarId × PotentialList)). sum_by (λ e. e.1.amount * length e.1.items) ls)
      (g.held_lists ∙ kept.held_lists)
      in
      let covered : potential_of p ≤ p.purse = it.covered in
      let purse : q.purse ≡ p.purse + m.purse = g.purse ∙ ap (λ (k : ℕ). k + m.purse) kept.purse in
      let free : free_purse q ≡ g.k.q = omega (arith, potential, purse, covered, g.exact) in
      let lists : IsAscending q.lists =
      subst IsAscending (sym (g.held_lists ∙ kept.held_lists)) (process-variables typed there).lists
      in
      record {
        waiting = read.waiting;
        own = b.own;
        found = b.found;
        mode = b.mode;
        has_mode = b.has_mode;
        is_linear = linear;
        turns = turns-at c m name q read.goes_way here next g.offers linear_too;
        uses = λ k.
            let process = under-uses k c name m.from p (process-variables typed there).channels here in
            let message = received-uses k c m name read.goes_way next in
            omega (arith, process, message, g.uses k, both-ends k c m.from);
        pid = g.pid ∙ kept.pid;
        same_mode = g.same_mode ∙ kept.same_mode;
        base = g.base ∙ kept.base;
        purse = purse;
        typed = process-next accepted it g.after g.k g.row g.among g.matches (omega (arith, potential, purse, covered))
            free
            (g.payer ∙ kept.payer)
            (base-same it.has_base (g.same_mode ∙ kept.same_mode) (g.base ∙ kept.base));
        differ = matches-differ (next-is_judgement typed there accepted g.k g.row g.among) g.matches g.values lists
            g.channels;
      }

  -- ---- what it does

  -- It goes on as this from each message that it may find, or waits.
  pub receives-by : (c : Chan) (held : TypeId) (n : TypeNode) (reads : Payload → Process → Option Process)
      → channel_type own c ≡ Some held → Unfolds a.program held.0 n
      → ((m : Message) (goes : Option TypeId)
      → Brings a.program a.annotations s.types (not (is_own c)) n m.payload m.purse goes
      → present_name p c ≡ Some m.from
      → (t : TypeId) × (goes ≡ Some t)
      × ((name : ℕ) → NameHasType a.program a.annotations s.types name t
      → (q : Process) × (reads m.payload (under_name c name p) ≡ Some q) × Received c m name (richer m.purse q)))
      → Goes a s (is_some (option_and_then (message_on s.objects (not (is_own c))) (present_name p c)))
      (does a s p (receives a s p c reads))
  receives-by c held n reads holds unfolds each =
      receives-go c held n reads holds unfolds
      (λ m read here b.
      let brings =
      subst (λ (w : Bool). Brings a.program a.annotations s.types w n m.payload m.purse b.goes) read.goes_way b.brings
      in
      let (t, goes, makes) = each m b.goes brings here in
      let (name, is_next, has) = next-there a.program a.annotations s.types m.next t
      (subst (λ (o : Option TypeId). GoesOnAt a.program a.annotations s.types m.next o) goes b.next)
      in
      let (q, is_q, goings) = makes name has in (
        q,
        ap (λ (o : Option ℕ). option_and_then (λ k. option_and_then (λ r. Some (takes a s p m r))
            (reads m.payload (under_name c k p))) o) is_next
            ∙ ap (λ (o : Option Process). option_and_then (λ r. Some (takes a s p m r)) o) is_q,
        taking-so c m held n t name (richer m.purse q) read here unfolds b goes is_next goings,
      ))

  -- it goes on under the message's next name, and has besides only the message's gas
  pub plain-received : (c : Chan) (m : Message) (name : ℕ) (held t : TypeId) (next : CodeId) (after : List Judgement)
      (gas : ℕ)
      → TypingRule a.program a.annotations own after → Contains after (with_potential (goes_on own c t next) gas)
      → channel_type own c ≡ Some held → NameHasType a.program a.annotations s.types name t → carried m.payload ≡ []
      → gas ≡ own.q + m.purse → Received c m name (richer m.purse (standing_at next (under_name c name p)))
  plain-received c m name held t next after gas row among holds has nothing exact =
      let unshared = channel-unshared (own-is_judgement typed there accepted) c held holds in
      let on = matches-goes_on (own-matches typed there) c name t next unshared has in
      record {
        after = after;
        k = with_potential (goes_on own c t next) gas;
        row = row;
        among = among;
        matches = record {
          mode = on.mode;
          code = on.code;
          offers = on.offers;
          values = on.values;
          held_lists = on.held_lists;
          channels = on.channels;
        };
        pid = refl;
        same_mode = refl;
        base = refl;
        held_lists = refl;
        payer = refl;
        offers = refl;
        uses = λ k. omega (arith, ap (λ (ns : List ℕ). count_of k ns) nothing);
        values = subst IsAscending (sym (under-keeps c name p).values) (process-variables typed there).values;
        channels = under-ascending c name p (process-variables typed there).channels;
        purse = refl;
        exact = exact;
      }
