-- A row under the one amounts is carried over to others, where what it needs is met there: the account afforded, and
-- the amounts of each pair worth the same.
use Rattle.std.proofs.Common.{◌≡◌, ◌+◌, ◌-◌, ◌⊎◌, ℕ, IsTrue, List, [], ◌∷◌, map, All, Contains, Option, Some, None, slice_get, zip, refl, ap, sym, subst, ◌∙◌, arith, eq-eqb, cond}
use Rattle.nomos_ir.specs.declared.amount.Amount.{Amount}
use Rattle.nomos_ir.specs.declared.code_node.Args.{Args}
use Rattle.nomos_ir.specs.declared.code_node.Arm.{Arm}
use Rattle.nomos_ir.specs.declared.code_node.Chan.{Chan}
use Rattle.nomos_ir.specs.declared.code_node.Chan.TheVariants as chan
use Rattle.nomos_ir.specs.declared.code_node.CodeNode.{CodeNode}
use Rattle.nomos_ir.specs.declared.code_node.CodeNode.TheVariants as code
use Rattle.nomos_ir.specs.declared.declaration.ProcDecl.{ProcDecl}
use Rattle.nomos_ir.specs.declared.ids.CodeId.{CodeId}
use Rattle.nomos_ir.specs.declared.ids.ProcId.{ProcId}
use Rattle.nomos_ir.specs.declared.ids.TermId.{TermId}
use Rattle.nomos_ir.specs.declared.ids.TypeId.{TypeId}
use Rattle.nomos_ir.specs.declared.ids.VarId.{VarId}
use Rattle.nomos_ir.specs.declared.lists.ProgramLists.{ProgramLists}
use Rattle.nomos_ir.specs.declared.mode.Mode.TheVariants as mode
use Rattle.nomos_ir.specs.declared.type_node.Branch.{Branch}
use Rattle.nomos_ir.specs.Bindings.{bound_to, bind, unbind}
use Rattle.nomos_ir.specs.TermKind.{HasKind, bool_kind}
use Rattle.nomos_types.specs.Alike.{AlikeTypes}
use Rattle.nomos_types.specs.Amount.{Annotations, dths}
use Rattle.nomos_types.specs.Judgement.{Judgement, ListType, IsJudgement, at_code, goes_on, with_potential, binds_value, binds_list, binds_channel}
use Rattle.nomos_types.specs.Modes.{HasMode, may_spawn}
use Rattle.nomos_types.specs.Premises.{ArmsGoOn, none, arm, Spawns, Calls, Adds, TakesApart}
use Rattle.nomos_types.specs.TypingRule.{StandsAtCode, gives_up, without_list, takes_parts}
use Rattle.nomos_types.proofs.RowLaws.{RowAt}
use Rattle.nomos_check.specs.Account.{Account, spends, gains, with_lists, Affords}
use Rattle.nomos_check.specs.Accounting.{accounts_after, spends_for, without_passed, grows_list, parts_list}
use Rattle.nomos_check.specs.Asking.{AsksPair, paid, got, carried, compared, sent, passed, called, forwarded, spawns, calls}
use Rattle.nomos_check.proofs.Beside.{Beside, EachBeside, more, one, two, no_more, along, free, at_code-beside, goes_on-beside, taken_over-beside, gives_up-beside, value-beside, channel-beside, list-beside, unbound-beside, spends-beside, gains-beside, enough, has_type-beside}
use Rattle.nomos_check.proofs.BesideArguments.{alike-changed, channel-passes, arguments-pass}
use Rattle.nomos_check.proofs.ListAmounts.{list_at, found-both}

-- the needs of an instruction are met under these amounts
pub record MeetsNeeds (lists : ProgramLists) (y : Annotations) (j : Judgement) (a : Account) (n : CodeNode)
    (after : List Judgement) : Type 0 where
  pub onward : (k : Judgement) (b : Account) → Contains (zip after (accounts_after lists n a)) (k, b) → Affords y b
  pub call : (at : ℕ) (f : ProcId) (args : Args) (d : ProcDecl) → n ≡ code.Call at f args
      → slice_get lists.procs f.0 ≡ Some d → Affords y (spends d.amount a)
  pub pairs : (p : Amount × Amount) → AsksPair lists j a p → dths y p.0 ≡ dths y p.1

-- the row on the other side, and what it goes on with
pub record Carried (lists : ProgramLists) (x y : Annotations) (k : Judgement) (n : CodeNode) (after : List Judgement)
    (accounts : List Account) : Type 0 where
  pub later : List Judgement
  pub row : RowAt lists y k n later
  pub each : EachBeside x y after later accounts

-- the arms go on side by side
arms-carried : {x y : Annotations} {j k : Judgement} {a : Account} (c : Chan) (branches : List Branch)
    → Beside x y j k a
    → {arms : List Arm} {after : List Judgement} → ArmsGoOn j c branches arms after
    → (later : List Judgement) × ArmsGoOn k c branches arms later
    × EachBeside x y after later (map (λ arm. a) arms)
arms-carried c branches b none = ([], none, EachBeside.none)
arms-carried {k = k} c branches b (arm {a = first} t goes rest) =
    let (later, others, each) = arms-carried c branches b rest in
    (goes_on k c t first.goes ∷ later, arm t goes others, more (goes_on-beside b c t first.goes) each)

-- the account with which the only judgement goes on is afforded
onward-afforded : {lists : ProgramLists} {y : Annotations} {j : Judgement} {a : Account} {n : CodeNode}
    {after : List Judgement} (k : Judgement) (b : Account) → MeetsNeeds lists y j a n after → after ≡ k ∷ []
    → accounts_after lists n a ≡ b ∷ [] → Affords y b
onward-afforded {lists = lists} {a = a} {n = n} {after = after} k b needs is accounts =
    let Paired : List Judgement → List Account → Type 0 = λ js bs. Contains (zip js bs) (k, b) in
    let here : Paired (k ∷ []) (b ∷ []) = (0, omega arith, refl) in
    let there : Paired after (b ∷ []) = subst (λ (js : List Judgement). Paired js (b ∷ [])) (sym is) here in
    needs.onward k b (subst (λ (bs : List Account). Paired after bs) (sym accounts) there)

-- the channel that is held alone is bound
pub only-bound : (v : VarId) (own : TypeId) (channels : List (VarId × TypeId)) → channels ≡ (v, own) ∷ []
    → bound_to v.0 channels ≡ Some own
only-bound v own channels only =
    ap (λ (cs : List (VarId × TypeId)). bound_to v.0 cs) only
    ∙ ap (λ t. cond t (Some own) None) (eq-eqb v.0 v.0 refl)

-- the judgement in which an element was put before a list
abbrev added : Judgement → VarId → VarId → CodeId → ListType → Judgement
added j v w next l = with_potential (binds_list (without_list j w next) v l) (j.q - l.amount)

-- those in which a list was taken apart: it was empty, or it had a head and a tail
abbrev taken_apart : Judgement → VarId → VarId → VarId → CodeId → CodeId → ListType → List Judgement
taken_apart j w head tail empty_next full_next l =
    without_list j w empty_next ∷ with_potential (takes_parts j w head tail l full_next) (j.q + l.amount) ∷ []

module _ {lists : ProgramLists} {x y : Annotations} where
  -- an element is put before a list
  add-carried : {j k : Judgement} {a : Account} {after : List Judgement} (at : ℕ) (v w : VarId) (e : TermId)
      (next : CodeId) (l : ListType) → Beside x y j k a → Adds lists j v e w l → after ≡ added j v w next l ∷ []
      → MeetsNeeds lists y j a (code.Add at v e w next) after
      → Carried lists x y k (code.Add at v e w next) after (accounts_after lists (code.Add at v e w next) a)
  add-carried {j} {k} {a} {after} at v w e next l b h is needs =
      let f = found-both w.0 l b.lists h.there in
      let r = f.amount in
      let m = list_at y l.kind r in
      let same : l ≡ list_at x l.kind r =
      ap (λ (n : ℕ). let o : ListType = record { kind = l.kind; amount = n } in o) f.worth
      in
      let is_here : after ≡ added j v w next (list_at x l.kind r) ∷ [] =
      subst (λ (o : ListType). after ≡ added j v w next o ∷ []) same is
      in
      let grown = spends r (with_lists a (bind v r (unbind w.0 a.lists))) in
      let accounts : grows_list (bound_to w.0 a.lists) v w a ≡ grown ∷ [] =
      ap (λ (o : Option Amount). grows_list o v w a) f.carried
      in
      let afforded : Affords y grown = onward-afforded _ grown needs is accounts in
      let before = list-beside (unbound-beside (at_code-beside b next) w.0) v l.kind r in
      let beside = spends-beside before j.q k.q r b.left b.right (omega (arith, h.enough, f.worth)) afforded in
      let later : List Judgement = added k v w next m ∷ [] in
      record {
        later = later;
        row = (
          m,
          record {
            there = f.other;
            element = along b (λ s. HasKind lists s.kinds e l.kind) h.element;
            enough = enough b r afforded;
            free = free b v h.free;
          },
          refl,
        );
        each = subst (λ (bs : List Account). EachBeside x y after later bs) (sym accounts) (one is_here beside);
      }

  -- a list is taken apart
  match-carried : {j k : Judgement} {a : Account} {after : List Judgement} (at : ℕ) (w head tail : VarId)
      (empty_next full_next : CodeId) (l : ListType) → Beside x y j k a → TakesApart j w head tail l
      → after ≡ taken_apart j w head tail empty_next full_next l
      → Carried lists x y k (code.Match at w empty_next head tail full_next) after
      (accounts_after lists (code.Match at w empty_next head tail full_next) a)
  match-carried {j} {k} {a} {after} at w head tail empty_next full_next l b h is =
      let f = found-both w.0 l b.lists h.there in
      let r = f.amount in
      let m = list_at y l.kind r in
      let same : l ≡ list_at x l.kind r =
      ap (λ (n : ℕ). let o : ListType = record { kind = l.kind; amount = n } in o) f.worth
      in
      let is_here : after ≡ taken_apart j w head tail empty_next full_next (list_at x l.kind r) =
      subst (λ (o : ListType). after ≡ taken_apart j w head tail empty_next full_next o) same is
      in
      let ended = with_lists a (unbind w.0 a.lists) in
      let parted = gains r (with_lists a (bind tail r (unbind w.0 a.lists))) in
      let accounts : parts_list (bound_to w.0 a.lists) w tail a ≡ ended ∷ parted ∷ [] =
      ap (λ (o : Option Amount). parts_list o w tail a) f.carried
      in
      let with_tail = list-beside (unbound-beside (at_code-beside b full_next) w.0) tail l.kind r in
      let full = gains-beside (value-beside with_tail head l.kind) j.q k.q r b.left b.right in
      let later : List Judgement = taken_apart k w head tail empty_next full_next m in
      let head_free = free b head h.head_free in
      let tail_free = free b tail h.tail_free in
      record {
        later = later;
        row = (
          m,
          record { there = f.other; differ = h.differ; head_free = head_free; tail_free = tail_free },
          refl,
        );
        each = subst (λ (bs : List Account). EachBeside x y after later bs) (sym accounts)
            (two is_here (unbound-beside (at_code-beside b empty_next) w.0) full);
      }

  -- a process is spawned
  spawn-carried : {j k : Judgement} {a : Account} {after : List Judgement} (at : ℕ) (v : VarId) (f : ProcId)
      (args : Args) (next : CodeId) (d : ProcDecl) (left : Judgement) → IsJudgement lists j → Beside x y j k a
      → StandsAtCode lists j (code.Spawn at v f args next) → Spawns lists x j v f args d left
      → after ≡ binds_channel (with_potential (at_code left next) (j.q - dths x d.amount)) v d.mode d.offers ∷ []
      → MeetsNeeds lists y j a (code.Spawn at v f args next) after
      → Carried lists x y k (code.Spawn at v f args next) after (accounts_after lists (code.Spawn at v f args next) a)
  spawn-carried {j} {k} {a} {after} at v f args next d left is_judgement b there h is needs =
      let invokes = spawns there h.declared in
      let (rest, fit, besides) =
      arguments-pass b is_judgement h.arguments
      (λ w par r s among bound its. needs.pairs (r, s) (carried invokes among bound its))
      (λ u par own among of p stand. needs.pairs p (compared (passed invokes among of) stand))
      in
      let left_account = with_lists a (without_passed args.values a.lists) in
      let spent = spends d.amount left_account in
      let accounts : spends_for (slice_get lists.procs f.0) left_account ∷ [] ≡ spent ∷ [] =
      ap (λ (o : Option ProcDecl). spends_for o left_account ∷ []) h.declared
      in
      let afforded : Affords y spent = onward-afforded _ spent needs is accounts in
      let paid_for = spends-beside (at_code-beside besides next) j.q k.q d.amount b.left b.right h.enough afforded in
      let left_over = with_potential (at_code rest next) (k.q - dths y d.amount) in
      let later : List Judgement = binds_channel left_over v d.mode d.offers ∷ [] in
      record {
        later = later;
        row = (
          d,
          rest,
          record {
            declared = h.declared;
            mode = along b (λ s. IsTrue (may_spawn s.mode d.mode)) h.mode;
            arguments = fit;
            enough = enough b d.amount afforded;
            free = free b v h.free;
          },
          refl,
        );
        each = subst (λ (bs : List Account). EachBeside x y after later bs) (sym accounts)
            (one is (channel-beside paid_for v d.mode d.offers));
      }

  -- a process goes on as another declaration
  call-carried : {j k : Judgement} {a : Account} {after : List Judgement} (at : ℕ) (f : ProcId) (args : Args)
      → IsJudgement lists j
      → Beside x y j k a → StandsAtCode lists j (code.Call at f args) → Calls lists x j f args
      → MeetsNeeds lists y j a (code.Call at f args) after → Calls lists y k f args
  call-carried {j} {k} {a} at f args is_judgement b there h needs =
      let invokes = calls there h.declared in
      let (rest, fit, besides) =
      arguments-pass b is_judgement h.arguments
      (λ w par r s among bound its. needs.pairs (r, s) (carried invokes among bound its))
      (λ u par own among of p stand. needs.pairs p (compared (passed invokes among of) stand))
      in
      let offers : AlikeTypes lists y j.offers h.d.offers =
      alike-changed h.offers (λ p stand. needs.pairs p (compared (called there h.declared) stand))
      in
      record {
        d = h.d;
        declared = h.declared;
        offers = along b (λ s. AlikeTypes lists y s.offers h.d.offers) offers;
        mode = along b (λ s. h.d.mode ≡ s.mode) h.mode;
        left = rest;
        arguments = fit;
        nothing_held = along besides (λ s. s.linear ≡ []) h.nothing_held;
        enough = enough b h.d.amount (needs.call at f args h.d refl h.declared);
      }

  -- a row is carried over, by the node at which both sides stand
  pub row-carried : {j k : Judgement} {a : Account} {after : List Judgement} (n : CodeNode) → IsJudgement lists j
      → Beside x y j k a → StandsAtCode lists j n → RowAt lists x j n after → MeetsNeeds lists y j a n after
      → Carried lists x y k n after (accounts_after lists n a)
  row-carried {k = k} (code.Label at c l next) is_judgement b there (t, h, e) needs =
      record {
        later = goes_on k c t next ∷ [];
        row = (
          t,
          record { branches = h.branches; channel = has_type-beside c _ b h.channel; goes = h.goes },
          refl,
        );
        each = one e (goes_on-beside b c t next);
      }
  row-carried {k = k} (code.Case at c arms) is_judgement b there h needs =
      let (later, arms_go, each) = arms-carried c h.branches b h.each_arm in
      record {
        later = later;
        row = record {
          branches = h.branches;
          channel = has_type-beside c _ b h.channel;
          each_label = h.each_label;
          each_arm = arms_go;
        };
        each = each;
      }
  row-carried {k = k} (code.Send at c v next) is_judgement b there (left, t, h, e) needs =
      let (rest, passes, besides) =
      channel-passes b h.passes (λ own of p stand. needs.pairs p (compared (sent there of t h.channel) stand))
      in
      record {
        later = goes_on rest c t next ∷ [];
        row = (
          rest,
          t,
          record { carried = h.carried; channel = has_type-beside c _ b h.channel; other = h.other; passes = passes },
          refl,
        );
        each = one e (goes_on-beside besides c t next);
      }
  row-carried {k = k} (code.Recv at c v next) is_judgement b there (m, u, t, h, e) needs =
      record {
        later = binds_channel (goes_on k c t next) v m u ∷ [];
        row = (
          m,
          u,
          t,
          record { channel = has_type-beside c _ b h.channel; mode = h.mode; free = free b v h.free },
          refl,
        );
        each = one e (channel-beside (goes_on-beside b c t next) v m u);
      }
  row-carried {k = k} (code.Put at c e next) is_judgement b there (t, h, eq) needs =
      record {
        later = goes_on k c t next ∷ [];
        row = (
          t,
          record {
            kind = h.kind;
            channel = has_type-beside c _ b h.channel;
            value = along b (λ s. HasKind lists s.kinds e h.kind) h.value;
          },
          refl,
        );
        each = one eq (goes_on-beside b c t next);
      }
  row-carried {k = k} (code.Take at c v next) is_judgement b there (kind, t, h, e) needs =
      record {
        later = binds_value (goes_on k c t next) v kind ∷ [];
        row = (kind, t, record { channel = has_type-beside c _ b h.channel; free = free b v h.free }, refl);
        each = one e (value-beside (goes_on-beside b c t next) v kind);
      }
  row-carried {j} {k} {a} (code.Pay at c r next) is_judgement b there (t, h, e) needs =
      let afforded : Affords y (spends r a) = onward-afforded _ (spends r a) needs e refl in
      record {
        later = with_potential (goes_on k c t next) (k.q - dths y r) ∷ [];
        row = (
          t,
          record {
            amount = h.amount;
            channel = has_type-beside c _ b h.channel;
            same = needs.pairs (r, h.amount) (paid there t h.channel);
            enough = enough b r afforded;
          },
          refl,
        );
        each = one e (spends-beside (goes_on-beside b c t next) j.q k.q r b.left b.right h.enough afforded);
      }
  row-carried {j} {k} {a} (code.Get at c r next) is_judgement b there (t, h, e) needs =
      record {
        later = with_potential (goes_on k c t next) (k.q + dths y r) ∷ [];
        row = (
          t,
          record {
            amount = h.amount;
            channel = has_type-beside c _ b h.channel;
            same = needs.pairs (r, h.amount) (got there t h.channel);
          },
          refl,
        );
        each = one e (gains-beside (goes_on-beside b c t next) j.q k.q r b.left b.right);
      }
  row-carried {j} {k} {a} (code.Work at r next) is_judgement b there (h, e) needs =
      let afforded : Affords y (spends r a) = onward-afforded _ (spends r a) needs e refl in
      record {
        later = with_potential (at_code k next) (k.q - dths y r) ∷ [];
        row = (enough b r afforded, refl);
        each = one e (spends-beside (at_code-beside b next) j.q k.q r b.left b.right h afforded);
      }
  row-carried {k = k} (code.Wait at v next) is_judgement b there (h, e) needs =
      record {
        later = at_code (gives_up k v) next ∷ [];
        row = (has_type-beside (chan.Var v) _ b h, refl);
        each = one e (at_code-beside (gives_up-beside b v) next);
      }
  row-carried {k = k} (code.Accept at next) is_judgement b there (t, h, e) needs =
      record {
        later = record k { mode = mode.L; offers = t; code = next } ∷ [];
        row = (
          t,
          record { mode = along b (λ s. s.mode ≡ mode.S) h.mode; channel = has_type-beside chan.Own _ b h.channel },
          refl,
        );
        each = one e (taken_over-beside b mode.L t next);
      }
  row-carried {k = k} (code.Detach at next) is_judgement b there (t, h, e) needs =
      record {
        later = record k { mode = mode.S; offers = t; code = next } ∷ [];
        row = (
          t,
          record {
            mode = along b (λ s. s.mode ≡ mode.L) h.mode;
            channel = has_type-beside chan.Own _ b h.channel;
            nothing_held = along b (λ s. All (λ c. HasMode lists c.1 mode.R) s.linear) h.nothing_held;
          },
          refl,
        );
        each = one e (taken_over-beside b mode.S t next);
      }
  row-carried {k = k} (code.Acquire at v w next) is_judgement b there (t, h, e) needs =
      record {
        later = binds_channel (at_code k next) w mode.L t ∷ [];
        row = (
          t,
          record {
            mode = along b (λ s. (s.mode ≡ mode.L) ⊎ (s.mode ≡ mode.T)) h.mode;
            own = h.own;
            reference = along b (λ s. bound_to v.0 s.shared ≡ Some h.own) h.reference;
            unfolds = h.unfolds;
            free = free b w h.free;
          },
          refl,
        );
        each = one e (channel-beside (at_code-beside b next) w mode.L t);
      }
  row-carried {k = k} (code.Release at v w next) is_judgement b there (t, h, e) needs =
      record {
        later = binds_channel (at_code (gives_up k v) next) w mode.S t ∷ [];
        row = (t, record { channel = has_type-beside (chan.Var v) _ b h.channel; free = free b w h.free }, refl);
        each = one e (channel-beside (at_code-beside (gives_up-beside b v) next) w mode.S t);
      }
  row-carried (code.Spawn at v f args next) is_judgement b there (d, left, h, e) needs =
      spawn-carried at v f args next d left is_judgement b there h e needs
  row-carried {k = k} (code.Let at v e next) is_judgement b there (kind, h, is_free, eq) needs =
      record {
        later = binds_value (at_code k next) v kind ∷ [];
        row = (kind, along b (λ s. HasKind lists s.kinds e kind) h, free b v is_free, refl);
        each = one eq (value-beside (at_code-beside b next) v kind);
      }
  row-carried {k = k} (code.Emit at e next) is_judgement b there (kind, h, eq) needs =
      record {
        later = at_code k next ∷ [];
        row = (kind, along b (λ s. HasKind lists s.kinds e kind) h, refl);
        each = one eq (at_code-beside b next);
      }
  row-carried {k = k} (code.If at e then_next else_next) is_judgement b there (h, eq) needs =
      record {
        later = at_code k then_next ∷ at_code k else_next ∷ [];
        row = (along b (λ s. HasKind lists s.kinds e bool_kind) h, refl);
        each = two eq (at_code-beside b then_next) (at_code-beside b else_next);
      }
  row-carried {k = k} (code.Close at) is_judgement b there (h, e) needs =
      record {
        later = [];
        row = (
          record {
            channel = has_type-beside chan.Own _ b h.channel;
            mode = along b (λ s. (s.mode ≡ mode.R) ⊎ (s.mode ≡ mode.T)) h.mode;
            nothing_held = along b (λ s. s.linear ≡ []) h.nothing_held;
          },
          refl,
        );
        each = no_more e;
      }
  row-carried {j} {k} (code.Fwd at v) is_judgement b there (h, e) needs =
      let own : AlikeTypes lists y j.offers h.own =
      alike-changed h.alike
      (λ p stand. needs.pairs p (compared (forwarded there (only-bound v h.own j.linear h.only)) stand))
      in
      record {
        later = [];
        row = (
          record {
            mode = along b (λ s. s.mode ≡ mode.R) h.mode;
            own = h.own;
            only = along b (λ s. s.linear ≡ (v, h.own) ∷ []) h.only;
            alike = along b (λ s. AlikeTypes lists y s.offers h.own) own;
          },
          refl,
        );
        each = no_more e;
      }
  row-carried (code.Call at f args) is_judgement b there (h, e) needs =
      record { later = []; row = (call-carried at f args is_judgement b there h needs, refl); each = no_more e }
  row-carried {k = k} (code.Empty at v r kind next) is_judgement b there (h, e) needs =
      record {
        later = binds_list (at_code k next) v (list_at y kind r) ∷ [];
        row = (free b v h, refl);
        each = one e (list-beside (at_code-beside b next) v kind r);
      }
  row-carried (code.Add at v e w next) is_judgement b there (l, h, eq) needs =
      add-carried at v w e next l b h eq needs
  row-carried (code.Match at w empty_next head tail full_next) is_judgement b there (l, h, eq) needs =
      match-carried at w head tail empty_next full_next l b h eq
