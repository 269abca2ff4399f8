-- A judgement under the one amounts stands beside one under other amounts where they differ in amounts alone, and both
-- have the amounts of one account.
use Rattle.std.proofs.Common.{◌≡◌, ◌≤◌, ◌+◌, ◌-◌, ℕ, List, [], ◌∷◌, map, Contains, zip, zero, suc, refl, ap, sym, subst, ◌∙◌, arith}
use Rattle.std.proofs.lemmas.List.Sums.{sum_by-cons}
use Rattle.nomos_ir.specs.declared.amount.Amount.{Amount}
use Rattle.nomos_ir.specs.declared.code_node.Chan.{Chan}
use Rattle.nomos_ir.specs.declared.code_node.Chan.TheVariants as chan
use Rattle.nomos_ir.specs.declared.code_node.CodeNode.{CodeNode}
use Rattle.nomos_ir.specs.declared.ids.CodeId.{CodeId}
use Rattle.nomos_ir.specs.declared.ids.TypeId.{TypeId}
use Rattle.nomos_ir.specs.declared.ids.VarId.{VarId}
use Rattle.nomos_ir.specs.declared.kind.Kind.{Kind}
use Rattle.nomos_ir.specs.declared.lists.ProgramLists.{ProgramLists}
use Rattle.nomos_ir.specs.declared.mode.Mode.{Mode}
use Rattle.nomos_ir.specs.declared.mode.Mode.TheVariants as mode
use Rattle.nomos_ir.specs.declared.type_node.TypeNode.{TypeNode}
use Rattle.nomos_ir.specs.Bindings.{bind, unbind}
use Rattle.nomos_types.specs.Amount.{Annotations, dths}
use Rattle.nomos_types.specs.Judgement.{Judgement, ListType, IsFree, channel_type, at_code, goes_on, with_potential, binds_value, binds_list, binds_channel}
use Rattle.nomos_types.specs.Premises.{HasType}
use Rattle.nomos_types.specs.TypingRule.{StandsAtCode, gives_up}
use Rattle.nomos_check.specs.Account.{Account, gains, spends, with_lists, worth_of, Affords}
use Rattle.nomos_check.proofs.ListAmounts.{CarryBoth, list_at, counted-both, bind-both, unbind-both, second-both, both-back}

-- the judgement with other lists and another potential
abbrev pub changed : Judgement → List (VarId × ListType) → ℕ → Judgement
changed j ms q = record j { lists = ms; q = q }

-- the mode and the type of `self` change
abbrev taken_over : Mode → TypeId → CodeId → Judgement → Judgement
taken_over m t next j = record j { mode = m; offers = t; code = next }

pub record Beside (x y : Annotations) (j k : Judgement) (a : Account) : Type 0 where
  pub same : k ≡ changed j k.lists k.q
  pub lists : CarryBoth x y j.lists k.lists a.lists
  pub left : j.q + worth_of x a.spent ≡ worth_of x a.gained
  pub right : k.q + worth_of y a.spent ≡ worth_of y a.gained

-- each judgement stands beside the one at its place, with the account there
pub data EachBeside (x y : Annotations) : List Judgement → List Judgement → List Account → Type 0 where
  none : EachBeside x y [] [] []
  more : {j k : Judgement} {a : Account} {js ks : List Judgement} {bs : List Account} → Beside x y j k a
      → EachBeside x y js ks bs → EachBeside x y (j ∷ js) (k ∷ ks) (a ∷ bs)

module _ {x y : Annotations} where
  -- ---- lists of judgements

  -- single judgements
  pub one : {after : List Judgement} {j k : Judgement} {a : Account} → after ≡ j ∷ [] → Beside x y j k a
      → EachBeside x y after (k ∷ []) (a ∷ [])
  one {k = k} {a = a} is beside =
      subst (λ (l : List Judgement). EachBeside x y l (k ∷ []) (a ∷ [])) (sym is) (more beside none)

  -- two of them
  pub two : {after : List Judgement} {i j k l : Judgement} {a b : Account} → after ≡ i ∷ j ∷ [] → Beside x y i k a
      → Beside x y j l b → EachBeside x y after (k ∷ l ∷ []) (a ∷ b ∷ [])
  two {k = k} {l = l} {a = a} {b = b} is first second =
      subst (λ (s : List Judgement). EachBeside x y s (k ∷ l ∷ []) (a ∷ b ∷ [])) (sym is)
      (more first (more second none))

  -- no judgements
  pub no_more : {after : List Judgement} → after ≡ [] → EachBeside x y after [] []
  no_more is = subst (λ (l : List Judgement). EachBeside x y l [] []) (sym is) none

  -- ---- judgements side by side
  module _ {j k : Judgement} {a : Account} (beside : Beside x y j k a) where
    -- what holds of the one with the other's lists and potential holds of the other
    pub along : (P : Judgement → Type 0) → P (changed j k.lists k.q) → P k
    along P holds = subst P (sym beside.same) holds

    -- the same part
    pub part : {X : Type 0} (f : Judgement → X) → f j ≡ f (changed j k.lists k.q) → f j ≡ f k
    part f is = is ∙ ap f (sym beside.same)

    -- as many parts have a variable
    pub free : (v : VarId) → IsFree j v → IsFree k v
    free v is_free =
        along (λ s. IsFree s v) (omega (arith, counted-both v.0 beside.lists, is_free))

    -- both stand at the same instruction
    pub stands : (lists : ProgramLists) (n : CodeNode) → StandsAtCode lists j n → StandsAtCode lists k n
    stands lists n there = along (λ s. StandsAtCode lists s n) there

    -- the process goes on
    pub at_code-beside : (next : CodeId) → Beside x y (at_code j next) (at_code k next) a
    at_code-beside next =
        record {
          same = ap (λ s. at_code s next) beside.same;
          lists = beside.lists;
          left = beside.left;
          right = beside.right;
        }

    -- the channel goes on
    pub goes_on-beside : (c : Chan) (t : TypeId) (next : CodeId)
        → Beside x y (goes_on j c t next) (goes_on k c t next) a
    goes_on-beside chan.Own t next =
        record {
          same = ap (λ s. goes_on s chan.Own t next) beside.same;
          lists = beside.lists;
          left = beside.left;
          right = beside.right;
        }
    goes_on-beside (chan.Var v) t next =
        record {
          same = ap (λ s. goes_on s (chan.Var v) t next) beside.same;
          lists = beside.lists;
          left = beside.left;
          right = beside.right;
        }

    -- the mode and the type of `self` change
    pub taken_over-beside : (m : Mode) (t : TypeId) (next : CodeId)
        → Beside x y (taken_over m t next j) (taken_over m t next k) a
    taken_over-beside m t next =
        record {
          same = ap (taken_over m t next) beside.same;
          lists = beside.lists;
          left = beside.left;
          right = beside.right;
        }

    -- a channel is used up
    pub gives_up-beside : (v : VarId) → Beside x y (gives_up j v) (gives_up k v) a
    gives_up-beside v =
        record {
          same = ap (λ s. gives_up s v) beside.same;
          lists = beside.lists;
          left = beside.left;
          right = beside.right;
        }

    -- a value is bound
    pub value-beside : (v : VarId) (kind : Kind) → Beside x y (binds_value j v kind) (binds_value k v kind) a
    value-beside v kind =
        record {
          same = ap (λ s. binds_value s v kind) beside.same;
          lists = beside.lists;
          left = beside.left;
          right = beside.right;
        }

    -- a reference is bound
    shared-beside : (v : VarId) (t : TypeId)
        → Beside x y (record j { shared = bind v t j.shared }) (record k { shared = bind v t k.shared }) a
    shared-beside v t =
        record {
          same = ap (λ (s : Judgement). let r : Judgement = record s { shared = bind v t s.shared } in r) beside.same;
          lists = beside.lists;
          left = beside.left;
          right = beside.right;
        }

    -- a channel that is used exactly once is bound
    linear-beside : (v : VarId) (t : TypeId)
        → Beside x y (record j { linear = bind v t j.linear }) (record k { linear = bind v t k.linear }) a
    linear-beside v t =
        record {
          same = ap (λ (s : Judgement). let r : Judgement = record s { linear = bind v t s.linear } in r) beside.same;
          lists = beside.lists;
          left = beside.left;
          right = beside.right;
        }

    -- a channel is bound
    pub channel-beside : (v : VarId) (m : Mode) (t : TypeId)
        → Beside x y (binds_channel j v m t) (binds_channel k v m t) a
    channel-beside v mode.S t = shared-beside v t
    channel-beside v mode.R t = linear-beside v t
    channel-beside v mode.L t = linear-beside v t
    channel-beside v mode.T t = linear-beside v t

    -- a list is bound
    pub list-beside : (v : VarId) (kind : Kind) (r : Amount)
        → Beside x y (binds_list j v (list_at x kind r)) (binds_list k v (list_at y kind r))
        (with_lists a (bind v r a.lists))
    list-beside v kind r =
        record {
          same = ap (λ (s : Judgement). changed s (bind v (list_at y kind r) k.lists) k.q) beside.same;
          lists = bind-both v kind r beside.lists;
          left = beside.left;
          right = beside.right;
        }

    -- a list is used up
    pub unbound-beside : (v : ℕ)
        → Beside x y (record j { lists = unbind v j.lists }) (record k { lists = unbind v k.lists })
        (with_lists a (unbind v a.lists))
    unbound-beside v =
        record {
          same = ap (λ (s : Judgement). changed s (unbind v k.lists) k.q) beside.same;
          lists = unbind-both v beside.lists;
          left = beside.left;
          right = beside.right;
        }

    -- an amount is spent
    pub spends-beside : (p q : ℕ) (r : Amount) → p + worth_of x a.spent ≡ worth_of x a.gained
        → q + worth_of y a.spent ≡ worth_of y a.gained → dths x r ≤ p → Affords y (spends r a)
        → Beside x y (with_potential j (p - dths x r)) (with_potential k (q - dths y r)) (spends r a)
    spends-beside p q r left right enough affords =
        let spent_left = sum_by-cons (dths x) r a.spent in
        let spent_right = sum_by-cons (dths y) r a.spent in
        record {
          same = ap (λ (s : Judgement). changed s k.lists (q - dths y r)) beside.same;
          lists = beside.lists;
          left = omega (arith, spent_left, left, enough);
          right = omega (arith, spent_right, right, affords);
        }

    -- an amount is gained
    pub gains-beside : (p q : ℕ) (r : Amount) → p + worth_of x a.spent ≡ worth_of x a.gained
        → q + worth_of y a.spent ≡ worth_of y a.gained
        → Beside x y (with_potential j (p + dths x r)) (with_potential k (q + dths y r)) (gains r a)
    gains-beside p q r left right =
        let gained_left = sum_by-cons (dths x) r a.gained in
        let gained_right = sum_by-cons (dths y) r a.gained in
        record {
          same = ap (λ (s : Judgement). changed s k.lists (q + dths y r)) beside.same;
          lists = beside.lists;
          left = omega (arith, gained_left, left);
          right = omega (arith, gained_right, right);
        }

    -- what is left on the side of the other amounts is enough for an amount that the account affords
    pub enough : (r : Amount) → Affords y (spends r a) → dths y r ≤ k.q
    enough r affords = omega (arith, sum_by-cons (dths y) r a.spent, beside.right, affords)

    -- and the other way, on the side of the first amounts
    pub affords : (r : Amount) → dths x r ≤ j.q → Affords x (spends r a)
    affords r enough = omega (arith, sum_by-cons (dths x) r a.spent, beside.left, enough)

-- ---- types of channels

-- a channel has the same type where lists and potential are others
changed-channel : (j : Judgement) (ms : List (VarId × ListType)) (q : ℕ) (c : Chan)
    → channel_type j c ≡ channel_type (changed j ms q) c
changed-channel j ms q chan.Own = refl
changed-channel j ms q (chan.Var v) = refl

-- a channel has the same type on both sides
pub has_type-beside : {lists : ProgramLists} {x y : Annotations} {j k : Judgement} {a : Account} → (c : Chan)
    (n : TypeNode) → Beside x y j k a → HasType lists j c n → HasType lists k c n
has_type-beside {j = j} {k = k} c n beside (t, found, unfolds) =
    (t, sym (part beside (λ s. channel_type s c) (changed-channel j k.lists k.q c)) ∙ found, unfolds)

pub has_type-back : {lists : ProgramLists} {x y : Annotations} {j k : Judgement} {a : Account} → (c : Chan)
    (n : TypeNode) → Beside x y j k a → HasType lists k c n → HasType lists j c n
has_type-back {j = j} {k = k} c n beside (t, found, unfolds) =
    (t, part beside (λ s. channel_type s c) (changed-channel j k.lists k.q c) ∙ found, unfolds)

-- ---- places in lists

-- What stands beside a judgement and an account of two lists at one place stands at that place too.
pub record AtPlace (x y : Annotations) (js : List Judgement) (k : Judgement) (a : Account) : Type 0 where
  pub judgement : Judgement
  pub among : Contains js judgement
  pub beside : Beside x y judgement k a

module _ {x y : Annotations} where
  pub at-place : {js ks : List Judgement} {bs : List Account} (k : Judgement) (a : Account) → EachBeside x y js ks bs
      → Contains (zip ks bs) (k, a) → AtPlace x y js k a
  at-place k a none (i, inside, is) = absurd (omega arith)
  at-place k a (more {j = j} {k = l} {a = b} {js = js} {ks = ks} {bs = bs} beside rest) (zero, inside, is) =
      let first : l ≡ k = ap (λ (p : Judgement × Account). p.0) is in
      let second : b ≡ a = ap (λ (p : Judgement × Account). p.1) is in
      record {
        judgement = j;
        among = (0, omega arith, refl);
        beside = subst (λ (s : Judgement). Beside x y j s a) first
            (subst (λ (c : Account). Beside x y j l c) second beside);
      }
  at-place k a (more beside rest) (suc i, inside, is) =
      let there = at-place k a rest (i, omega arith, is) in
      let (at, within, found) = there.among in
      record { judgement = there.judgement; among = (suc at, omega arith, found); beside = there.beside }

-- what stands on the first side, with an account, beside a judgement of the second side
pub record Behind (x y : Annotations) (js : List Judgement) (bs : List Account) (k : Judgement) : Type 0 where
  pub judgement : Judgement
  pub account : Account
  pub among : Contains js judgement
  pub paired : Contains (zip js bs) (judgement, account)
  pub beside : Beside x y judgement k account

module _ {x y : Annotations} where
  -- each judgement on the second side has one on the first, and an account, at its place
  pub behind : {js ks : List Judgement} {bs : List Account} (k : Judgement) → EachBeside x y js ks bs
      → Contains ks k → Behind x y js bs k
  behind k none (i, inside, is) = absurd (omega arith)
  behind k (more {j = j} {k = l} {a = b} {js = js} {ks = ks} {bs = bs} beside rest) (zero, inside, is) =
      record {
        judgement = j;
        account = b;
        among = (0, omega arith, refl);
        paired = (0, omega arith, refl);
        beside = subst (λ (s : Judgement). Beside x y j s b) is beside;
      }
  behind k (more beside rest) (suc i, inside, is) =
      let there = behind k rest (i, omega arith, is) in
      let (at, within, found) = there.among in
      let (pair_at, pair_within, pair_found) = there.paired in
      record {
        judgement = there.judgement;
        account = there.account;
        among = (suc at, omega arith, found);
        paired = (suc pair_at, omega arith, pair_found);
        beside = there.beside;
      }

  -- each judgement on the second side has an account at its place
  pub its-account : {js ks : List Judgement} {bs : List Account} (k : Judgement) → EachBeside x y js ks bs
      → Contains ks k → (a : Account) × Contains (zip ks bs) (k, a)
  its-account k none (i, inside, is) = absurd (omega arith)
  its-account k (more {a = a} beside rest) (zero, inside, is) =
      (a, (0, omega arith, ap (λ (s : Judgement). let p : Judgement × Account = (s, a) in p) is))
  its-account k (more beside rest) (suc i, inside, is) =
      let (a, (at, within, found)) = its-account k rest (i, omega arith, is) in
      (a, (suc at, omega arith, found))

-- beside each judgement of the second side stands one account
pub judgements-paired : {x y : Annotations} {js ks : List Judgement} {bs : List Account} → EachBeside x y js ks bs
    → map (λ (e : Judgement × Account). e.0) (zip ks bs) ≡ ks
judgements-paired none = refl
judgements-paired (more {k = k} beside rest) = ap (λ (ls : List Judgement). k ∷ ls) (judgements-paired rest)

-- a judgement of the second side stands beside itself
pub second-beside : {x y : Annotations} {j k : Judgement} {a : Account} → Beside x y j k a → Beside y y k k a
second-beside beside =
    record { same = refl; lists = second-both beside.lists; left = beside.right; right = beside.right }

-- ---- the other way round

-- the two sides change places
pub beside-back : {x y : Annotations} {j k : Judgement} {a : Account} → Beside x y j k a → Beside y x k j a
beside-back {j = j} {k = k} beside =
    record {
      same = sym (ap (λ (s : Judgement). changed s j.lists j.q) beside.same);
      lists = both-back beside.lists;
      left = beside.right;
      right = beside.left;
    }

pub each-back : {x y : Annotations} {js ks : List Judgement} {bs : List Account} → EachBeside x y js ks bs
    → EachBeside y x ks js bs
each-back none = none
each-back (more beside rest) = more (beside-back beside) (each-back rest)
