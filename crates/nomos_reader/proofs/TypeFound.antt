-- What the reader of types finds in tokens that a type prints.
use Rattle.std.proofs.Common.{◌≡◌, ℕ, zero, suc, ◌≤◌, true, false, List, [], ◌∷◌, ◌++◌, length, Some, None, refl, ap, ◌∙◌, arith}
use Rattle.std.specs.Prelude.{codes}
use Rattle.nomos_grammar.specs.declared.part.Nonterminal.TheVariants as the_production
use Rattle.nomos_ir.specs.declared.kind.Base.{Base}
use Rattle.nomos_ir.specs.declared.kind.Base.TheVariants as base
use Rattle.nomos_ir.specs.declared.word.Word.TheVariants as word
use Rattle.nomos_reader.proofs.Found.{Found, EndsList, append_more, at_this, behind, first_of_shown, last_read, more_read, potential_found, sign_ends_list, value_type_found, with_this}
use Rattle.nomos_surface.specs.declared.name_at.NameAt.{NameAt}
use Rattle.nomos_surface.specs.declared.potential.Potential.{Potential}
use Rattle.nomos_surface.specs.declared.types.Sender.{Sender}
use Rattle.nomos_surface.specs.declared.types.Sender.TheVariants as sender
use Rattle.nomos_surface.specs.declared.value_type.ValueType.{ValueType}
use Rattle.nomos_surface.specs.Grammatical.{IsType, is_up, is_down, is_paying, is_valued, is_channel, is_atom, is_one, is_named, is_choice, is_grouped, AreBranches, last_branch, more_branches}
use Rattle.nomos_reader.specs.mirror.Front.{Reader, front_at, front_kind, is_bar, read_parted, read_potential, read_value_type, rest_of}
use Rattle.nomos_reader.specs.mirror.Types.{atom_from, carried_from, channel_sender, read_atom, read_branch, read_carrying, read_choice, read_grouped, read_paying, read_shift, read_type, read_valued, type_from, value_sender}
use Rattle.nomos_surface.specs.Print.{base_word, channel_sign, choice_sign, print_branches, print_lists, print_payment, print_potential, print_type, value_sign}
use Rattle.nomos_surface.specs.Printed.{Shown, at_offset, Meets, Spells, sign, sign_at, keyword_at, print_name, print_more, print_parted}
use Rattle.nomos_surface.specs.Tree.{TypeTree, one, named, choice, channel, valued, paying, going_up, going_down, grouped, BranchTrees, no_branches, branch}
use Rattle.nomos_surface.specs.TypeView.{Branch, branch_trees}
use Rattle.nomos_syntax.specs.declared.symbol.Symbol.{Symbol}
use Rattle.nomos_syntax.specs.declared.symbol.Symbol.TheVariants as sym
use Rattle.nomos_syntax.specs.declared.token.TokenKind.TheVariants as kind
use Rattle.nomos_syntax.specs.Lexeme.{name, reserved, number, symbol, Placed}

-- what follows does not carry on a type
abbrev pub EndsType : List Shown → Type 0
EndsType after = (tokens : List Placed) → Spells after tokens → channel_sender (front_kind tokens) ≡ None

pub sign_ends_type : (s : Symbol) (after : List Shown) → channel_sender (Some (kind.Symbol s)) ≡ None
    → EndsType (sign s ∷ after)
sign_ends_type s after e [] h = absurd h
sign_ends_type s after e (x ∷ tokens) h =
    with_this (λ y. channel_sender (front_kind (y ∷ tokens)) ≡ None) (symbol s) x h.0 e

-- no type is printed as nothing
no_lists : (lists : List ℕ) (s : Shown) (after : List Shown) → Spells (print_lists lists s after) [] → ⊥
no_lists [] s after h = h
no_lists (l ∷ lists) s after h = h

no_payment : (s : Sender) (at : ℕ) (q : Potential) (after : List Shown) → Spells (print_payment s at q after) [] → ⊥
no_payment sender.Provider at q after h = h
no_payment sender.Client at q after h = h

no_type : (t : TypeTree) (after : List Shown) → Spells (print_type t after) [] → ⊥
no_type (one at) after h = h
no_type (named n) after h = h
no_type (choice s at bs) after h = h
no_type (channel s at carried goes) after h = no_type carried _ h
no_type (valued s at v goes) after h = no_lists v.lists _ _ h
no_type (paying s at q goes) after h = no_payment s at q _ h
no_type (going_up at goes) after h = h
no_type (going_down at goes) after h = h
no_type (grouped inner) after h = h

no_room : (t : TypeTree) (after : List Shown) (tokens : List Placed) → length tokens ≤ 0
    → Spells (print_type t after) tokens → ⊥
no_room t after [] le h = no_type t after h
no_room t after (x ∷ tokens) le h = absurd (omega (arith, le))

-- which reader the first token chooses

lists_front : (inner : Reader TypeTree) (lists : List ℕ) (at : ℕ) (b : Base) (after : List Shown) (tokens : List Placed)
    →
    Spells (print_lists lists (keyword_at at (base_word b)) after) tokens
    → type_from inner (front_kind tokens) tokens ≡ read_valued inner tokens
unfolding type_from
lists_front inner [] at b after [] h = absurd h
lists_front inner [] at base.Int after (x ∷ tokens) h =
    at_this (λ y. type_from inner (front_kind (y ∷ tokens)) (y ∷ tokens) ≡ read_valued inner (y ∷ tokens))
    at (reserved word.Int) x h.0 refl
lists_front inner [] at base.Bool after (x ∷ tokens) h =
    at_this (λ y. type_from inner (front_kind (y ∷ tokens)) (y ∷ tokens) ≡ read_valued inner (y ∷ tokens))
    at (reserved word.Bool) x h.0 refl
lists_front inner (l ∷ lists) at b after [] h = absurd h
lists_front inner (l ∷ lists) at b after (x ∷ tokens) h =
    at_this (λ y. type_from inner (front_kind (y ∷ tokens)) (y ∷ tokens) ≡ read_valued inner (y ∷ tokens)) l
    (reserved word.List) x h.0 refl

abbrev Carries : Reader TypeTree → List Placed → Type 0
Carries inner tokens = type_from inner (front_kind tokens) tokens ≡ read_carrying inner tokens

choice_front : (inner : Reader TypeTree) (s : Sender) (at : ℕ) (x : Placed) (tokens : List Placed)
    → Meets (sign_at at (choice_sign s)) x → Carries inner (x ∷ tokens)
unfolding type_from
choice_front inner sender.Provider at x tokens m =
    at_this (λ y. Carries inner (y ∷ tokens)) at (symbol sym.Plus) x m refl
choice_front inner sender.Client at x tokens m =
    at_this (λ y. Carries inner (y ∷ tokens)) at (symbol sym.Ampersand) x m refl

atom_front : {t : TypeTree} → IsType the_production.Atom t
    → (inner : Reader TypeTree) (after : List Shown) (tokens : List Placed) →
    Spells (print_type t after) tokens → Carries inner tokens
unfolding type_from
atom_front (is_one {at}) inner after [] h = absurd h
atom_front (is_one {at}) inner after (x ∷ tokens) h =
    at_this (λ y. Carries inner (y ∷ tokens)) at (number (codes "1")) x h.0 refl
atom_front (is_named {n}) inner after [] h = absurd h
atom_front (is_named {n}) inner after (x ∷ tokens) h =
    at_this (λ y. Carries inner (y ∷ tokens)) n.at (name n.name) x h.0 refl
atom_front (is_choice {s} {at} are) inner after [] h = absurd h
atom_front (is_choice {s} {at} are) inner after (x ∷ tokens) h = choice_front inner s at x tokens h.0
atom_front (is_grouped i) inner after [] h = absurd h
atom_front (is_grouped i) inner after (x ∷ tokens) h =
    with_this (λ y. Carries inner (y ∷ tokens)) (symbol sym.OpenParen) x h.0 refl

-- what is behind an atom
carried_step : (inner : Reader TypeTree) (s : Sender) (at : ℕ) (a goes : TypeTree) (after : List Shown) (x : Placed)
    (tokens : List Placed) →
    Meets (sign_at at (channel_sign s)) x → (f : Found TypeTree inner goes after tokens) →
    carried_from inner a (channel_sender (front_kind (x ∷ tokens))) (x ∷ tokens) ≡ (channel s at a goes, f.rest)
unfolding carried_from
carried_step inner sender.Provider at a goes after x tokens m f =
    at_this (λ y. carried_from inner a (channel_sender (front_kind (y ∷ tokens))) (y ∷ tokens)
    ≡ (channel sender.Provider at a goes, f.rest))
    at (symbol sym.Star) x m (rw f.read refl)
carried_step inner sender.Client at a goes after x tokens m f =
    at_this (λ y. carried_from inner a (channel_sender (front_kind (y ∷ tokens))) (y ∷ tokens)
    ≡ (channel sender.Client at a goes, f.rest))
    at (symbol sym.Lollipop) x m (rw f.read refl)

arrow_said : (s : Sender) (at : ℕ) (x : Placed) (tokens : List Placed) → Meets (sign_at at (value_sign s)) x →
    (value_sender (front_kind (x ∷ tokens)) ≡ s) × (x.at ≡ at)
arrow_said sender.Provider at x tokens m =
    at_this (λ y. (value_sender (front_kind (y ∷ tokens)) ≡ sender.Provider) × (y.at ≡ at)) at (symbol sym.Wedge) x m
    (refl, refl)
arrow_said sender.Client at x tokens m =
    at_this (λ y. (value_sender (front_kind (y ∷ tokens)) ≡ sender.Client) × (y.at ≡ at)) at (symbol sym.Arrow) x m
    (refl, refl)

up_read : (room at : ℕ) (t : TypeTree) (x : Placed) (ts ws : List Placed) → Meets (keyword_at at word.Up) x
    → read_type room ts ≡ (t, ws) →
    read_type (suc room) (x ∷ ts) ≡ (going_up at t, ws)
unfolding read_type type_from read_shift
up_read room at t x ts ws m e =
    at_this (λ y. read_type (suc room) (y ∷ ts) ≡ (going_up at t, ws)) at (reserved word.Up) x m (rw e refl)

down_read : (room at : ℕ) (t : TypeTree) (x : Placed) (ts ws : List Placed) → Meets (keyword_at at word.Down) x
    → read_type room ts ≡ (t, ws) →
    read_type (suc room) (x ∷ ts) ≡ (going_down at t, ws)
unfolding read_type type_from read_shift
down_read room at t x ts ws m e =
    at_this (λ y. read_type (suc room) (y ∷ ts) ≡ (going_down at t, ws)) at (reserved word.Down) x m (rw e refl)

abbrev pay_sign : Sender → Symbol
pay_sign sender.Provider = sym.Bar
pay_sign sender.Client = sym.Less

abbrev paid_sign : Sender → Symbol
paid_sign sender.Provider = sym.Greater
paid_sign sender.Client = sym.Bar

-- what is paid, and a type
abbrev paid : ℕ → Sender → ℕ → Potential × List Placed → TypeTree × List Placed
paid room s at q = (paying s at q.0 (read_type room (rest_of q.1)).0, (read_type room (rest_of q.1)).1)

paying_read : (room : ℕ) (s : Sender) (at : ℕ) (q : Potential) (t : TypeTree) (x : Placed) (ts us : List Placed)
    (y : Placed) (vs ws : List Placed) →
    Meets (sign_at at (pay_sign s)) x → read_potential ts ≡ (q, us) → us ≡ y ∷ vs → read_type room vs ≡ (t, ws) →
    read_type (suc room) (x ∷ ts) ≡ (paying s at q t, ws)
unfolding read_type type_from read_paying
paying_read room sender.Provider at q t x ts us y vs ws m e w f =
    at_this (λ z. read_type (suc room) (z ∷ ts) ≡ (paying sender.Provider at q t, ws)) at (symbol sym.Bar) x m
    (ap (paid room sender.Provider at) e ∙ rw (w, f) refl)
paying_read room sender.Client at q t x ts us y vs ws m e w f =
    at_this (λ z. read_type (suc room) (z ∷ ts) ≡ (paying sender.Client at q t, ws)) at (symbol sym.Less) x m
    (ap (paid room sender.Client at) e ∙ rw (w, f) refl)

payment_spelled : (s : Sender) (at : ℕ) (q : Potential) (after : List Shown) (tokens : List Placed)
    → Spells (print_payment s at q after) tokens →
    Spells (sign_at at (pay_sign s) ∷ print_potential q (sign (paid_sign s) ∷ after)) tokens
payment_spelled sender.Provider at q after tokens h = h
payment_spelled sender.Client at q after tokens h = h

-- a value, and a type
abbrev sent : ℕ → ValueType × List Placed → TypeTree × List Placed
sent room v = (
  valued (value_sender (front_kind v.1)) (front_at v.1) v.0 (read_type room (rest_of v.1)).0,
  (read_type room (rest_of v.1)).1,
)

valued_read : (room : ℕ) (s : Sender) (at : ℕ) (v : ValueType) (t : TypeTree) (tokens us : List Placed) (x : Placed)
    (vs ws : List Placed) →
    type_from (read_type room) (front_kind tokens) tokens ≡ read_valued (read_type room) tokens
    → read_value_type tokens ≡ (v, us) → us ≡ x ∷ vs →
    value_sender (front_kind (x ∷ vs)) ≡ s → x.at ≡ at → read_type room vs ≡ (t, ws)
    → read_type (suc room) tokens ≡ (valued s at v t, ws)
unfolding read_type read_valued
valued_read room s at v t tokens us x vs ws front e w is k f = front ∙ ap (sent room) e ∙ rw (w, is, k, f) refl

channel_read : (room : ℕ) (s : Sender) (at : ℕ) (a t : TypeTree) (tokens us : List Placed) (x : Placed)
    (vs ws : List Placed) →
    Carries (read_type room) tokens → read_atom (read_type room) tokens ≡ (a, us) → us ≡ x ∷ vs →
    carried_from (read_type room) a (channel_sender (front_kind (x ∷ vs))) (x ∷ vs) ≡ (channel s at a t, ws) →
    read_type (suc room) tokens ≡ (channel s at a t, ws)
unfolding read_type read_carrying
channel_read room s at a t tokens us x vs ws front e w f = front ∙ (rw (e, w) f)

atom_read : (room : ℕ) (a : TypeTree) (tokens us : List Placed) → Carries (read_type room) tokens
    → read_atom (read_type room) tokens ≡ (a, us) →
    channel_sender (front_kind us) ≡ None → read_type (suc room) tokens ≡ (a, us)
unfolding read_type read_carrying carried_from
atom_read room a tokens us front e none = front ∙ (rw (e, none) refl)

grouped_read : (inner : Reader TypeTree) (t : TypeTree) (x : Placed) (ts us : List Placed) (y : Placed)
    (vs : List Placed) →
    Meets (sign sym.OpenParen) x → inner ts ≡ (t, us) → us ≡ y ∷ vs → read_atom inner (x ∷ ts) ≡ (grouped t, vs)
unfolding atom_from read_grouped
grouped_read inner t x ts us y vs m e w =
    with_this (λ z. read_atom inner (z ∷ ts) ≡ (grouped t, vs)) (symbol sym.OpenParen) x m (rw (e, w) refl)

one_read : (inner : Reader TypeTree) (at : ℕ) (x : Placed) (ts : List Placed)
    → Meets (at_offset at (number (codes "1"))) x → read_atom inner (x ∷ ts) ≡ (one at, ts)
unfolding atom_from
one_read inner at x ts m = at_this (λ z. read_atom inner (z ∷ ts) ≡ (one at, ts)) at (number (codes "1")) x m refl

named_read : (inner : Reader TypeTree) (n : NameAt) (x : Placed) (ts : List Placed) → Meets (print_name n) x
    → read_atom inner (x ∷ ts) ≡ (named n, ts)
unfolding atom_from
named_read inner n x ts m = at_this (λ z. read_atom inner (z ∷ ts) ≡ (named n, ts)) n.at (name n.name) x m refl

choice_read : (inner : Reader TypeTree) (s : Sender) (at : ℕ) (bs : List Branch) (x y : Placed) (ts us : List Placed)
    (z : Placed) (vs : List Placed) →
    Meets (sign_at at (choice_sign s)) x → read_parted (read_branch inner) is_bar (length ts) [] ts ≡ (bs, us)
    → us ≡ z ∷ vs →
    read_atom inner (x ∷ y ∷ ts) ≡ (choice s at (branch_trees bs), vs)
unfolding atom_from read_choice
choice_read inner sender.Provider at bs x y ts us z vs m e w =
    at_this (λ v. read_atom inner (v ∷ y ∷ ts) ≡ (choice sender.Provider at (branch_trees bs), vs)) at (symbol sym.Plus)
    x m (rw (e, w) refl)
choice_read inner sender.Client at bs x y ts us z vs m e w =
    at_this (λ v. read_atom inner (v ∷ y ∷ ts) ≡ (choice sender.Client at (branch_trees bs), vs))
    at (symbol sym.Ampersand) x m (rw (e, w) refl)

branch_read : (inner : Reader TypeTree) (l : NameAt) (t : TypeTree) (x y : Placed) (ts us : List Placed)
    → Meets (print_name l) x → inner ts ≡ (t, us) →
    read_branch inner (x ∷ y ∷ ts) ≡ ((l, t), us)
unfolding read_branch
branch_read inner l t x y ts us m e =
    at_this (λ v. read_branch inner (v ∷ y ∷ ts) ≡ ((l, t), us)) l.at (name l.name) x m (rw e refl)

-- the branches of a choice as a list
list_of : BranchTrees → List Branch
list_of no_branches = []
list_of (branch l t bs) = (l, t) ∷ list_of bs

trees_of_list : (bs : BranchTrees) → branch_trees (list_of bs) ≡ bs
unfolding list_of
trees_of_list no_branches = refl
trees_of_list (branch l t bs) = ap (λ (cs : BranchTrees). branch l t cs) (trees_of_list bs)

no_labels : {bs : BranchTrees} → AreBranches bs → (after : List Shown)
    → Spells (print_parted sym.Bar (print_branches bs) after) [] → ⊥
no_labels (last_branch g) after h = h
no_labels (more_branches g more) after h = h

-- the branches behind the first, with the `|` before them
parted_again : {bs : BranchTrees} → AreBranches bs → (after : List Shown) (t : TypeTree) (tokens : List Placed) →
    Spells (print_type t (print_more sym.Bar (print_branches bs) after)) tokens →
    Spells (print_type t (sign sym.Bar ∷ print_parted sym.Bar (print_branches bs) after)) tokens
parted_again (last_branch g) after t tokens h = h
parted_again (more_branches g more) after t tokens h = h

last_of : (inner : Reader TypeTree) (m : ℕ) (before : List Branch) (l : NameAt) (t : TypeTree) (tokens us : List Placed)
    →
    read_branch inner tokens ≡ ((l, t), us) → is_bar (front_kind us) ≡ false →
    read_parted (read_branch inner) is_bar (suc m) before tokens ≡ (before ++ list_of (branch l t no_branches), us)
unfolding list_of
last_of inner m before l t tokens us e ended = last_read (read_branch inner) is_bar m before (l, t) tokens us e ended

more_of : (inner : Reader TypeTree) (m : ℕ) (before : List Branch) (l : NameAt) (t : TypeTree) (bs : BranchTrees)
    (tokens us : List Placed) (z : Placed) (vs ws : List Placed) →
    read_branch inner tokens ≡ ((l, t), us) → us ≡ z ∷ vs → Meets (sign sym.Bar) z →
    read_parted (read_branch inner) is_bar m (before ++ (l, t) ∷ []) vs ≡ ((before ++ (l, t) ∷ []) ++ list_of bs, ws) →
    read_parted (read_branch inner) is_bar (suc m) before tokens ≡ (before ++ list_of (branch l t bs), ws)
unfolding list_of
more_of inner m before l t bs tokens us z vs ws e w bar r =
    let again : is_bar (front_kind (z ∷ vs))
    ≡ true = with_this (λ y. is_bar (front_kind (y ∷ vs)) ≡ true) (symbol sym.Bar) z bar refl in
    more_read (read_branch inner) is_bar m before (l, t) tokens us z vs e w again ∙ r
    ∙ ap (λ (bl : List Branch). let p : List Branch × List Placed = (bl, ws) in p)
    (append_more before (l, t) (list_of bs))

mutual
  pub type_found : {t : TypeTree} → IsType the_production.SessionType t
      → (room : ℕ) (after : List Shown) (tokens : List Placed) → EndsType after →
      length tokens ≤ room → Spells (print_type t after) tokens → Found TypeTree (read_type room) t after tokens
  type_found {t} is zero after tokens ends le h = absurd (no_room t after tokens le h)
  type_found (is_up g) (suc room) after [] ends le h = absurd h
  type_found (is_up {at} {goes = t} g) (suc room) after (x ∷ ts) ends le h =
      let f = type_found g room after ts ends (omega (arith, le)) h.1 in
      behind TypeTree TypeTree (read_type (suc room)) (going_up at t) (read_type room) t after (x ∷ ts) ts f
      (up_read room at t x ts f.rest h.0 f.read) (omega arith)
  type_found (is_down g) (suc room) after [] ends le h = absurd h
  type_found (is_down {at} {goes = t} g) (suc room) after (x ∷ ts) ends le h =
      let f = type_found g room after ts ends (omega (arith, le)) h.1 in
      behind TypeTree TypeTree (read_type (suc room)) (going_down at t) (read_type room) t after (x ∷ ts) ts f
      (down_read room at t x ts f.rest h.0 f.read) (omega arith)
  type_found (is_paying {s} {at} {q} g) (suc room) after [] ends le h = absurd (no_payment s at q _ h)
  type_found (is_paying {s} {at} {q} {goes = t} g) (suc room) after (x ∷ ts) ends le h =
      let h1 = payment_spelled s at q (print_type t after) (x ∷ ts) h in
      let p = potential_found q (sign (paid_sign s) ∷ print_type t after) ts h1.1 in
      let y = first_of_shown (sign (paid_sign s)) (print_type t after) p.rest p.spelled in
      let len : suc (length y.others) ≤ length ts = omega (arith, p.shorter, ap length y.whole) in
      let f = type_found g room after y.others ends (omega (arith, le, len)) y.spelled in
      behind TypeTree TypeTree (read_type (suc room)) (paying s at q t) (read_type room) t after (x ∷ ts) y.others f
      (paying_read room s at q t x ts p.rest y.first y.others f.rest h1.0 p.read y.whole f.read) (omega (arith, len))
  type_found (is_valued {s} {at} {value = v} {goes = t} g) (suc room) after tokens ends le h =
      let p = value_type_found v (sign_at at (value_sign s) ∷ print_type t after) tokens h in
      let y = first_of_shown (sign_at at (value_sign s)) (print_type t after) p.rest p.spelled in
      let len : suc (length y.others) ≤ length tokens = omega (arith, p.shorter, ap length y.whole) in
      let f = type_found g room after y.others ends (omega (arith, le, len)) y.spelled in
      let said = arrow_said s at y.first y.others y.meets in
      behind TypeTree TypeTree (read_type (suc room)) (valued s at v t) (read_type room) t after tokens y.others f
      (valued_read room s at v t tokens p.rest y.first y.others f.rest
      (lists_front (read_type room) v.lists v.base_at v.base _ tokens h)
      p.read y.whole said.0 said.1 f.read) (omega (arith, len))
  type_found (is_channel {s} {at} {carried = a} {goes = t} c g) (suc room) after tokens ends le h =
      let p = atom_found c room (sign_at at (channel_sign s) ∷ print_type t after) tokens le h in
      let y = first_of_shown (sign_at at (channel_sign s)) (print_type t after) p.rest p.spelled in
      let len : suc (length y.others) ≤ length tokens = omega (arith, p.shorter, ap length y.whole) in
      let f = type_found g room after y.others ends (omega (arith, le, len)) y.spelled in
      behind TypeTree TypeTree (read_type (suc room)) (channel s at a t) (read_type room) t after tokens y.others f
      (channel_read room s at a t tokens p.rest y.first y.others f.rest (atom_front c (read_type room) _ tokens h)
      p.read y.whole
      (carried_step (read_type room) s at a t after y.first y.others y.meets f)) (omega (arith, len))
  type_found (is_atom {t} a) (suc room) after tokens ends le h =
      let p = atom_found a room after tokens le h in
      record {
        rest = p.rest;
        read =
            atom_read room t tokens p.rest (atom_front a (read_type room) after tokens h) p.read
            (ends p.rest p.spelled);
        spelled = p.spelled;
        shorter = p.shorter;
      }

  atom_found : {t : TypeTree} → IsType the_production.Atom t → (room : ℕ) (after : List Shown) (tokens : List Placed) →
      length tokens ≤ suc room → Spells (print_type t after) tokens
      → Found TypeTree (read_atom (read_type room)) t after tokens
  atom_found is_one room after [] le h = absurd h
  atom_found (is_one {at}) room after (x ∷ ts) le h =
      record { rest = ts; read = one_read (read_type room) at x ts h.0; spelled = h.1; shorter = omega arith }
  atom_found is_named room after [] le h = absurd h
  atom_found (is_named {n}) room after (x ∷ ts) le h =
      record { rest = ts; read = named_read (read_type room) n x ts h.0; spelled = h.1; shorter = omega arith }
  atom_found (is_choice are) room after [] le h = absurd h
  atom_found (is_choice are) room after (x ∷ []) le h = absurd h.1
  atom_found (is_choice {s} {at} {branches = bs} are) room after (x ∷ y ∷ ts) le h =
      let p = branches_found are room (length ts) [] (sign sym.CloseBrace ∷ after) ts
      (sign_ends_type sym.CloseBrace after refl) (sign_ends_list is_bar sym.CloseBrace after refl) (omega arith)
      (omega (arith, le)) h.1.1 in
      let z = first_of_shown (sign sym.CloseBrace) after p.rest p.spelled in
      record {
        rest = z.others;
        read = choice_read (read_type room) s at (list_of bs) x y ts p.rest z.first z.others h.0 p.read z.whole
            ∙ ap (λ (cs : BranchTrees). let r : TypeTree × List Placed = (choice s at cs, z.others) in r)
            (trees_of_list bs);
        spelled = z.spelled;
        shorter = omega (arith, p.shorter, ap length z.whole);
      }
  atom_found (is_grouped i) room after [] le h = absurd h
  atom_found (is_grouped {inner = t} i) room after (x ∷ ts) le h =
      let p = type_found i room (sign sym.CloseParen ∷ after) ts (sign_ends_type sym.CloseParen after refl)
      (omega (arith, le)) h.1 in
      let z = first_of_shown (sign sym.CloseParen) after p.rest p.spelled in
      record {
        rest = z.others;
        read = grouped_read (read_type room) t x ts p.rest z.first z.others h.0 p.read z.whole;
        spelled = z.spelled;
        shorter = omega (arith, p.shorter, ap length z.whole);
      }

  branches_found : {bs : BranchTrees} → AreBranches bs
      → (room n : ℕ) (before : List Branch) (after : List Shown) (tokens : List Placed) →
      EndsType after → EndsList is_bar after → length tokens ≤ n → length tokens ≤ room →
      Spells (print_parted sym.Bar (print_branches bs) after) tokens →
      Found (List Branch) (read_parted (read_branch (read_type room)) is_bar n before) (before ++ list_of bs) after
      tokens
  branches_found are room n before after [] ends ended le in_room h = absurd (no_labels are after h)
  branches_found are room zero before after (x ∷ tokens) ends ended le in_room h = absurd (omega (arith, le))
  branches_found (last_branch g) room (suc m) before after (x ∷ []) ends ended le in_room h = absurd h.1
  branches_found (last_branch {l} {goes = t} g) room (suc m) before after (x ∷ y ∷ ts) ends ended le in_room h =
      let f = type_found g room after ts ends (omega (arith, in_room)) h.1.1 in
      record {
        rest = f.rest;
        read =
            last_of (read_type room) m before l t (x ∷ y ∷ ts) f.rest
            (branch_read (read_type room) l t x y ts f.rest h.0 f.read) (ended f.rest f.spelled);
        spelled = f.spelled;
        shorter = omega (arith, f.shorter);
      }
  branches_found (more_branches g more) room (suc m) before after (x ∷ []) ends ended le in_room h = absurd h.1
  branches_found (more_branches {l} {goes = t} {branches = bs} g more) room (suc m) before after (x ∷ y ∷ ts) ends ended
      le in_room h =
      let h1 = parted_again more after t ts h.1.1 in
      let f = type_found g room (sign sym.Bar ∷ print_parted sym.Bar (print_branches bs) after) ts
      (sign_ends_type sym.Bar _ refl) (omega (arith, in_room)) h1 in
      let z = first_of_shown (sign sym.Bar) (print_parted sym.Bar (print_branches bs) after) f.rest f.spelled in
      let len : suc (length z.others) ≤ length ts = omega (arith, f.shorter, ap length z.whole) in
      let r = branches_found more room m (before ++ (l, t) ∷ []) after z.others ends ended (omega (arith, le, len))
      (omega (arith, in_room, len)) z.spelled in
      record {
        rest = r.rest;
        read = more_of (read_type room) m before l t bs (x ∷ y ∷ ts) f.rest z.first z.others r.rest
            (branch_read (read_type room) l t x y ts f.rest h.0 f.read) z.whole z.meets r.read;
        spelled = r.spelled;
        shorter = omega (arith, r.shorter, len);
      }
