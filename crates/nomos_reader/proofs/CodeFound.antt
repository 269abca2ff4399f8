-- What the reader of codes finds in tokens that a code prints.
use Rattle.std.proofs.Common.{◌≡◌, ℕ, zero, suc, ◌≤◌, true, false, List, [], ◌∷◌, ◌++◌, length, refl, sym, ap, ◌∙◌, arith}
use Rattle.nomos_grammar.specs.declared.part.Nonterminal.TheVariants as the_production
use Rattle.nomos_ir.specs.declared.word.Word.TheVariants as word
use Rattle.nomos_reader.proofs.Found.{Found, FindsAll, append_more, at_this, first_of_shown, name_found, parted_found, sign_ends_list}
use Rattle.nomos_reader.proofs.StepFound.{AnyEnds, args_found, chan_found, one_part, step_found, two_parts, whole_found}
use Rattle.nomos_reader.proofs.TermFound.{five_of}
use Rattle.nomos_reader.proofs.TermFronts.{any_ends}
use Rattle.nomos_surface.specs.CodeView.{Arm, arm_trees}
use Rattle.nomos_surface.specs.declared.name_at.NameAt.{NameAt}
use Rattle.nomos_surface.specs.declared.steps.ChanAt.{ChanAt}
use Rattle.nomos_surface.specs.declared.steps.ChanAt.TheVariants as chan
use Rattle.nomos_surface.specs.Grammatical.{AreArms, Each, IsCode, IsLast, IsStep, IsTerm}
use Rattle.nomos_reader.specs.mirror.Codes.{is_last, last_from, read_arm, read_args, read_braced, read_call, read_case, read_chan, read_code, read_code_if, read_code_match, read_fwd, read_last, read_step, read_steps, whole_term}
use Rattle.nomos_reader.specs.mirror.Front.{Reader, front_kind, is_bar, read_name, read_parted, rest_of}
use Rattle.nomos_surface.specs.Print.{print_args, print_arms, print_chan, print_code, print_heading, print_last, print_step}
use Rattle.nomos_surface.specs.Printed.{Shown, Meets, Spells, sign, keyword, keyword_at, print_name, print_parted}
use Rattle.nomos_surface.specs.Tree.{TermTree, ArgTrees, StepTree, label, send, recv, put, taking, pay, getting, work, wait, accept, detach, acquire, release, spawn, binding, empty_list, longer_list, emit, CodeTree, code, LastTree, close, fwd, calling, code_if, case, code_match, ArmTrees, no_arms, arm}
use Rattle.nomos_syntax.specs.declared.symbol.Symbol.TheVariants as sym
use Rattle.nomos_syntax.specs.Lexeme.{name, reserved, symbol, Placed}

-- a step does not begin as a last instruction does

abbrev NotLast : List Placed → Type 0
NotLast tokens = is_last (front_kind tokens) ≡ false

chan_not_last : (c : ChanAt) (after : List Shown) (tokens : List Placed) → Spells (print_chan c ∷ after) tokens
    → NotLast tokens
chan_not_last c after [] h = absurd h
chan_not_last (chan.Own at) after (x ∷ tokens) h =
    at_this (λ y. NotLast (y ∷ tokens)) at (reserved word.SelfWord) x h.0 refl
chan_not_last (chan.Variable n) after (x ∷ tokens) h = at_this (λ y. NotLast (y ∷ tokens)) n.at (name n.name) x h.0 refl

step_not_last : (s : StepTree) (after : List Shown) (tokens : List Placed) → Spells (print_step s after) tokens
    → NotLast tokens
step_not_last (label c l) after tokens h = chan_not_last c (sign sym.Dot ∷ print_name l ∷ after) tokens h
step_not_last (send at c n) after [] h = absurd h
step_not_last (send at c n) after (x ∷ tokens) h =
    at_this (λ y. NotLast (y ∷ tokens)) at (reserved word.Send) x h.0 refl
step_not_last (recv at c n) after [] h = absurd h
step_not_last (recv at c n) after (x ∷ tokens) h =
    at_this (λ y. NotLast (y ∷ tokens)) at (reserved word.Recv) x h.0 refl
step_not_last (put at c t) after [] h = absurd h
step_not_last (put at c t) after (x ∷ tokens) h = at_this (λ y. NotLast (y ∷ tokens)) at (reserved word.Put) x h.0 refl
step_not_last (taking at c n) after [] h = absurd h
step_not_last (taking at c n) after (x ∷ tokens) h =
    at_this (λ y. NotLast (y ∷ tokens)) at (reserved word.Take) x h.0 refl
step_not_last (pay at c q) after [] h = absurd h
step_not_last (pay at c q) after (x ∷ tokens) h = at_this (λ y. NotLast (y ∷ tokens)) at (reserved word.Pay) x h.0 refl
step_not_last (getting at c q) after [] h = absurd h
step_not_last (getting at c q) after (x ∷ tokens) h =
    at_this (λ y. NotLast (y ∷ tokens)) at (reserved word.Get) x h.0 refl
step_not_last (work at q) after [] h = absurd h
step_not_last (work at q) after (x ∷ tokens) h = at_this (λ y. NotLast (y ∷ tokens)) at (reserved word.Work) x h.0 refl
step_not_last (wait at n) after [] h = absurd h
step_not_last (wait at n) after (x ∷ tokens) h = at_this (λ y. NotLast (y ∷ tokens)) at (reserved word.Wait) x h.0 refl
step_not_last (accept at) after [] h = absurd h
step_not_last (accept at) after (x ∷ tokens) h =
    at_this (λ y. NotLast (y ∷ tokens)) at (reserved word.Accept) x h.0 refl
step_not_last (detach at) after [] h = absurd h
step_not_last (detach at) after (x ∷ tokens) h =
    at_this (λ y. NotLast (y ∷ tokens)) at (reserved word.Detach) x h.0 refl
step_not_last (acquire at n m) after [] h = absurd h
step_not_last (acquire at n m) after (x ∷ tokens) h =
    at_this (λ y. NotLast (y ∷ tokens)) at (reserved word.Acquire) x h.0 refl
step_not_last (release at n m) after [] h = absurd h
step_not_last (release at n m) after (x ∷ tokens) h =
    at_this (λ y. NotLast (y ∷ tokens)) at (reserved word.Release) x h.0 refl
step_not_last (spawn at n p a) after [] h = absurd h
step_not_last (spawn at n p a) after (x ∷ tokens) h =
    at_this (λ y. NotLast (y ∷ tokens)) at (reserved word.Spawn) x h.0 refl
step_not_last (binding at v t) after [] h = absurd h
step_not_last (binding at v t) after (x ∷ tokens) h =
    at_this (λ y. NotLast (y ∷ tokens)) at (reserved word.Let) x h.0 refl
step_not_last (empty_list at v list_at q t) after [] h = absurd h
step_not_last (empty_list at v list_at q t) after (x ∷ tokens) h =
    at_this (λ y. NotLast (y ∷ tokens)) at (reserved word.Let) x h.0 refl
step_not_last (longer_list at v t w) after [] h = absurd h
step_not_last (longer_list at v t w) after (x ∷ tokens) h =
    at_this (λ y. NotLast (y ∷ tokens)) at (reserved word.Let) x h.0 refl
step_not_last (emit at t) after [] h = absurd h
step_not_last (emit at t) after (x ∷ tokens) h = at_this (λ y. NotLast (y ∷ tokens)) at (reserved word.Emit) x h.0 refl

no_last : (l : LastTree) (after : List Shown) → Spells (print_last l after) [] → ⊥
no_last (close at) after h = h
no_last (fwd at x) after h = h
no_last (calling at f arguments) after h = h
no_last (code_if at test holds fails) after h = h
no_last (case at x arms) after h = h
no_last (code_match at w empty head tail more) after h = h

no_step : (s : StepTree) (after : List Shown) → Spells (print_step s after) [] → ⊥
no_step (label (chan.Own at) l) after h = h
no_step (label (chan.Variable n) l) after h = h
no_step (send at c n) after h = h
no_step (recv at c n) after h = h
no_step (put at c t) after h = h
no_step (taking at c n) after h = h
no_step (pay at c q) after h = h
no_step (getting at c q) after h = h
no_step (work at q) after h = h
no_step (wait at n) after h = h
no_step (accept at) after h = h
no_step (detach at) after h = h
no_step (acquire at n m) after h = h
no_step (release at n m) after h = h
no_step (spawn at n p a) after h = h
no_step (binding at v t) after h = h
no_step (empty_list at v list_at q t) after h = h
no_step (longer_list at v t w) after h = h
no_step (emit at t) after h = h

no_code : (steps : List StepTree) (last : LastTree) (after : List Shown)
    → Spells (print_code (code steps last) after) [] → ⊥
no_code [] last after h = no_last last after h
no_code (s ∷ steps) last after h = no_step s (sign sym.Semicolon ∷ print_code (code steps last) after) h

-- steps, one after another

last_step_read : (inner : Reader CodeTree) (n : ℕ) (before : List StepTree) (l : LastTree) (tokens rest : List Placed)
    → is_last (front_kind tokens) ≡ true →
    read_last inner tokens ≡ (l, rest) → read_steps inner (suc n) before tokens ≡ (code before l, rest)
unfolding read_steps
last_step_read inner n before l tokens rest is e =
    rw is (ap (λ (p : LastTree × List Placed). let r : CodeTree × List Placed = (code before p.0, p.1) in r) e)

next_step_read : (inner : Reader CodeTree) (n : ℕ) (before : List StepTree) (s : StepTree) (tokens rest : List Placed)
    (y : Placed) (vs : List Placed) → is_last (front_kind tokens) ≡ false →
    read_step tokens ≡ (s, rest) → rest ≡ y ∷ vs
    → read_steps inner (suc n) before tokens ≡ read_steps inner n (before ++ s ∷ []) vs
unfolding read_steps
next_step_read inner n before s tokens rest y vs is e w =
    rw is (ap (λ (p : StepTree × List Placed). read_steps inner n (before ++ p.0 ∷ []) (rest_of p.1)) e
    ∙ ap (λ ts. read_steps inner n (before ++ s ∷ []) (rest_of ts)) w)

pub append_nil : {A : Type 0} (xs : List A) → xs ++ [] ≡ xs
append_nil [] = refl
append_nil (x ∷ xs) = ap (λ l. x ∷ l) (append_nil xs)

abbrev FindsLast : Reader CodeTree → LastTree → ℕ → List Shown → Type 0
FindsLast inner l room after =
    (tokens : List Placed) → length tokens ≤ room → Spells (print_last l after) tokens →
    (is_last (front_kind tokens) ≡ true) × Found LastTree (λ ts. read_last inner ts) l after tokens

steps_found : (inner : Reader CodeTree) (steps : List StepTree) (l : LastTree) (room n : ℕ) (before : List StepTree)
    (after : List Shown) (tokens : List Placed) →
    Each IsStep steps → FindsLast inner l room after → length tokens ≤ n → length tokens ≤ room
    → Spells (print_code (code steps l) after) tokens →
    Found CodeTree (λ ts. read_steps inner n before ts) (code (before ++ steps) l) after tokens
steps_found inner [] l room zero before after [] each find le in_room h = absurd (no_last l after h)
steps_found inner [] l room zero before after (x ∷ tokens) each find le in_room h = absurd (omega (arith, le))
steps_found inner [] l room (suc n) before after tokens each find le in_room h =
    let f = find tokens in_room h in
    record {
      rest = f.1.rest;
      read = last_step_read inner n before l tokens f.1.rest f.0 f.1.read
          ∙ ap (λ (ss : List StepTree). let r : CodeTree × List Placed = (code ss l, f.1.rest) in r)
          (sym (append_nil before));
      spelled = f.1.spelled;
      shorter = f.1.shorter;
    }
steps_found inner (s ∷ steps) l room zero before after [] each find le in_room h =
    absurd (no_step s (sign sym.Semicolon ∷ print_code (code steps l) after) h)
steps_found inner (s ∷ steps) l room zero before after (x ∷ tokens) each find le in_room h = absurd (omega (arith, le))
steps_found inner (s ∷ steps) l room (suc n) before after tokens each find le in_room h =
    let f = step_found s each.0 (print_code (code steps l) after) tokens h in
    let y = first_of_shown (sign sym.Semicolon) (print_code (code steps l) after) f.rest f.spelled in
    let len : suc (length y.others) ≤ length tokens = omega (arith, f.shorter, ap length y.whole) in
    let g = steps_found inner steps l room n (before ++ s ∷ []) after y.others each.1 find (omega (arith, le, len))
    (omega (arith, in_room, len)) y.spelled in
    record {
      rest = g.rest;
      read =
          next_step_read inner n before s tokens f.rest y.first y.others
          (step_not_last s (sign sym.Semicolon ∷ print_code (code steps l) after) tokens h) f.read y.whole ∙ g.read
          ∙ ap (λ (ss : List StepTree). let r : CodeTree × List Placed = (code ss l, g.rest) in r)
          (append_more before s steps);
      spelled = g.spelled;
      shorter = omega (arith, g.shorter, len);
    }

-- last instructions

close_read : (inner : Reader CodeTree) (at : ℕ) (x : Placed) (ts : List Placed) → Meets (keyword_at at word.Close) x →
    (is_last (front_kind (x ∷ ts)) ≡ true) × (read_last inner (x ∷ ts) ≡ (close at, ts))
unfolding last_from
close_read inner at x ts m =
    at_this (λ y. (is_last (front_kind (y ∷ ts)) ≡ true) × (read_last inner (y ∷ ts) ≡ (close at, ts)))
    at (reserved word.Close) x m (refl, refl)

fwd_read : (inner : Reader CodeTree) (at : ℕ) (n : NameAt) (x : Placed) (ts us : List Placed)
    → Meets (keyword_at at word.Fwd) x → read_name ts ≡ (n, us) →
    (is_last (front_kind (x ∷ ts)) ≡ true) × (read_last inner (x ∷ ts) ≡ (fwd at n, us))
unfolding last_from read_fwd
fwd_read inner at n x ts us m e =
    at_this (λ y. (is_last (front_kind (y ∷ ts)) ≡ true) × (read_last inner (y ∷ ts) ≡ (fwd at n, us)))
    at (reserved word.Fwd) x m
    (refl, one_part NameAt LastTree read_name (fwd at) ts n us e)

call_read : (inner : Reader CodeTree) (at : ℕ) (n : NameAt) (a : ArgTrees) (x : Placed) (ts us vs : List Placed)
    → Meets (keyword_at at word.Call) x →
    read_name ts ≡ (n, us) → read_args us ≡ (a, vs)
    → (is_last (front_kind (x ∷ ts)) ≡ true) × (read_last inner (x ∷ ts) ≡ (calling at n a, vs))
unfolding last_from read_call
call_read inner at n a x ts us vs m e f =
    at_this (λ y. (is_last (front_kind (y ∷ ts)) ≡ true) × (read_last inner (y ∷ ts) ≡ (calling at n a, vs)))
    at (reserved word.Call) x m
    (refl, two_parts NameAt ArgTrees LastTree read_name read_args (calling at) ts n us a vs e f)

braced_read : (inner : Reader CodeTree) (c : CodeTree) (x : Placed) (ts us : List Placed) (z : Placed)
    (vs : List Placed) → inner ts ≡ (c, us) → us ≡ z ∷ vs →
    read_braced inner (x ∷ ts) ≡ (c, vs)
unfolding read_braced
braced_read inner c x ts us z vs e w = rw (e, w) refl

-- `if` and its three parts
abbrev if_of : Reader CodeTree → ℕ → TermTree × List Placed → LastTree × List Placed
if_of inner at t = (
  code_if at t.0 (read_braced inner t.1).0 (read_braced inner (rest_of (read_braced inner t.1).1)).0,
  (read_braced inner (rest_of (read_braced inner t.1).1)).1,
)

if_read : (inner : Reader CodeTree) (at : ℕ) (t : TermTree) (c d : CodeTree) (x : Placed) (ts us vs : List Placed)
    (y : Placed) (ws os : List Placed) → Meets (keyword_at at word.If) x →
    whole_term ts ≡ (t, us) → read_braced inner us ≡ (c, vs) → vs ≡ y ∷ ws → read_braced inner ws ≡ (d, os) →
    (is_last (front_kind (x ∷ ts)) ≡ true) × (read_last inner (x ∷ ts) ≡ (code_if at t c d, os))
unfolding last_from read_code_if
if_read inner at t c d x ts us vs y ws os m e f w g =
    at_this (λ z. (is_last (front_kind (z ∷ ts)) ≡ true) × (read_last inner (z ∷ ts) ≡ (code_if at t c d, os)))
    at (reserved word.If) x m
    (refl, ap (if_of inner at) e ∙ rw (f, w, g) refl)

abbrev case_of : Reader CodeTree → ℕ → ChanAt × List Placed → LastTree × List Placed
case_of inner at c = (
  case at c.0 (arm_trees (read_parted (read_arm inner) is_bar (length (rest_of c.1)) [] (rest_of c.1)).0),
  rest_of (read_parted (read_arm inner) is_bar (length (rest_of c.1)) [] (rest_of c.1)).1,
)

case_read : (inner : Reader CodeTree) (at : ℕ) (c : ChanAt) (arms : List Arm) (x : Placed) (ts us : List Placed)
    (y : Placed) (vs ws : List Placed) (z : Placed) (os : List Placed) →
    Meets (keyword_at at word.Case) x → read_chan ts ≡ (c, us) → us ≡ y ∷ vs
    → read_parted (read_arm inner) is_bar (length vs) [] vs ≡ (arms, ws) → ws ≡ z ∷ os →
    (is_last (front_kind (x ∷ ts)) ≡ true) × (read_last inner (x ∷ ts) ≡ (case at c (arm_trees arms), os))
unfolding last_from read_case
case_read inner at c arms x ts us y vs ws z os m e w f k =
    at_this (λ q. (is_last (front_kind (q ∷ ts)) ≡ true)
    × (read_last inner (q ∷ ts) ≡ (case at c (arm_trees arms), os))) at (reserved word.Case) x m
    (refl, ap (case_of inner at) e ∙ rw (w, f, k) refl)

arm_read : (inner : Reader CodeTree) (l : NameAt) (c : CodeTree) (x y : Placed) (ts us : List Placed)
    → Meets (print_name l) x → inner ts ≡ (c, us) →
    read_arm inner (x ∷ y ∷ ts) ≡ ((l, c), us)
unfolding read_arm
arm_read inner l c x y ts us m e =
    at_this (λ v. read_arm inner (v ∷ y ∷ ts) ≡ ((l, c), us)) l.at (name l.name) x m (rw e refl)

match_read : (inner : Reader CodeTree) (at : ℕ) (w head tail : NameAt) (c d : CodeTree) (x n y1 y2 y3 : Placed)
    (vs ws : List Placed)
    (z1 z2 z3 z4 z5 : Placed) (os bs : List Placed) (last : Placed) (cs : List Placed) →
    Meets (keyword_at at word.Match) x → Meets (print_name w) n → inner vs ≡ (c, ws) →
    ws ≡ z1 ∷ z2 ∷ z3 ∷ z4 ∷ z5 ∷ os → Meets (print_name head) z2 → Meets (print_name tail) z4 → inner os ≡ (d, bs)
    → bs ≡ last ∷ cs →
    (is_last (front_kind (x ∷ n ∷ y1 ∷ y2 ∷ y3 ∷ vs)) ≡ true)
    × (read_last inner (x ∷ n ∷ y1 ∷ y2 ∷ y3 ∷ vs) ≡ (code_match at w c head tail d, cs))
unfolding last_from read_code_match
match_read inner at w head tail c d x n y1 y2 y3 vs ws z1 z2 z3 z4 z5 os bs last cs m mn e k mh mt g l =
    let hd : (read_name (z2 ∷ z3 ∷ z4 ∷ z5 ∷ os)).0 ≡ head =
    at_this (λ q. (read_name (q ∷ z3 ∷ z4 ∷ z5 ∷ os)).0 ≡ head) head.at (name head.name) z2 mh refl in
    let tl : (read_name (z4 ∷ z5 ∷ os)).0
    ≡ tail = at_this (λ q. (read_name (q ∷ z5 ∷ os)).0 ≡ tail) tail.at (name tail.name) z4 mt refl in
    let nm : (read_name (n ∷ y1 ∷ y2 ∷ y3 ∷ vs)).0
    ≡ w = at_this (λ q. (read_name (q ∷ y1 ∷ y2 ∷ y3 ∷ vs)).0 ≡ w) w.at (name w.name) n mn refl in
    at_this (λ q. (is_last (front_kind (q ∷ n ∷ y1 ∷ y2 ∷ y3 ∷ vs)) ≡ true)
    × (read_last inner (q ∷ n ∷ y1 ∷ y2 ∷ y3 ∷ vs) ≡ (code_match at w c head tail d, cs)))
    at (reserved word.Match) x m (
      refl,
      rw (e, k, g, l)
          (ap (λ (a : NameAt). let p : LastTree
          × List Placed = (
            code_match at a c (read_name (z2 ∷ z3 ∷ z4 ∷ z5 ∷ os)).0 (read_name (z4 ∷ z5 ∷ os)).0 d,
            cs,
          ) in p) nm
          ∙ ap (λ (a : NameAt). let p : LastTree
          × List Placed = (code_match at w c a (read_name (z4 ∷ z5 ∷ os)).0 d, cs) in p) hd
          ∙ ap (λ (a : NameAt). let p : LastTree × List Placed = (code_match at w c head a d, cs) in p) tl),
    )

arm_list : ArmTrees → List Arm
arm_list no_arms = []
arm_list (arm l c arms) = (l, c) ∷ arm_list arms

trees_of_arms : (arms : ArmTrees) → arm_trees (arm_list arms) ≡ arms
unfolding arm_list
trees_of_arms no_arms = refl
trees_of_arms (arm l c arms) = ap (λ (as2 : ArmTrees). arm l c as2) (trees_of_arms arms)

abbrev FindsCode : ℕ → CodeTree → Type 0
FindsCode room c =
    (after : List Shown) (tokens : List Placed) → length tokens ≤ room → Spells (print_code c after) tokens
    → Found CodeTree (λ ts. read_code room ts) c after tokens

abbrev FindsArms : ℕ → ArmTrees → Type 0
FindsArms room arms = FindsAll Arm (read_arm (λ ts. read_code room ts)) AnyEnds room (arm_list arms) (print_arms arms)

no_arms_found : (room : ℕ) → FindsArms room no_arms
unfolding arm_list
no_arms_found room = tt

arm_found : (room : ℕ) (l : NameAt) (c : CodeTree) → FindsCode room c → (after : List Shown) (tokens : List Placed)
    → AnyEnds after → length tokens ≤ room →
    Spells (print_name l ∷ sign sym.FatArrow ∷ print_code c after) tokens
    → Found Arm (read_arm (λ ts. read_code room ts)) (l, c) after tokens
arm_found room l c find after [] ends le h = absurd h
arm_found room l c find after (x ∷ []) ends le h = absurd h.1
arm_found room l c find after (x ∷ y ∷ ts) ends le h =
    let f = find after ts (omega (arith, le)) h.1.1 in
    record {
      rest = f.rest;
      read = arm_read (λ ts. read_code room ts) l c x y ts f.rest h.0 f.read;
      spelled = f.spelled;
      shorter = omega (arith, f.shorter);
    }

more_arms_found : (room : ℕ) (l : NameAt) (c : CodeTree) (arms : ArmTrees) → FindsCode room c → FindsArms room arms
    → FindsArms room (arm l c arms)
unfolding arm_list
more_arms_found room l c arms find all = (record { some = λ after h. h; find = arm_found room l c find }, all)

braced_found : (room : ℕ) (c : CodeTree) → FindsCode room c → (after : List Shown) (tokens : List Placed)
    → length tokens ≤ suc room →
    Spells (sign sym.OpenBrace ∷ print_code c (sign sym.CloseBrace ∷ after)) tokens
    → Found CodeTree (read_braced (λ ts. read_code room ts)) c after tokens
braced_found room c find after [] le h = absurd h
braced_found room c find after (x ∷ ts) le h =
    let f = find (sign sym.CloseBrace ∷ after) ts (omega (arith, le)) h.1 in
    let z = first_of_shown (sign sym.CloseBrace) after f.rest f.spelled in
    record {
      rest = z.others;
      read = braced_read (λ ts. read_code room ts) c x ts f.rest z.first z.others f.read
          z.whole;
      spelled = z.spelled;
      shorter = omega (arith, f.shorter, ap length z.whole);
    }

abbrev LastFoundAt : ℕ → LastTree → List Shown → List Placed → Type 0
LastFoundAt room l after tokens =
    (is_last (front_kind tokens) ≡ true) × Found LastTree (λ ts. read_last (λ us. read_code room us) ts) l after tokens

if_found : (room at : ℕ) (t : TermTree) (c d : CodeTree) → IsTerm the_production.Term t → FindsCode room c
    → FindsCode room d → (after : List Shown) (tokens : List Placed) →
    length tokens ≤ suc room → Spells (print_last (code_if at t c d) after) tokens
    → LastFoundAt room (code_if at t c d) after tokens
if_found room at t c d is find_c find_d after [] le h = absurd h
if_found room at t c d is find_c find_d after (x ∷ ts) le h =
    let else_shown : List Shown = keyword word.Else ∷ sign sym.OpenBrace ∷ print_code d (sign sym.CloseBrace ∷ after) in
    let f = whole_found t is (sign sym.OpenBrace ∷ print_code c (sign sym.CloseBrace ∷ else_shown)) ts
    (any_ends the_production.Term (symbol sym.OpenBrace) (print_code c (sign sym.CloseBrace ∷ else_shown))
    (refl, refl, refl, refl, refl, refl, refl)) h.1 in
    let g = braced_found room c find_c else_shown f.rest (omega (arith, le, f.shorter)) f.spelled in
    let y = first_of_shown (keyword word.Else) (sign sym.OpenBrace ∷ print_code d (sign sym.CloseBrace ∷ after)) g.rest
    g.spelled in
    let k = braced_found room d find_d after y.others (omega (arith, le, f.shorter, g.shorter, ap length y.whole))
    y.spelled in
    let r = if_read (λ us. read_code room us) at t c d x ts f.rest g.rest y.first y.others k.rest h.0 f.read g.read
    y.whole k.read in (
      r.0,
      record {
        rest = k.rest;
        read = r.1;
        spelled = k.spelled;
        shorter = omega (arith, f.shorter, g.shorter, k.shorter, ap length y.whole);
      },
    )

case_found : (room at : ℕ) (c : ChanAt) (l : NameAt) (goes : CodeTree) (arms : ArmTrees)
    → FindsArms room (arm l goes arms) → (after : List Shown) (tokens : List Placed) →
    length tokens ≤ suc room → Spells (print_last (case at c (arm l goes arms)) after) tokens
    → LastFoundAt room (case at c (arm l goes arms)) after tokens
unfolding arm_list
case_found room at c l goes arms all after [] le h = absurd h
case_found room at c l goes arms all after (x ∷ ts) le h =
    let inside : List Shown = print_parted sym.Bar (print_arms (arm l goes arms)) (sign sym.CloseBrace ∷ after) in
    let f = chan_found c (sign sym.OpenBrace ∷ inside) ts h.1 in
    let y = first_of_shown (sign sym.OpenBrace) inside f.rest f.spelled in
    let g = parted_found Arm (read_arm (λ us. read_code room us)) is_bar sym.Bar AnyEnds room refl (λ after2. tt)
    (l, goes) (arm_list arms)
    (λ after2. print_name l ∷ sign sym.FatArrow ∷ print_code goes after2) (print_arms arms) (length y.others) []
    (sign sym.CloseBrace ∷ after) y.others
    all tt (sign_ends_list is_bar sym.CloseBrace after refl) (omega arith)
    (omega (arith, le, f.shorter, ap length y.whole)) y.spelled in
    let z = first_of_shown (sign sym.CloseBrace) after g.rest g.spelled in
    let r = case_read (λ us. read_code room us) at c (arm_list (arm l goes arms)) x ts f.rest y.first y.others g.rest
    z.first z.others h.0 f.read y.whole g.read z.whole in (
      r.0,
      record {
        rest = z.others;
        read =
            r.1 ∙ ap (λ (arms2 : ArmTrees). let p : LastTree × List Placed = (case at c arms2, z.others) in p)
            (trees_of_arms (arm l goes arms));
        spelled = z.spelled;
        shorter = omega (arith, f.shorter, g.shorter, ap length y.whole, ap length z.whole);
      },
    )

match_found : (room at : ℕ) (w head tail : NameAt) (c d : CodeTree) → FindsCode room c → FindsCode room d
    → (after : List Shown) (tokens : List Placed) →
    length tokens ≤ suc room → Spells (print_last (code_match at w c head tail d) after) tokens
    → LastFoundAt room (code_match at w c head tail d) after tokens
match_found room at w head tail c d find_c find_d after [] le h = absurd h
match_found room at w head tail c d find_c find_d after (x ∷ []) le h = absurd h.1
match_found room at w head tail c d find_c find_d after (x ∷ n ∷ []) le h = absurd h.1.1
match_found room at w head tail c d find_c find_d after (x ∷ n ∷ y1 ∷ []) le h = absurd h.1.1.1
match_found room at w head tail c d find_c find_d after (x ∷ n ∷ y1 ∷ y2 ∷ []) le h = absurd h.1.1.1.1
match_found room at w head tail c d find_c find_d after (x ∷ n ∷ y1 ∷ y2 ∷ y3 ∷ vs) le h =
    let tail_shown : List Shown = print_code d (sign sym.CloseBrace ∷ after) in
    let f = find_c (sign sym.Bar ∷ print_heading head tail tail_shown) vs (omega (arith, le)) h.1.1.1.1.1 in
    let z = five_of (sign sym.Bar) (print_name head) (sign sym.DoubleColon) (print_name tail) (sign sym.FatArrow)
    tail_shown f.rest f.spelled in
    let k = find_d (sign sym.CloseBrace ∷ after) z.others (omega (arith, le, f.shorter, ap length z.whole)) z.spelled in
    let l = first_of_shown (sign sym.CloseBrace) after k.rest k.spelled in
    let r = match_read (λ us. read_code room us) at w head tail c d x n y1 y2 y3 vs f.rest z.x1 z.x2 z.x3 z.x4 z.x5
    z.others k.rest l.first l.others
    h.0 h.1.0 f.read z.whole z.meets2 z.meets4 k.read l.whole in (
      r.0,
      record {
        rest = l.others;
        read = r.1;
        spelled = l.spelled;
        shorter = omega (arith, f.shorter, k.shorter, ap length z.whole, ap length l.whole);
      },
    )

code_start : (room : ℕ) (tokens : List Placed)
    → read_code (suc room) tokens ≡ read_steps (λ us. read_code room us) (length tokens) [] tokens
unfolding read_code
code_start room tokens = refl

no_room : (c : CodeTree) (after : List Shown) (tokens : List Placed) → length tokens ≤ 0
    → Spells (print_code c after) tokens → ⊥
no_room (code steps last) after [] le h = no_code steps last after h
no_room c after (x ∷ tokens) le h = absurd (omega (arith, le))

mutual
  pub code_found : (c : CodeTree) → IsCode c → (room : ℕ) (after : List Shown) (tokens : List Placed)
      → length tokens ≤ room → Spells (print_code c after) tokens →
      Found CodeTree (λ ts. read_code room ts) c after tokens
  code_found (code steps last) is zero after tokens le h = absurd (no_room (code steps last) after tokens le h)
  code_found (code steps last) is (suc room) after tokens le h =
      let f = steps_found (λ us. read_code room us) steps last (suc room) (length tokens) [] after tokens is.0
      (λ ts le2 h2. last_found last is.1 room after ts le2 h2) (omega arith) le h in
      record { rest = f.rest; read = code_start room tokens ∙ f.read; spelled = f.spelled; shorter = f.shorter }

  last_found : (l : LastTree) → IsLast l → (room : ℕ) (after : List Shown) (tokens : List Placed)
      → length tokens ≤ suc room → Spells (print_last l after) tokens →
      LastFoundAt room l after tokens
  last_found (close at) is room after [] le h = absurd h
  last_found (close at) is room after (x ∷ ts) le h =
      let r = close_read (λ us. read_code room us) at x ts h.0 in
      (r.0, record { rest = ts; read = r.1; spelled = h.1; shorter = omega arith })
  last_found (fwd at n) is room after [] le h = absurd h
  last_found (fwd at n) is room after (x ∷ ts) le h =
      let f = name_found n after ts h.1 in
      let r = fwd_read (λ us. read_code room us) at n x ts f.rest h.0 f.read in
      (r.0, record { rest = f.rest; read = r.1; spelled = f.spelled; shorter = omega (arith, f.shorter) })
  last_found (calling at n a) is room after [] le h = absurd h
  last_found (calling at n a) is room after (x ∷ ts) le h =
      let f = name_found n (print_args a after) ts h.1 in
      let g = args_found a is after f.rest f.spelled in
      let r = call_read (λ us. read_code room us) at n a x ts f.rest g.rest h.0 f.read g.read in
      (r.0, record { rest = g.rest; read = r.1; spelled = g.spelled; shorter = omega (arith, f.shorter, g.shorter) })
  last_found (code_if at t c d) is room after tokens le h =
      if_found room at t c d is.0 (λ after2 ts le2 h2. code_found c is.1 room after2 ts le2 h2)
      (λ after2 ts le2 h2. code_found d is.2 room after2 ts le2 h2) after tokens le h
  last_found (case at c no_arms) is room after tokens le h = absurd is.0
  last_found (case at c (arm l goes arms)) is room after tokens le h =
      case_found room at c l goes arms (arms_found (arm l goes arms) is.1 room) after tokens le h
  last_found (code_match at w c head tail d) is room after tokens le h =
      match_found room at w head tail c d (λ after2 ts le2 h2. code_found c is.0 room after2 ts le2 h2)
      (λ after2 ts le2 h2. code_found d is.1 room after2 ts le2 h2) after tokens le h

  arms_found : (arms : ArmTrees) → AreArms arms → (room : ℕ) → FindsArms room arms
  arms_found no_arms are room = no_arms_found room
  arms_found (arm l c arms) are room =
      more_arms_found room l c arms (λ after2 ts le2 h2. code_found c are.0 room after2 ts le2 h2)
      (arms_found arms are.1 room)
