-- What the reader of steps finds in tokens that a step prints.
use Rattle.std.proofs.Common.{◌≡◌, ℕ, ◌≤◌, true, false, List, [], ◌∷◌, length, map, refl, ap, ◌∙◌, arith}
use Rattle.nomos_grammar.specs.declared.part.Nonterminal.TheVariants as the_production
use Rattle.nomos_ir.specs.declared.word.Word.{Word}
use Rattle.nomos_ir.specs.declared.word.Word.TheVariants as word
use Rattle.nomos_reader.proofs.Found.{Found, AllBegin, Begins, FindsAll, at_this, first_of_shown, name_found, potential_found, until_found, value_type_found, with_this}
use Rattle.nomos_reader.proofs.TermFound.{term_begins, term_found, term_no_brace, term_no_list}
use Rattle.nomos_reader.proofs.TermFronts.{Ends, any_ends, no_term}
use Rattle.nomos_surface.specs.declared.name_at.NameAt.{NameAt}
use Rattle.nomos_surface.specs.declared.potential.Potential.{Potential}
use Rattle.nomos_surface.specs.declared.steps.ChanAt.{ChanAt}
use Rattle.nomos_surface.specs.declared.steps.ChanAt.TheVariants as chan
use Rattle.nomos_surface.specs.declared.value_type.ValueType.{ValueType}
use Rattle.nomos_surface.specs.Grammatical.{AreArguments, Each, IsStep, IsTerm}
use Rattle.nomos_reader.specs.mirror.Codes.{bound_from, list_from, read_args, read_as, read_chan, read_emit, read_get, read_label, read_let, read_named_step, read_names, read_pay, read_put, read_spawn, read_step, read_values, read_wait, read_work, step_from, whole_term}
use Rattle.nomos_reader.specs.mirror.Front.{Reader, front_kind, is_list, is_list_end, is_open_brace, read_name, read_potential, read_value_type, rest_of}
use Rattle.nomos_reader.specs.mirror.Terms.{read_term}
use Rattle.nomos_surface.specs.Print.{print_args, print_chan, print_named, print_potential, print_step, print_term, print_value_type}
use Rattle.nomos_surface.specs.Printed.{Shown, Meets, Spells, sign, keyword, keyword_at, print_name, print_parted}
use Rattle.nomos_surface.specs.Tree.{TermTree, ArgTrees, StepTree, label, send, recv, put, taking, pay, getting, work, wait, accept, detach, acquire, release, spawn, binding, empty_list, longer_list, emit}
use Rattle.nomos_syntax.specs.declared.symbol.Symbol.TheVariants as sym
use Rattle.nomos_syntax.specs.Lexeme.{name, reserved, symbol, Placed}

-- one part, and two, one after another
abbrev pub seen : (A C : Type 0) → (A → C) → A × List Placed → C × List Placed
seen A C form p = (form p.0, p.1)

pub one_part : (A C : Type 0) (reader : Reader A) (form : A → C) (tokens : List Placed) (a : A) (us : List Placed)
    → reader tokens ≡ (a, us) →
    ◌≡◌ {A = C × List Placed} (form (reader tokens).0, (reader tokens).1) (form a, us)
one_part A C reader form tokens a us e = ap (seen A C form) e

pub two_parts : (A B C : Type 0) (first_reader : Reader A) (second : Reader B) (form : A → B → C) (tokens : List Placed)
    (a : A) (us : List Placed) (b : B) (vs : List Placed) →
    first_reader tokens ≡ (a, us) → second us ≡ (b, vs) →
    ◌≡◌ {A = C × List Placed} (
      form (first_reader tokens).0 (second (first_reader tokens).1).0,
      (second (first_reader tokens).1).1,
    ) (form a b, vs)
two_parts A B C first_reader second form tokens a us b vs e f =
    ap (λ (p : A × List Placed). let r : C × List Placed = (form p.0 (second p.1).0, (second p.1).1) in r) e
    ∙ ap (seen B C (form a)) f

-- what is read behind a token that is passed
pub passed : (A : Type 0) (reader : Reader A) (rest : List Placed) (x : Placed) (others : List Placed) (a : A)
    (us : List Placed) →
    rest ≡ x ∷ others → reader others ≡ (a, us) → reader (rest_of rest) ≡ (a, us)
passed A reader rest x others a us w e = ap (λ ts. reader (rest_of ts)) w ∙ e

-- a channel
pub chan_found : (x : ChanAt) (after : List Shown) (tokens : List Placed) → Spells (print_chan x ∷ after) tokens
    → Found ChanAt read_chan x after tokens
chan_found x after [] h = absurd h
chan_found (chan.Own at) after (t ∷ tokens) h =
    at_this (λ y. Found ChanAt read_chan (chan.Own at) after (y ∷ tokens)) at (reserved word.SelfWord) t h.0
    (record { rest = tokens; read = refl; spelled = h.1; shorter = omega arith })
chan_found (chan.Variable n) after (t ∷ tokens) h =
    at_this (λ y. Found ChanAt read_chan (chan.Variable n) after (y ∷ tokens)) n.at (name n.name) t h.0
    (record { rest = tokens; read = refl; spelled = h.1; shorter = omega arith })

-- a whole term
pub whole_found : (t : TermTree) → IsTerm the_production.Term t → (after : List Shown) (tokens : List Placed)
    → Ends the_production.Term after →
    Spells (print_term t after) tokens → Found TermTree whole_term t after tokens
whole_found t is after tokens ends h =
    let f = term_found is (length tokens) after tokens ends (omega arith) h in
    record { rest = f.rest; read = f.read; spelled = f.spelled; shorter = f.shorter }

-- arguments

args_all : (room : ℕ) (ts : List TermTree) → Each (IsTerm the_production.Term) ts →
    FindsAll TermTree (read_term room) (Ends the_production.Term) room ts (map print_term ts)
args_all room [] each = tt
args_all room (t ∷ ts) each = (
  record { some = no_term t; find = λ after tokens ends le h. term_found each.0 room after tokens ends le h },
  args_all room ts each.1,
)

args_start : (ts : List TermTree) → Each (IsTerm the_production.Term) ts → AllBegin (map print_term ts)
args_start [] each = tt
args_start (t ∷ ts) each = (term_begins each.0, args_start ts each.1)

-- anything may follow
abbrev pub AnyEnds : List Shown → Type 0
AnyEnds after = Unit {0}

names_all : (room : ℕ) (ns : List NameAt) → FindsAll NameAt read_name AnyEnds room ns (map print_named ns)
names_all room [] = tt
names_all room (n ∷ ns) =
    (record { some = λ after h. h; find = λ after tokens ends le h. name_found n after tokens h }, names_all room ns)

name_begins : (n : NameAt) → Begins (print_named n)
name_begins n after [] h = absurd h
name_begins n after (x ∷ tokens) h =
    at_this (λ y. is_list_end (front_kind (y ∷ tokens)) ≡ false) n.at (name n.name) x h.0 refl

names_start : (ns : List NameAt) → AllBegin (map print_named ns)
names_start [] = tt
names_start (n ∷ ns) = (λ after tokens h. name_begins n after tokens h, names_start ns)

semicolon_ends : (after : List Shown) → Ends the_production.Term (sign sym.Semicolon ∷ after)
semicolon_ends after =
    any_ends the_production.Term (symbol sym.Semicolon) after (refl, refl, refl, refl, refl, refl, refl)

comma_ends : (after : List Shown) → Ends the_production.Term (sign sym.Comma ∷ after)
comma_ends after = any_ends the_production.Term (symbol sym.Comma) after (refl, refl, refl, refl, refl, refl, refl)

args_made : (values : List TermTree) (channels : List NameAt) (x : Placed) (ts us : List Placed) (y : Placed)
    (vs ws : List Placed) (z : Placed) (os : List Placed) →
    read_values ts ≡ (values, us) → us ≡ y ∷ vs → read_names vs ≡ (channels, ws) → ws ≡ z ∷ os →
    read_args (x ∷ ts) ≡ (record { values = values; channels = channels }, os)
unfolding read_args
args_made values channels x ts us y vs ws z os e w f k =
    two_parts (List TermTree) (List NameAt) ArgTrees read_values
    (λ ts. let p : List NameAt × List Placed = ((read_names (rest_of ts)).0, rest_of (read_names (rest_of ts)).1) in
    p) (λ v c. let r : ArgTrees = record { values = v; channels = c } in r) ts values us channels os e
    (ap (λ ts. let p : List NameAt
    × List Placed = ((read_names (rest_of ts)).0, rest_of (read_names (rest_of ts)).1) in p) w
    ∙ ap (λ (q : List NameAt × List Placed). let p : List NameAt × List Placed = (q.0, rest_of q.1) in p) f
    ∙ ap (λ ts. let p : List NameAt × List Placed = (channels, rest_of ts) in p) k)

pub args_found : (a : ArgTrees) → AreArguments a → (after : List Shown) (tokens : List Placed)
    → Spells (print_args a after) tokens →
    Found ArgTrees read_args a after tokens
args_found a are after [] h = absurd h
args_found a are after (x ∷ ts) h =
    let back : List Shown = print_parted sym.Comma (map print_named a.channels) (sign sym.CloseParen ∷ after) in
    let v = until_found TermTree (read_term (length ts)) (Ends the_production.Term) (length ts) comma_ends a.values
    (map print_term a.values) (length ts) sym.Semicolon back ts
    (args_all (length ts) a.values are) (args_start a.values are) (semicolon_ends back) refl refl (omega arith)
    (omega arith) h.1 in
    let y = first_of_shown (sign sym.Semicolon) back v.rest v.spelled in
    let c = until_found NameAt read_name AnyEnds (length y.others) (λ after2. tt) a.channels
    (map print_named a.channels) (length y.others) sym.CloseParen after y.others
    (names_all (length y.others) a.channels) (names_start a.channels) tt refl refl (omega arith) (omega arith)
    y.spelled in
    let z = first_of_shown (sign sym.CloseParen) after c.rest c.spelled in
    record {
      rest = z.others;
      read =
          args_made a.values a.channels x ts v.rest y.first y.others c.rest z.first z.others v.read y.whole c.read
          z.whole;
      spelled = z.spelled;
      shorter = omega (arith, v.shorter, c.shorter, ap length y.whole, ap length z.whole);
    }

-- steps

-- what is said of a step that begins with a word
abbrev Steps : Word → ℕ → (List Placed → StepTree × List Placed) → Type 0
Steps w at found = (x : Placed) (ts : List Placed) → Meets (keyword_at at w) x → read_step (x ∷ ts) ≡ found ts

send_front : (at : ℕ) → Steps word.Send
    at (λ ts. read_named_step send (record { at = at; lexeme = reserved word.Send } ∷ ts))
unfolding step_from
send_front at x ts m =
    at_this (λ y. read_step (y ∷ ts) ≡ read_named_step send (record { at = at; lexeme = reserved word.Send } ∷ ts))
    at (reserved word.Send) x m refl

recv_front : (at : ℕ) → Steps word.Recv
    at (λ ts. read_named_step recv (record { at = at; lexeme = reserved word.Recv } ∷ ts))
unfolding step_from
recv_front at x ts m =
    at_this (λ y. read_step (y ∷ ts) ≡ read_named_step recv (record { at = at; lexeme = reserved word.Recv } ∷ ts))
    at (reserved word.Recv) x m refl

put_front : (at : ℕ) → Steps word.Put at (λ ts. read_put (record { at = at; lexeme = reserved word.Put } ∷ ts))
unfolding step_from
put_front at x ts m =
    at_this (λ y. read_step (y ∷ ts) ≡ read_put (record { at = at; lexeme = reserved word.Put } ∷ ts))
    at (reserved word.Put) x m refl

taking_front : (at : ℕ) → Steps word.Take
    at (λ ts. read_named_step taking (record { at = at; lexeme = reserved word.Take } ∷ ts))
unfolding step_from
taking_front at x ts m =
    at_this (λ y. read_step (y ∷ ts) ≡ read_named_step taking (record { at = at; lexeme = reserved word.Take } ∷ ts))
    at (reserved word.Take) x m refl

pay_front : (at : ℕ) → Steps word.Pay at (λ ts. read_pay (record { at = at; lexeme = reserved word.Pay } ∷ ts))
unfolding step_from
pay_front at x ts m =
    at_this (λ y. read_step (y ∷ ts) ≡ read_pay (record { at = at; lexeme = reserved word.Pay } ∷ ts))
    at (reserved word.Pay) x m refl

getting_front : (at : ℕ) → Steps word.Get at (λ ts. read_get (record { at = at; lexeme = reserved word.Get } ∷ ts))
unfolding step_from
getting_front at x ts m =
    at_this (λ y. read_step (y ∷ ts) ≡ read_get (record { at = at; lexeme = reserved word.Get } ∷ ts))
    at (reserved word.Get) x m refl

work_front : (at : ℕ) → Steps word.Work at (λ ts. read_work (record { at = at; lexeme = reserved word.Work } ∷ ts))
unfolding step_from
work_front at x ts m =
    at_this (λ y. read_step (y ∷ ts) ≡ read_work (record { at = at; lexeme = reserved word.Work } ∷ ts))
    at (reserved word.Work) x m refl

wait_front : (at : ℕ) → Steps word.Wait at (λ ts. read_wait (record { at = at; lexeme = reserved word.Wait } ∷ ts))
unfolding step_from
wait_front at x ts m =
    at_this (λ y. read_step (y ∷ ts) ≡ read_wait (record { at = at; lexeme = reserved word.Wait } ∷ ts))
    at (reserved word.Wait) x m refl

acquire_front : (at : ℕ) → Steps word.Acquire
    at (λ ts. read_as acquire (record { at = at; lexeme = reserved word.Acquire } ∷ ts))
unfolding step_from
acquire_front at x ts m =
    at_this (λ y. read_step (y ∷ ts) ≡ read_as acquire (record { at = at; lexeme = reserved word.Acquire } ∷ ts))
    at (reserved word.Acquire) x m refl

release_front : (at : ℕ) → Steps word.Release
    at (λ ts. read_as release (record { at = at; lexeme = reserved word.Release } ∷ ts))
unfolding step_from
release_front at x ts m =
    at_this (λ y. read_step (y ∷ ts) ≡ read_as release (record { at = at; lexeme = reserved word.Release } ∷ ts))
    at (reserved word.Release) x m refl

spawn_front : (at : ℕ) → Steps word.Spawn at (λ ts. read_spawn (record { at = at; lexeme = reserved word.Spawn } ∷ ts))
unfolding step_from
spawn_front at x ts m =
    at_this (λ y. read_step (y ∷ ts) ≡ read_spawn (record { at = at; lexeme = reserved word.Spawn } ∷ ts))
    at (reserved word.Spawn) x m refl

let_front : (at : ℕ) → Steps word.Let at (λ ts. read_let (record { at = at; lexeme = reserved word.Let } ∷ ts))
unfolding step_from
let_front at x ts m =
    at_this (λ y. read_step (y ∷ ts) ≡ read_let (record { at = at; lexeme = reserved word.Let } ∷ ts))
    at (reserved word.Let) x m refl

emit_front : (at : ℕ) → Steps word.Emit at (λ ts. read_emit (record { at = at; lexeme = reserved word.Emit } ∷ ts))
unfolding step_from
emit_front at x ts m =
    at_this (λ y. read_step (y ∷ ts) ≡ read_emit (record { at = at; lexeme = reserved word.Emit } ∷ ts))
    at (reserved word.Emit) x m refl

accept_front : (at : ℕ) → Steps word.Accept at (λ ts. (accept at, ts))
unfolding step_from
accept_front at x ts m = at_this (λ y. read_step (y ∷ ts) ≡ (accept at, ts)) at (reserved word.Accept) x m refl

detach_front : (at : ℕ) → Steps word.Detach at (λ ts. (detach at, ts))
unfolding step_from
detach_front at x ts m = at_this (λ y. read_step (y ∷ ts) ≡ (detach at, ts)) at (reserved word.Detach) x m refl

named_made : (form : ℕ → ChanAt → NameAt → StepTree) (x : Placed) (ts : List Placed) (c : ChanAt) (us : List Placed)
    (n : NameAt) (vs : List Placed) →
    read_chan ts ≡ (c, us) → read_name us ≡ (n, vs) → read_named_step form (x ∷ ts) ≡ (form x.at c n, vs)
unfolding read_named_step
named_made form x ts c us n vs e f = two_parts ChanAt NameAt StepTree read_chan read_name (form x.at) ts c us n vs e f

put_made : (x : Placed) (ts : List Placed) (c : ChanAt) (us : List Placed) (t : TermTree) (vs : List Placed) →
    read_chan ts ≡ (c, us) → whole_term us ≡ (t, vs) → read_put (x ∷ ts) ≡ (put x.at c t, vs)
unfolding read_put
put_made x ts c us t vs e f = two_parts ChanAt TermTree StepTree read_chan whole_term (put x.at) ts c us t vs e f

pay_made : (x : Placed) (ts : List Placed) (c : ChanAt) (us : List Placed) (q : Potential) (vs : List Placed) →
    read_chan ts ≡ (c, us) → read_potential us ≡ (q, vs) → read_pay (x ∷ ts) ≡ (pay x.at c q, vs)
unfolding read_pay
pay_made x ts c us q vs e f = two_parts ChanAt Potential StepTree read_chan read_potential (pay x.at) ts c us q vs e f

get_made : (x : Placed) (ts : List Placed) (c : ChanAt) (us : List Placed) (q : Potential) (vs : List Placed) →
    read_chan ts ≡ (c, us) → read_potential us ≡ (q, vs) → read_get (x ∷ ts) ≡ (getting x.at c q, vs)
unfolding read_get
get_made x ts c us q vs e f =
    two_parts ChanAt Potential StepTree read_chan read_potential (getting x.at) ts c us q vs e f

work_made : (x : Placed) (ts : List Placed) (q : Potential) (us : List Placed) → read_potential ts ≡ (q, us)
    → read_work (x ∷ ts) ≡ (work x.at q, us)
unfolding read_work
work_made x ts q us e = one_part Potential StepTree read_potential (work x.at) ts q us e

wait_made : (x : Placed) (ts : List Placed) (n : NameAt) (us : List Placed) → read_name ts ≡ (n, us)
    → read_wait (x ∷ ts) ≡ (wait x.at n, us)
unfolding read_wait
wait_made x ts n us e = one_part NameAt StepTree read_name (wait x.at) ts n us e

emit_made : (x : Placed) (ts : List Placed) (t : TermTree) (us : List Placed) → whole_term ts ≡ (t, us)
    → read_emit (x ∷ ts) ≡ (emit x.at t, us)
unfolding read_emit
emit_made x ts t us e = one_part TermTree StepTree whole_term (emit x.at) ts t us e

as_made : (form : ℕ → NameAt → NameAt → StepTree) (x : Placed) (ts : List Placed) (n : NameAt) (us : List Placed)
    (m : NameAt) (vs : List Placed) →
    read_name ts ≡ (n, us) → read_name (rest_of us) ≡ (m, vs) → read_as form (x ∷ ts) ≡ (form x.at n m, vs)
unfolding read_as
as_made form x ts n us m vs e f =
    two_parts NameAt NameAt StepTree read_name (λ ts. read_name (rest_of ts)) (form x.at) ts n us m vs e f

label_made : (tokens : List Placed) (c : ChanAt) (us : List Placed) (l : NameAt) (vs : List Placed) →
    read_chan tokens ≡ (c, us) → read_name (rest_of us) ≡ (l, vs) → read_label tokens ≡ (label c l, vs)
unfolding read_label
label_made tokens c us l vs e f =
    two_parts ChanAt NameAt StepTree read_chan (λ ts. read_name (rest_of ts)) label tokens c us l vs e f

label_front : (c : ChanAt) (after : List Shown) (tokens : List Placed) → Spells (print_chan c ∷ after) tokens
    → read_step tokens ≡ read_label tokens
unfolding step_from
label_front c after [] h = absurd h
label_front (chan.Own at) after (x ∷ tokens) h =
    at_this (λ y. read_step (y ∷ tokens) ≡ read_label (y ∷ tokens)) at (reserved word.SelfWord) x h.0 refl
label_front (chan.Variable n) after (x ∷ tokens) h =
    at_this (λ y. read_step (y ∷ tokens) ≡ read_label (y ∷ tokens)) n.at (name n.name) x h.0 refl

-- what is left behind the parts of a step

list_made : (at : ℕ) (v : NameAt) (list_at : ℕ) (tokens : List Placed) (q : Potential) (us : List Placed)
    (t : ValueType) (vs : List Placed) →
    read_potential tokens ≡ (q, us) → read_value_type us ≡ (t, vs)
    → list_from at v list_at true tokens ≡ (empty_list at v list_at q t, vs)
unfolding list_from
list_made at v list_at tokens q us t vs e f =
    two_parts Potential ValueType StepTree read_potential read_value_type (empty_list at v list_at) tokens q us t vs e f

longer_made : (at : ℕ) (v : NameAt) (list_at : ℕ) (tokens : List Placed) (t : TermTree) (us : List Placed) (w : NameAt)
    (vs : List Placed) →
    whole_term tokens ≡ (t, us) → read_name (rest_of us) ≡ (w, vs)
    → list_from at v list_at false tokens ≡ (longer_list at v t w, vs)
unfolding list_from
longer_made at v list_at tokens t us w vs e f =
    two_parts TermTree NameAt StepTree whole_term (λ ts. read_name (rest_of ts)) (longer_list at v) tokens t us w vs e f

spawn_made : (x : Placed) (ts : List Placed) (n : NameAt) (us : List Placed) (f : NameAt) (vs : List Placed)
    (a : ArgTrees) (ws : List Placed) →
    read_name ts ≡ (n, us) → read_name (rest_of us) ≡ (f, vs) → read_args vs ≡ (a, ws)
    → read_spawn (x ∷ ts) ≡ (spawn x.at n f a, ws)
unfolding read_spawn
spawn_made x ts n us f vs a ws e k g =
    two_parts NameAt (NameAt × ArgTrees) StepTree read_name
    (λ ts. let p : (NameAt × ArgTrees)
    × List Placed = (
      ((read_name (rest_of ts)).0, (read_args (read_name (rest_of ts)).1).0),
      (read_args (read_name (rest_of ts)).1).1,
    ) in p)
    (λ m p. spawn x.at m p.0 p.1) ts n us (f, a) ws e
    (two_parts NameAt ArgTrees (NameAt × ArgTrees) (λ ts. read_name (rest_of ts)) read_args
    (λ m b. let p : NameAt × ArgTrees = (m, b) in p) us f vs a ws k g)

send_like : (w : Word) (form : ℕ → ChanAt → NameAt → StepTree) (at : ℕ) (c : ChanAt) (n : NameAt) (after : List Shown)
    (tokens : List Placed) →
    ((x : Placed) (ts : List Placed) → Meets (keyword_at at w) x
    → read_step (x ∷ ts) ≡ read_named_step form (record { at = at; lexeme = reserved w } ∷ ts)) →
    Spells (keyword_at at w ∷ print_chan c ∷ print_name n ∷ after) tokens
    → Found StepTree read_step (form at c n) after tokens
send_like w form at c n after [] front h = absurd h
send_like w form at c n after (x ∷ ts) front h =
    let f = chan_found c (print_name n ∷ after) ts h.1 in
    let g = name_found n after f.rest f.spelled in
    record {
      rest = g.rest;
      read =
          front x ts h.0 ∙ named_made form (record { at = at; lexeme = reserved w }) ts c f.rest n g.rest f.read g.read;
      spelled = g.spelled;
      shorter = omega (arith, f.shorter, g.shorter);
    }

as_like : (w : Word) (form : ℕ → NameAt → NameAt → StepTree) (at : ℕ) (n m : NameAt) (after : List Shown)
    (tokens : List Placed) →
    ((x : Placed) (ts : List Placed) → Meets (keyword_at at w) x
    → read_step (x ∷ ts) ≡ read_as form (record { at = at; lexeme = reserved w } ∷ ts)) →
    Spells (keyword_at at w ∷ print_name n ∷ keyword word.As ∷ print_name m ∷ after) tokens
    → Found StepTree read_step (form at n m) after tokens
as_like w form at n m after [] front h = absurd h
as_like w form at n m after (x ∷ ts) front h =
    let f = name_found n (keyword word.As ∷ print_name m ∷ after) ts h.1 in
    let y = first_of_shown (keyword word.As) (print_name m ∷ after) f.rest f.spelled in
    let g = name_found m after y.others y.spelled in
    record {
      rest = g.rest;
      read = front x ts h.0 ∙ as_made form (record { at = at; lexeme = reserved w }) ts n f.rest m g.rest f.read
          (passed NameAt read_name f.rest y.first y.others m g.rest y.whole g.read);
      spelled = g.spelled;
      shorter = omega (arith, f.shorter, g.shorter, ap length y.whole);
    }

-- `let v =`, and what is bound
let_made : (x : Placed) (ts : List Placed) (v : NameAt) (us : List Placed) (y : Placed) (vs : List Placed)
    (s : StepTree) (ws : List Placed) →
    read_name ts ≡ (v, us) → us ≡ y ∷ vs → bound_from x.at v (is_list (front_kind vs)) vs ≡ (s, ws)
    → read_let (x ∷ ts) ≡ (s, ws)
unfolding read_let
let_made x ts v us y vs s ws e w f =
    ap (λ (p : NameAt × List Placed). bound_from x.at p.0 (is_list (front_kind (rest_of p.1))) (rest_of p.1)) e
    ∙ ap (λ os. bound_from x.at v (is_list (front_kind (rest_of os))) (rest_of os)) w ∙ f

term_bound : (at : ℕ) (v : NameAt) (tokens : List Placed) (t : TermTree) (us : List Placed)
    → is_list (front_kind tokens) ≡ false → whole_term tokens ≡ (t, us) →
    bound_from at v (is_list (front_kind tokens)) tokens ≡ (binding at v t, us)
unfolding bound_from
term_bound at v tokens t us no_list e = rw no_list (one_part TermTree StepTree whole_term (binding at v) tokens t us e)

list_bound : (at : ℕ) (v : NameAt) (x : Placed) (ts : List Placed) (s : StepTree) (us : List Placed)
    → is_list (front_kind (x ∷ ts)) ≡ true →
    list_from at v x.at (is_open_brace (front_kind ts)) ts ≡ (s, us)
    → bound_from at v (is_list (front_kind (x ∷ ts))) (x ∷ ts) ≡ (s, us)
unfolding bound_from
list_bound at v x ts s us list e = rw list e

let_found : (at : ℕ) (v : NameAt) (s : StepTree) (shown after : List Shown) (tokens : List Placed) →
    ((us : List Placed) → Spells shown us
    → (ws : List Placed) × (bound_from at v (is_list (front_kind us)) us ≡ (s, ws)) × Spells after ws
    × (length ws ≤ length us)) →
    Spells (keyword_at at word.Let ∷ print_name v ∷ sign sym.Equals ∷ shown) tokens
    → Found StepTree read_step s after tokens
let_found at v s shown after [] bound h = absurd h
let_found at v s shown after (x ∷ ts) bound h =
    let f = name_found v (sign sym.Equals ∷ shown) ts h.1 in
    let y = first_of_shown (sign sym.Equals) shown f.rest f.spelled in
    let b = bound y.others y.spelled in
    record {
      rest = b.0;
      read =
          let_front at x ts h.0 ∙ let_made (record { at = at; lexeme = reserved word.Let }) ts v f.rest y.first y.others
          s b.0 f.read y.whole b.1;
      spelled = b.2;
      shorter = omega (arith, f.shorter, b.3, ap length y.whole);
    }

empty_bound : (at : ℕ) (v : NameAt) (list_at : ℕ) (q : Potential) (t : ValueType) (after : List Shown)
    (us : List Placed) →
    Spells (keyword_at list_at word.List ∷ print_potential q (print_value_type t after)) us →
    (ws : List Placed) × (bound_from at v (is_list (front_kind us)) us ≡ (empty_list at v list_at q t, ws))
    × Spells after ws × (length ws ≤ length us)
empty_bound at v list_at q t after [] h = absurd h
empty_bound at v list_at q t after (x ∷ []) h = absurd h.1
empty_bound at v list_at q t after (x ∷ y ∷ us) h =
    let f = potential_found q (print_value_type t after) (y ∷ us) h.1 in
    let g = value_type_found t after f.rest f.spelled in
    let brace : is_open_brace (front_kind (y ∷ us)) ≡ true =
    at_this (λ z. is_open_brace (front_kind (z ∷ us)) ≡ true) q.at (symbol sym.OpenBrace) y h.1.0 refl in
    let made : list_from at v list_at (is_open_brace (front_kind (y ∷ us))) (y ∷ us)
    ≡ (empty_list at v list_at q t, g.rest) =
    rw brace (list_made at v list_at (y ∷ us) q f.rest t g.rest f.read g.read) in (
      g.rest,
      at_this (λ z. bound_from at v (is_list (front_kind (z ∷ y ∷ us))) (z ∷ y ∷ us)
          ≡ (empty_list at v list_at q t, g.rest)) list_at (reserved word.List) x h.0
          (list_bound at v (record { at = list_at; lexeme = reserved word.List }) (y ∷ us) (empty_list at v list_at q t)
          g.rest refl made),
      g.spelled,
      omega (arith, f.shorter, g.shorter),
    )

longer_bound : (at : ℕ) (v : NameAt) (t : TermTree) (w : NameAt) → IsTerm the_production.Term t
    → (after : List Shown) (us : List Placed) →
    Spells (keyword word.List ∷ print_term t (sign sym.Comma ∷ print_name w ∷ after)) us →
    (ws : List Placed) × (bound_from at v (is_list (front_kind us)) us ≡ (longer_list at v t w, ws)) × Spells after ws
    × (length ws ≤ length us)
longer_bound at v t w is after [] h = absurd h
longer_bound at v t w is after (x ∷ us) h =
    let f = whole_found t is (sign sym.Comma ∷ print_name w ∷ after) us (comma_ends (print_name w ∷ after)) h.1 in
    let y = first_of_shown (sign sym.Comma) (print_name w ∷ after) f.rest f.spelled in
    let g = name_found w after y.others y.spelled in
    let made : list_from at v x.at (is_open_brace (front_kind us)) us ≡ (longer_list at v t w, g.rest) =
    rw (term_no_brace is (sign sym.Comma ∷ print_name w ∷ after) us h.1)
    (longer_made at v x.at us t f.rest w g.rest f.read
    (passed NameAt read_name f.rest y.first y.others w g.rest y.whole g.read)) in
    let list : is_list (front_kind (x ∷ us))
    ≡ true = with_this (λ z. is_list (front_kind (z ∷ us)) ≡ true) (reserved word.List) x h.0 refl in (
      g.rest,
      list_bound at v x us (longer_list at v t w) g.rest list made,
      g.spelled,
      omega (arith, f.shorter, g.shorter, ap length y.whole),
    )

pub step_found : (s : StepTree) → IsStep s → (after : List Shown) (tokens : List Placed)
    → Spells (print_step s (sign sym.Semicolon ∷ after)) tokens →
    Found StepTree read_step s (sign sym.Semicolon ∷ after) tokens
step_found (send at c n) is after tokens h =
    send_like word.Send send at c n (sign sym.Semicolon ∷ after) tokens (send_front at) h
step_found (recv at c n) is after tokens h =
    send_like word.Recv recv at c n (sign sym.Semicolon ∷ after) tokens (recv_front at) h
step_found (taking at c n) is after tokens h =
    send_like word.Take taking at c n (sign sym.Semicolon ∷ after) tokens (taking_front at) h
step_found (acquire at n m) is after tokens h =
    as_like word.Acquire acquire at n m (sign sym.Semicolon ∷ after) tokens (acquire_front at) h
step_found (release at n m) is after tokens h =
    as_like word.Release release at n m (sign sym.Semicolon ∷ after) tokens (release_front at) h
step_found (accept at) is after [] h = absurd h
step_found (accept at) is after (x ∷ ts) h =
    record { rest = ts; read = accept_front at x ts h.0; spelled = h.1; shorter = omega arith }
step_found (detach at) is after [] h = absurd h
step_found (detach at) is after (x ∷ ts) h =
    record { rest = ts; read = detach_front at x ts h.0; spelled = h.1; shorter = omega arith }
step_found (wait at n) is after [] h = absurd h
step_found (wait at n) is after (x ∷ ts) h =
    let f = name_found n (sign sym.Semicolon ∷ after) ts h.1 in
    record {
      rest = f.rest;
      read = wait_front at x ts h.0
          ∙ wait_made (record { at = at; lexeme = reserved word.Wait }) ts n f.rest f.read;
      spelled = f.spelled;
      shorter = omega (arith, f.shorter);
    }
step_found (work at q) is after [] h = absurd h
step_found (work at q) is after (x ∷ ts) h =
    let f = potential_found q (sign sym.Semicolon ∷ after) ts h.1 in
    record {
      rest = f.rest;
      read = work_front at x ts h.0
          ∙ work_made (record { at = at; lexeme = reserved word.Work }) ts q f.rest f.read;
      spelled = f.spelled;
      shorter = omega (arith, f.shorter);
    }
step_found (emit at t) is after [] h = absurd h
step_found (emit at t) is after (x ∷ ts) h =
    let f = whole_found t is (sign sym.Semicolon ∷ after) ts (semicolon_ends after) h.1 in
    record {
      rest = f.rest;
      read = emit_front at x ts h.0
          ∙ emit_made (record { at = at; lexeme = reserved word.Emit }) ts t f.rest f.read;
      spelled = f.spelled;
      shorter = omega (arith, f.shorter);
    }
step_found (put at c t) is after [] h = absurd h
step_found (put at c t) is after (x ∷ ts) h =
    let f = chan_found c (print_term t (sign sym.Semicolon ∷ after)) ts h.1 in
    let g = whole_found t is (sign sym.Semicolon ∷ after) f.rest (semicolon_ends after) f.spelled in
    record {
      rest = g.rest;
      read = put_front at x ts h.0
          ∙ put_made (record { at = at; lexeme = reserved word.Put }) ts c f.rest t g.rest f.read g.read;
      spelled = g.spelled;
      shorter = omega (arith, f.shorter, g.shorter);
    }
step_found (pay at c q) is after [] h = absurd h
step_found (pay at c q) is after (x ∷ ts) h =
    let f = chan_found c (print_potential q (sign sym.Semicolon ∷ after)) ts h.1 in
    let g = potential_found q (sign sym.Semicolon ∷ after) f.rest f.spelled in
    record {
      rest = g.rest;
      read = pay_front at x ts h.0
          ∙ pay_made (record { at = at; lexeme = reserved word.Pay }) ts c f.rest q g.rest f.read g.read;
      spelled = g.spelled;
      shorter = omega (arith, f.shorter, g.shorter);
    }
step_found (getting at c q) is after [] h = absurd h
step_found (getting at c q) is after (x ∷ ts) h =
    let f = chan_found c (print_potential q (sign sym.Semicolon ∷ after)) ts h.1 in
    let g = potential_found q (sign sym.Semicolon ∷ after) f.rest f.spelled in
    record {
      rest = g.rest;
      read = getting_front at x ts h.0
          ∙ get_made (record { at = at; lexeme = reserved word.Get }) ts c f.rest q g.rest f.read g.read;
      spelled = g.spelled;
      shorter = omega (arith, f.shorter, g.shorter);
    }
step_found (spawn at n p a) is after [] h = absurd h
step_found (spawn at n p a) is after (x ∷ ts) h =
    let f = name_found n (sign sym.Equals ∷ print_name p ∷ print_args a (sign sym.Semicolon ∷ after)) ts h.1 in
    let y = first_of_shown (sign sym.Equals) (print_name p ∷ print_args a (sign sym.Semicolon ∷ after)) f.rest
    f.spelled in
    let g = name_found p (print_args a (sign sym.Semicolon ∷ after)) y.others y.spelled in
    let k = args_found a is (sign sym.Semicolon ∷ after) g.rest g.spelled in
    record {
      rest = k.rest;
      read =
          spawn_front at x ts h.0 ∙ spawn_made (record { at = at; lexeme = reserved word.Spawn }) ts n f.rest p g.rest a
          k.rest f.read
          (passed NameAt read_name f.rest y.first y.others p g.rest y.whole g.read) k.read;
      spelled = k.spelled;
      shorter = omega (arith, f.shorter, g.shorter, k.shorter, ap length y.whole);
    }
step_found (label c l) is after tokens h =
    let f = chan_found c (sign sym.Dot ∷ print_name l ∷ sign sym.Semicolon ∷ after) tokens h in
    let y = first_of_shown (sign sym.Dot) (print_name l ∷ sign sym.Semicolon ∷ after) f.rest f.spelled in
    let g = name_found l (sign sym.Semicolon ∷ after) y.others y.spelled in
    record {
      rest = g.rest;
      read = label_front c (sign sym.Dot ∷ print_name l ∷ sign sym.Semicolon ∷ after) tokens h
          ∙ label_made tokens c f.rest l g.rest f.read
          (passed NameAt read_name f.rest y.first y.others l g.rest y.whole g.read);
      spelled = g.spelled;
      shorter = omega (arith, f.shorter, g.shorter, ap length y.whole);
    }
step_found (binding at v t) is after tokens h =
    let_found at v (binding at v t) (print_term t (sign sym.Semicolon ∷ after)) (sign sym.Semicolon ∷ after) tokens
    (λ us s.
    let f = whole_found t is (sign sym.Semicolon ∷ after) us (semicolon_ends after) s in (
      f.rest,
      term_bound at v us t f.rest (term_no_list is (sign sym.Semicolon ∷ after) us s) f.read,
      f.spelled,
      f.shorter,
    )) h
step_found (empty_list at v list_at q t) is after tokens h =
    let_found at v (empty_list at v list_at q t)
    (keyword_at list_at word.List ∷ print_potential q (print_value_type t (sign sym.Semicolon ∷ after)))
    (sign sym.Semicolon ∷ after) tokens
    (empty_bound at v list_at q t (sign sym.Semicolon ∷ after)) h
step_found (longer_list at v t w) is after tokens h =
    let_found at v (longer_list at v t w)
    (keyword word.List ∷ print_term t (sign sym.Comma ∷ print_name w ∷ sign sym.Semicolon ∷ after))
    (sign sym.Semicolon ∷ after) tokens
    (longer_bound at v t w is (sign sym.Semicolon ∷ after)) h
