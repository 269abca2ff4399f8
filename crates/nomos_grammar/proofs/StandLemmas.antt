-- Where a token may stand, and what counts at it.
use Rattle.std.proofs.Common.{◌≡◌, List, [], ◌∷◌, ◌++◌, Option, refl, sym, ap, subst, ◌∙◌, append_assoc, append-nil}
use Rattle.nomos_syntax.specs.Lexeme.{Placed}
use Rattle.nomos_grammar.specs.declared.part.Terminal.{Terminal}
use Rattle.nomos_grammar.specs.declared.part.Mark.{Mark}
use Rattle.nomos_grammar.specs.declared.part.Part.{Part}
use Rattle.nomos_grammar.specs.declared.part.Part.TheVariants as part
use Rattle.nomos_grammar.specs.CountedPlaces.{Counts, nothing_counted, after_token, counts_from, counts}
use Rattle.nomos_grammar.specs.Producing.{
  terminal_of,
  Fits,
  Event,
  token,
  mark,
  tokens_in,
  Produces,
  nothing,
  read,
  file,
}
use Rattle.nomos_grammar.specs.Offence.{MayBecome, MayStand}
use Rattle.nomos_grammar.specs.mirror.Stacks.{next_in}
use Rattle.nomos_grammar.specs.mirror.ReaderStates.{events_of, Leads, HasRead}
use Rattle.nomos_grammar.proofs.ReadingLemmas.{counts_joined, tokens_joined, no_tokens_in_marks}
use Rattle.nomos_grammar.proofs.ProductiveLaws.{productive}

pub same_behind : {A : Type 0} (front a b : List A) → front ++ a ≡ front ++ b → a ≡ b
same_behind [] a b e = e
same_behind (x ∷ front) a b e = let f : front ++ a ≡ front ++ b = cc in same_behind front a b f

-- events are cut at one place before a token, if as many tokens stand there
cut_once : (earlier later others more : List Event) (x : Placed) →
    earlier ++ token x ∷ later ≡ others ++ token x ∷ more → tokens_in earlier ≡ tokens_in others → earlier ≡ others
cut_once [] later [] more x e t = refl
cut_once [] later (token y ∷ others) more x e t = cc
cut_once [] later (mark m ∷ others) more x e t = cc
cut_once (token y ∷ earlier) later [] more x e t = cc
cut_once (mark m ∷ earlier) later [] more x e t = cc
cut_once (token y ∷ earlier) later (token z ∷ others) more x e t =
    let f : earlier ++ token x ∷ later ≡ others ++ token x ∷ more = cc in
    let u : tokens_in earlier ≡ tokens_in others = cc in
    let same = cut_once earlier later others more x f u in
    cc
cut_once (token y ∷ earlier) later (mark m ∷ others) more x e t = cc
cut_once (mark m ∷ earlier) later (token y ∷ others) more x e t = cc
cut_once (mark m ∷ earlier) later (mark k ∷ others) more x e t =
    let f : earlier ++ token x ∷ later ≡ others ++ token x ∷ more = cc in
    let same = cut_once earlier later others more x f t in
    cc

next_of_tokens : (events : List Event) (x : Placed) (others : List Placed) → tokens_in events ≡ x ∷ others →
    next_in events ≡ terminal_of x.lexeme
next_of_tokens [] x others e = cc
next_of_tokens (token y ∷ events) x others e = let same : y ≡ x = cc in ap (λ (z : Placed). terminal_of z.lexeme) same
next_of_tokens (mark m ∷ events) x others e = next_of_tokens events x others e

-- what is known where tokens are read and the next one leads to these parts
pub record Comes (front : List Placed) (x : Placed) (rest : List Part) (d : Counts) : Type 0 where
  pub earlier : List Event
  pub tokens : tokens_in earlier ≡ front
  pub counted : counts earlier ≡ d
  pub sound : (more : List Event) → Produces rest more → Produces file (earlier ++ more)
  pub complete : (all : List Event) (others : List Placed) → Produces file all →
      tokens_in all ≡ front ++ x ∷ others →
      (more : List Event) × (all ≡ earlier ++ more) × Produces rest more × (tokens_in more ≡ x ∷ others)

completes : (front : List Placed) (parts rest : List Part) (c d : Counts) (next : Option Terminal) (marks : List Mark)
    (x : Placed) (has : HasRead front parts c) → Leads next parts c marks rest d → terminal_of x.lexeme ≡ next
    → (all : List Event) (others : List Placed) → Produces file all → tokens_in all ≡ front ++ x ∷ others
    → (more : List Event) × (all ≡ (has.events ++ events_of marks) ++ more) × Produces rest more
    × (tokens_in more ≡ x ∷ others)
completes front parts rest c d next marks x has way sees all others derived e =
    let behind = has.complete all (x ∷ others) derived e in
    let split : front ++ tokens_in behind.0
    ≡ front ++ x ∷ others = rw (← has.tokens)
    (sym (tokens_joined has.events behind.0)
    ∙ (ap tokens_in (sym behind.1) ∙ (e ∙ ap (λ ts. ts ++ x ∷ others) (sym has.tokens)))) in
    let own : tokens_in behind.0 ≡ x ∷ others = same_behind front (tokens_in behind.0) (x ∷ others) split in
    let seen : next_in behind.0 ≡ next = next_of_tokens behind.0 x others own ∙ sees in
    let on = way.complete behind.0 seen behind.2 in
    let whole : all ≡ (has.events ++ events_of marks) ++ on.0 = behind.1
    ∙ (ap (λ more. has.events ++ more) on.1 ∙ sym (append_assoc has.events (events_of marks) on.0)) in
    let left : tokens_in on.0 ≡ x ∷ others = sym (ap (λ ts. ts ++ tokens_in on.0) (no_tokens_in_marks marks))
    ∙ (sym (tokens_joined (events_of marks) on.0) ∙ (sym (ap tokens_in on.1) ∙ own)) in
    (on.0, whole, on.2, left)

-- the tokens read and the way to the next one, together
pub comes : (front : List Placed) (parts rest : List Part) (c d : Counts) (next : Option Terminal) (marks : List Mark)
    (x : Placed) → HasRead front parts c → Leads next parts c marks rest d → terminal_of x.lexeme ≡ next
    → Comes front x rest d
comes front parts rest c d next marks x has way sees = record {
  earlier = has.events ++ events_of marks;
  tokens =
      tokens_joined has.events (events_of marks)
      ∙ (ap (λ ts. ts ++ tokens_in (events_of marks)) has.tokens
      ∙ (ap (λ ts. front ++ ts) (no_tokens_in_marks marks) ∙ append-nil front));
  counted =
      counts_joined nothing_counted has.events (events_of marks)
      ∙ (ap (λ k. counts_from k (events_of marks)) has.counted ∙ sym way.counted);
  sound =
      λ more h. rw (append_assoc has.events (events_of marks) more)
      (has.sound (events_of marks ++ more) (way.sound more h));
  complete = completes front parts rest c d next marks x has way sees;
}

-- a terminal derives one token
record Reads (t : Terminal) (rest : List Part) (events : List Event) (x : Placed) : Type 0 where
  more : List Event
  begins : events ≡ token x ∷ more
  fits : Fits t x.lexeme
  derived : Produces rest more

reads : {t : Terminal} {rest : List Part} {events : List Event} (x : Placed) (others : List Placed) →
    Produces (part.Terminal t ∷ rest) events → tokens_in events ≡ x ∷ others → Reads t rest events x
reads {t} x others (read {x = y} {events = more} f d) e =
    let same : y ≡ x = cc in
    record {
      more = more;
      begins = ap (λ z. token z ∷ more) same;
      fits = subst (λ (z : Placed). Fits t z.lexeme) same f;
      derived = d;
    }

-- it may stand there
pub stands : (front : List Placed) (x : Placed) (t : Terminal) (rest : List Part) (d : Counts)
    (c : Comes front x (part.Terminal t ∷ rest) d) → Fits t x.lexeme
    → (later : List Event) × Produces file (c.earlier ++ token x ∷ later)
stands front x t rest d c f = let p = productive rest in (p.0, c.sound (token x ∷ p.0) (read f p.1))

pub may_stand : (P : Counts →
    Type 0) (front : List Placed) (x : Placed) (t : Terminal) (rest : List Part) (d : Counts) →
    Comes front x (part.Terminal t ∷ rest) d → Fits t x.lexeme → P d → MayStand P front x
may_stand P front x t rest d c f p =
    let s = stands front x t rest d c f in
    (c.earlier, s.0, s.1, c.tokens, subst P (sym c.counted) p)

pub may_become : (front : List Placed) (x : Placed) (t : Terminal) (rest : List Part) (d : Counts) →
    Comes front x (part.Terminal t ∷ rest) d → Fits t x.lexeme → MayBecome (front ++ x ∷ [])
may_become front x t rest d c f =
    let s = stands front x t rest d c f in
    let whole : tokens_in (c.earlier ++ token x ∷ s.0) ≡ (front ++ x ∷ []) ++ tokens_in s.0 =
    tokens_joined c.earlier (token x ∷ s.0)
    ∙ (ap (λ ts. ts ++ x ∷ tokens_in s.0) c.tokens ∙ sym (append_assoc front (x ∷ []) (tokens_in s.0))) in
    (tokens_in s.0, (c.earlier ++ token x ∷ s.0, s.1, whole))

-- wherever it stands, this counts at it
pub stands_so : (P : Counts →
    Type 0) (front : List Placed) (x : Placed) (t : Terminal) (rest : List Part) (d : Counts) →
    Comes front x (part.Terminal t ∷ rest) d → MayStand P front x → P d
stands_so P front x t rest d c s =
    let whole : tokens_in (s.0 ++ token x ∷ s.1)
    ≡ front ++ x ∷ tokens_in s.1 = tokens_joined s.0 (token x ∷ s.1) ∙ ap (λ ts. ts ++ x ∷ tokens_in s.1) s.3 in
    let found = c.complete (s.0 ++ token x ∷ s.1) (tokens_in s.1) s.2 whole in
    let one = reads x (tokens_in s.1) found.2 found.3 in
    let cut : s.0 ++ token x ∷ s.1 ≡ c.earlier ++ token x ∷ one.more = found.1
    ∙ ap (λ es. c.earlier ++ es) one.begins in
    let same = cut_once s.0 s.1 c.earlier one.more x cut (s.3 ∙ sym c.tokens) in
    subst P (ap counts same ∙ c.counted) s.4

-- a token that does not fit may not stand there
pub never_fits : (front : List Placed) (x : Placed) (t : Terminal) (rest : List Part) (d : Counts) →
    Comes front x (part.Terminal t ∷ rest) d → ¬ Fits t x.lexeme → ¬ MayBecome (front ++ x ∷ [])
never_fits front x t rest d c misfit m =
    let whole : tokens_in m.1.0 ≡ front ++ x ∷ m.0 = m.1.2 ∙ append_assoc front (x ∷ []) m.0 in
    let found = c.complete m.1.0 m.0 m.1.1 whole in
    let one = reads x m.0 found.2 found.3 in
    misfit one.fits

-- nor may any token where nothing has to follow
pub nothing_left : {events : List Event} → Produces [] events → events ≡ []
nothing_left nothing = refl

pub never_more : (front : List Placed) (x : Placed) (d : Counts) → Comes front x [] d → ¬ MayBecome (front ++ x ∷ [])
never_more front x d c m =
    let whole : tokens_in m.1.0 ≡ front ++ x ∷ m.0 = m.1.2 ∙ append_assoc front (x ∷ []) m.0 in
    let found = c.complete m.1.0 m.0 m.1.1 whole in
    let none : tokens_in found.0 ≡ [] = ap tokens_in (nothing_left found.2) in
    let three = found.3 in
    cc

-- the token is read
pub read_on : (front : List Placed) (x : Placed) (t : Terminal) (rest : List Part) (d : Counts) →
    Comes front x (part.Terminal t ∷ rest) d → Fits t x.lexeme → HasRead (front ++ x ∷ []) rest (after_token d)
read_on front x t rest d c f = record {
  events = c.earlier ++ token x ∷ [];
  tokens = tokens_joined c.earlier (token x ∷ []) ∙ ap (λ ts. ts ++ x ∷ []) c.tokens;
  counted = counts_joined nothing_counted c.earlier (token x ∷ []) ∙ ap after_token c.counted;
  sound = λ more h. rw (append_assoc c.earlier (token x ∷ []) more) (c.sound (token x ∷ more) (read f h));
  complete = λ all others derived e.
      let found = c.complete all others derived (e ∙ append_assoc front (x ∷ []) others) in
      let one = reads x others found.2 found.3 in (
        one.more,
        found.1 ∙ (ap (λ es. c.earlier ++ es) one.begins
            ∙ sym (append_assoc c.earlier (token x ∷ []) one.more)),
        one.derived,
      );
}

-- the reading begins
pub nothing_read : HasRead [] file nothing_counted
nothing_read = record {
  events = [];
  tokens = refl;
  counted = refl;
  sound = λ more h. h;
  complete = λ all others derived e. (all, refl, derived);
}
