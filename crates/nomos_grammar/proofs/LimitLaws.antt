-- In a file whose tokens keep to all rules, what counts at each token is within the limits.
use Rattle.std.proofs.Common.{◌≡◌, ◌≤◌, List, [], ◌∷◌, ◌++◌, refl, sym, ap, subst, ◌∙◌}
use Rattle.nomos_syntax.specs.Lexeme.{Placed}
use Rattle.nomos_syntax.specs.TextLimits.{nesting_limit, node_limit}
use Rattle.nomos_grammar.specs.declared.part.Part.{Part}
use Rattle.nomos_grammar.specs.CountedPlaces.{Counts, depth, counts}
use Rattle.nomos_grammar.specs.Producing.{
  Event,
  token,
  mark,
  tokens_in,
  Produces,
  nothing,
  read,
  counted,
  replaced,
  file,
}
use Rattle.nomos_grammar.specs.Offence.{star_limit, MayStand, rules, KeepsAll, AllKeep}
use Rattle.nomos_grammar.specs.mirror.Stacks.{next_in, IsStack}
use Rattle.nomos_grammar.proofs.ChoiceLemmas.{side_chosen}
use Rattle.nomos_grammar.proofs.GrammarLaws.{next_of, next_of_tokens, stack_replaced, stack_file}
use Rattle.nomos_grammar.proofs.ReadingLemmas.{tokens_joined}
use Rattle.nomos_grammar.proofs.OffenceLaws.{kept_at}

-- two lists that begin alike, with one token behind, have one first token
next_alike : (front : List Placed) (x : Placed) (more others : List Placed) →
    next_of (front ++ x ∷ more) ≡ next_of (front ++ x ∷ others)
unfolding next_of
next_alike [] x more others = refl
next_alike (y ∷ front) x more others = refl

next_cut : (events earlier later : List Event) (x : Placed) → events ≡ earlier ++ token x ∷ later →
    next_in events ≡ next_of (tokens_in earlier ++ x ∷ tokens_in later)
next_cut events earlier later x e =
    next_of_tokens events ∙ ap next_of (ap tokens_in e ∙ tokens_joined earlier (token x ∷ later))

next_same : (events earlier later others before behind : List Event) (x : Placed) →
    events ≡ earlier ++ token x ∷ later → others ≡ before ++ token x ∷ behind →
    tokens_in earlier ≡ tokens_in before → next_in others ≡ next_in events
next_same events earlier later others before behind x e f t =
    next_cut others before behind x f ∙ (ap (λ ts. next_of (ts ++ x ∷ tokens_in behind)) (sym t) ∙
    (next_alike (tokens_in earlier) x (tokens_in behind) (tokens_in later) ∙ sym (next_cut events earlier later x e)))

-- The tokens up to one fix the events before it.
before_once : {parts : List Part} {events others : List Event} → IsStack parts → Produces parts events →
    Produces parts others → (earlier later before behind : List Event) (x : Placed) →
    events ≡ earlier ++ token x ∷ later → others ≡ before ++ token x ∷ behind →
    tokens_in earlier ≡ tokens_in before → earlier ≡ before
before_once s nothing b [] later before behind x e f t = cc
before_once s nothing b (y ∷ earlier) later before behind x e f t = cc
before_once s (read d1 d) b [] later [] behind x e f t = refl
before_once s (read d1 d) b [] later (token y ∷ before) behind x e f t = cc
before_once s (read d1 d) (read g b) [] later (mark m ∷ before) behind x e f t = cc
before_once s (read d1 d) b (mark m ∷ earlier) later before behind x e f t = cc
before_once s (read d1 d) b (token y ∷ earlier) later [] behind x e f t = cc
before_once s (read d1 d) (read g b) (token y ∷ earlier) later (mark m ∷ before) behind x e f t = cc
before_once s (read {events = more} d1 d) (read {events = rest} g b) (token y ∷ earlier) later (token z ∷ before) behind
    x e f t =
    let cut : more ≡ earlier ++ token x ∷ later = cc in
    let other : rest ≡ before ++ token x ∷ behind = cc in
    let left : tokens_in earlier ≡ tokens_in before = cc in
    let on = before_once s d b earlier later before behind x cut other left in
    cc
before_once s (counted d) b [] later before behind x e f t = cc
before_once s (counted d) b (token y ∷ earlier) later before behind x e f t = cc
before_once s (counted d) (counted b) (mark m ∷ earlier) later [] behind x e f t = cc
before_once s (counted d) (counted b) (mark m ∷ earlier) later (token y ∷ before) behind x e f t = cc
before_once s (counted {events = more} d) (counted {events = rest} b) (mark m ∷ earlier) later (mark k ∷ before) behind
    x e f t =
    let cut : more ≡ earlier ++ token x ∷ later = cc in
    let other : rest ≡ before ++ token x ∷ behind = cc in
    let on = before_once s d b earlier later before behind x cut other t in
    cc
before_once {events = events} {others = others} s (replaced {n = n} {rest = rest} side m d) (replaced side' k b) earlier
    later before behind x e f t =
    let next = next_same events earlier later others before behind x e f t in
    let same : side' ≡ side = sym (side_chosen n side' rest others (next_in events) next s.0 k b)
    ∙ side_chosen n side rest events (next_in events) refl s.0 m d in
    before_once (stack_replaced n side rest m s) d
    (subst (λ (parts : List Part). Produces (parts ++ rest) others) same b) earlier later before behind x e f t

-- Where a token may stand so that what counts at it is such, it counts so in each file in which the token stands there.
pub counts_so : (P : Counts → Type 0) (front : List Placed) (x : Placed) → MayStand P front x →
    (earlier later : List Event) → Produces file (earlier ++ token x ∷ later) → tokens_in earlier ≡ front →
    P (counts earlier)
counts_so P front x s earlier later d t =
    let same = before_once stack_file s.2 d s.0 s.1 earlier later x refl refl (s.3 ∙ sym t) in
    subst (λ (es : List Event). P (counts es)) same s.4

-- what counts at a token is within the limits
pub record IsWithinLimits (c : Counts) : Type 0 where
  pub nesting : depth c ≤ nesting_limit
  pub nodes : c.nodes ≤ node_limit
  pub stars : c.stars ≤ star_limit

pub kept_within : (tokens : List Placed) (earlier later : List Event) (x : Placed) → AllKeep [] tokens →
    Produces file (earlier ++ token x ∷ later) → tokens_in (earlier ++ token x ∷ later) ≡ tokens →
    IsWithinLimits (counts earlier)
kept_within tokens earlier later x kept d t =
    let split : tokens_in earlier ++ x ∷ tokens_in later ≡ tokens = sym (tokens_joined earlier (token x ∷ later)) ∙ t in
    let all : AllKeep [] (tokens_in earlier ++ x ∷ tokens_in later) = subst (λ (ts : List Placed). AllKeep [] ts)
    (sym split) kept in
    let keeps : KeepsAll (tokens_in earlier) x rules = kept_at [] (tokens_in earlier) (tokens_in later) x all in
    record {
      nesting = counts_so (λ c. depth c ≤ nesting_limit) (tokens_in earlier) x keeps.1.1.1.1.0 earlier later d refl;
      nodes = counts_so (λ c. c.nodes ≤ node_limit) (tokens_in earlier) x keeps.1.1.1.1.1.0 earlier later d refl;
      stars = counts_so (λ c. c.stars ≤ star_limit) (tokens_in earlier) x keeps.1.1.1.1.1.1.0 earlier later d refl;
    }
