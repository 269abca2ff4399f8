-- Where a text may end.
use Rattle.std.proofs.Common.{
  ◌≡◌,
  Bool,
  true,
  false,
  IsTrue,
  ◌↔◌,
  List,
  [],
  ◌∷◌,
  ◌++◌,
  Option,
  Some,
  None,
  is_some,
  not,
  refl,
  sym,
  ap,
  subst,
  ◌∙◌,
  append-nil,
}
use Rattle.nomos_syntax.specs.Lexeme.{Placed}
use Rattle.nomos_grammar.specs.declared.part.Terminal.{Terminal}
use Rattle.nomos_grammar.specs.declared.part.Mark.{Mark}
use Rattle.nomos_grammar.specs.declared.part.Part.{Part}
use Rattle.nomos_grammar.specs.declared.part.Part.TheVariants as part
use Rattle.nomos_grammar.specs.CountedPlaces.{Counts}
use Rattle.nomos_grammar.specs.Producing.{Event, token, mark, tokens_in, Produces, nothing, read, IsFile}
use Rattle.nomos_grammar.specs.mirror.Stacks.{next_in}
use Rattle.nomos_grammar.specs.mirror.ReaderStates.{events_of, Leads, Settles, HasRead}
use Rattle.nomos_grammar.proofs.ReadingLemmas.{tokens_joined, no_tokens_in_marks}
use Rattle.nomos_grammar.proofs.StandLemmas.{same_behind}

next_of_none : (events : List Event) → tokens_in events ≡ [] → next_in events ≡ None
next_of_none [] e = refl
next_of_none (token x ∷ events) e = cc
next_of_none (mark m ∷ events) e = next_of_none events e

a_token : {t : Terminal} {rest : List Part} {events : List Event} → Produces (part.Terminal t ∷ rest) events →
    tokens_in events ≡ [] → ⊥
a_token (read f d) e = cc

-- nothing has to follow
ends_file : (front : List Placed) (parts : List Part) (c d : Counts) (next : Option Terminal) (marks : List Mark)
    (has : HasRead front parts c) → Leads next parts c marks [] d → IsFile front
ends_file front parts c d next marks has way =
    let tokens : tokens_in (has.events ++ (events_of marks ++ [])) ≡ front =
    tokens_joined has.events (events_of marks ++ [])
    ∙ (ap (λ es. tokens_in has.events ++ tokens_in es) (append-nil (events_of marks)) ∙
    (ap (λ ts. tokens_in has.events ++ ts) (no_tokens_in_marks marks)
    ∙ (append-nil (tokens_in has.events) ∙ has.tokens))) in
    (has.events ++ (events_of marks ++ []), has.sound (events_of marks ++ []) (way.sound [] nothing), tokens)

-- a token has to follow
goes_on : (front : List Placed) (parts rest : List Part) (c d : Counts) (marks : List Mark) (t : Terminal)
    (has : HasRead front parts c) → Leads None parts c marks (part.Terminal t ∷ rest) d → ¬ IsFile front
goes_on front parts rest c d marks t has way f =
    let behind = has.complete f.0 [] f.1 (f.2 ∙ sym (append-nil front)) in
    let split : front ++ tokens_in behind.0
    ≡ front ++ [] = ap (λ ts. ts ++ tokens_in behind.0) (sym has.tokens)
    ∙ (sym (tokens_joined has.events behind.0) ∙ (ap tokens_in (sym behind.1) ∙ (f.2 ∙ sym (append-nil front)))) in
    let none : tokens_in behind.0 ≡ [] = same_behind front (tokens_in behind.0) [] split in
    let on = way.complete behind.0 (next_of_none behind.0 none) behind.2 in
    let left : tokens_in on.0 ≡ [] = sym (ap (λ ts. ts ++ tokens_in on.0) (no_tokens_in_marks marks))
    ∙ (sym (tokens_joined (events_of marks) on.0) ∙ (sym (ap tokens_in on.1) ∙ none)) in
    a_token on.2 left

-- the tokens read are a file just where nothing has to follow
pub ends_well : (front : List Placed) (parts rest : List Part) (c d : Counts) (asked : Option Terminal) (ends : Bool)
    → HasRead front parts c → Settles None parts c asked rest d → (IsTrue ends ↔ (asked ≡ None))
    → IsTrue ends ↔ IsFile front
ends_well front parts rest c d None ends has s e = (
  λ h. ends_file front parts c d None s.marks has
      (subst (λ (p : List Part). Leads None parts c s.marks p d) (s.ended refl) s.leads),
  λ f. e.1 refl,
)
ends_well front parts rest c d (Some t) ends has s e = (
  λ h. let no : Some t ≡ None = e.0 h in cc,
  λ f. absurd (goes_on front parts rest c d s.marks t has s.leads f),
)

pub none_test : {A : Type 0} (o : Option A) (b : Bool) → is_some o ≡ not b → IsTrue b ↔ (o ≡ None)
none_test None true h = (λ _. refl, λ _. refl)
none_test None false h = cc
none_test (Some x) true h = cc
none_test (Some x) false h = (λ e. cc, λ e. cc)
