-- The first offence among tokens.
use Rattle.std.proofs.Common.{
  ◌≡◌,
  ℕ,
  suc,
  ◌+◌,
  ◌<◌,
  List,
  [],
  ◌∷◌,
  ◌++◌,
  length,
  take,
  drop,
  get_or,
  map,
  Result,
  Ok,
  Err,
  inl,
  sym,
  ap,
  subst,
  ◌∙◌,
  append-nil,
  append_assoc,
}
use Rattle.std.specs.Result.{IsErrAnd}
use Rattle.std.proofs.lemmas.List.{take_more, map-append, take-append-drop}
use Rattle.std.proofs.Math.Seq.{drop-cons}
use Rattle.nomos_syntax.specs.Lexeme.{Placed}
use Rattle.nomos_grammar.specs.declared.offence.GrammarError.{GrammarError}
use Rattle.nomos_grammar.specs.declared.offence.GrammarError.TheVariants.{Syntax, Limit, NoMemory}
use Rattle.nomos_grammar.specs.declared.reader.Reader.{Reader}
use Rattle.nomos_grammar.specs.Offence.{rules, KeepsAll, AllKeep, Offends, Answers}
use Rattle.nomos_grammar.specs.mirror.ReaderStates.{BreaksBy}
use Rattle.nomos_grammar.specs.mirror.TokenReaders.{ReadsAs}

-- one token more keeps to all rules
pub keep_more : (behind front : List Placed) (x : Placed) → AllKeep behind front →
    KeepsAll (behind ++ front) x rules → AllKeep behind (front ++ x ∷ [])
keep_more behind [] x kept keeps = (subst (λ (ts : List Placed). KeepsAll ts x rules) (append-nil behind) keeps, tt)
keep_more behind (y ∷ front) x kept keeps = (
  kept.0,
  keep_more (behind ++ y ∷ []) front x kept.1
      (subst (λ (ts : List Placed). KeepsAll ts x rules) (sym (append_assoc behind (y ∷ []) front)) keeps),
)

-- the items so far, and one more
pub map_more : {A : Type 0} (f : A → Placed) (xs : List A) (i : ℕ) (d : A) → i < length xs →
    map f (take (i + 1) xs) ≡ map f (take i xs) ++ f (get_or xs i d) ∷ []
map_more f xs i d h = ap (map f) (take_more xs i d h) ∙ map-append f (take i xs) (get_or xs i d ∷ [])

-- the items so far, one more, and those behind it
pub map_split : {A : Type 0} (f : A → Placed) (xs : List A) (i : ℕ) (d : A) → i < length xs →
    map f (take i xs) ++ f (get_or xs i d) ∷ map f (drop (suc i) xs) ≡ map f xs
map_split f xs i d h =
    let cut : drop i xs ≡ get_or xs i d ∷ drop (suc i) xs = drop-cons xs i d h in
    ap (λ more. map f (take i xs) ++ map f more) (sym cut)
    ∙ (sym (map-append f (take i xs) (drop i xs)) ∙ ap (map f) (take-append-drop i xs))

-- the error of the token that breaks a rule first is answered
pub offends_by : (tokens front after : List Placed) (x : Placed) (error : GrammarError) →
    front ++ x ∷ after ≡ tokens → AllKeep [] front → BreaksBy front x error → Offends tokens error
offends_by tokens front after x error stands kept b = (
  front,
  x,
  b.0,
  record {
    after = after;
    stands = stands;
    kept = kept;
    kept_rules = b.1.kept_rules;
    other_rules = b.1.other_rules;
    in_order = b.1.in_order;
    keeps = b.1.keeps;
    broken = b.1.broken;
  },
  b.2,
)

pub answers_error : (T U : Type 0) (tokens front after : List Placed) (x : Placed) (size : ℕ) (r : Reader)
    (error : GrammarError) → front ++ x ∷ after ≡ tokens → AllKeep [] front → ReadsAs {T = U} front x r (Err error)
    → Answers {T = T} tokens size (Err error)
answers_error T U tokens front after x size r NoMemory stands kept b = tt
answers_error T U tokens front after x size r (Syntax at) stands kept b =
    inl (offends_by tokens front after x (Syntax at) stands kept b)
answers_error T U tokens front after x size r (Limit which at) stands kept b =
    offends_by tokens front after x (Limit which at) stands kept b

pub answers_so : {T : Type 0} (tokens : List Placed) (size : ℕ) (error : GrammarError) (result : Result T GrammarError)
    → IsErrAnd result (λ e. e ≡ error) → Answers {T = T} tokens size (Err error) → Answers tokens size result
answers_so tokens size error (Ok x) h a = absurd h
answers_so {T} tokens size error (Err e) h a =
    subst (λ (f : GrammarError). Answers {T = T} tokens size (Err f)) (sym h) a
