-- Numbers first, and then whether a transaction is left.
use Rattle.nomos_snapshot.proofs.LoadLemmas.{asked-first, never, sorted-ordered, typed-sound}
use Rattle.nomos_snapshot.proofs.ledger_loading.is_sound_state.Goals as goal

pub returns-then-not-are_objects_below : goal.returns-then-not-are_objects_below
returns-then-not-are_objects_below c =
    never (λ sound. asked-first c.are_objects_below.result c.are_objects_below.ensures c.if-not-are_objects_below.true
    sound.typed.numbered.below)

pub returns-then-not-are_names_below : goal.returns-then-not-are_names_below
returns-then-not-are_names_below c =
    never (λ sound. asked-first c.are_names_below.result c.are_names_below.ensures c.if-not-are_names_below.true
    sound.typed.numbered.names)

pub returns-then-has_transaction : goal.returns-then-has_transaction
returns-then-has_transaction c =
    never (λ sound. sound.no_transaction (c.has_transaction.ensures.0 c.if-has_transaction.true))

pub is_typed-requires : goal.is_typed-requires
is_typed-requires c =
    sorted-ordered c.requires (c.are_objects_below.ensures.0 c.if-not-are_objects_below.false)
    (c.are_names_below.ensures.0 c.if-not-are_names_below.false)

pub returns : goal.returns
returns c =
    typed-sound c.in_ok-typed.typed
    (asked-first c.has_transaction.result c.has_transaction.ensures c.if-has_transaction.false) c.in_ok-typed.ensures
