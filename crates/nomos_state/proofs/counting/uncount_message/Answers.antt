use Rattle.std.proofs.Common.{◌≡◌, ◌+◌, ℕ, [], List, refl, arith}
use Rattle.std.specs.Option.{option_to_list}
use Rattle.nomos_ir.specs.Order.{count_of}
use Rattle.nomos_types.proofs.OccurrenceLaws.{count-append}
use Rattle.nomos_state.specs.declared.mentions.MessageNames.{MessageNames}
use Rattle.nomos_state.specs.Tallying.{nothing, only}
use Rattle.nomos_state.specs.declared.tally.NameUse.{NameUse}
use Rattle.nomos_state.specs.declared.tally.NameUse.TheVariants as doing
use Rattle.nomos_state.proofs.MoveLaws.{moves-both}
use Rattle.nomos_state.specs.Counting.{names_used}
use Rattle.nomos_state.proofs.counting.uncount_message.Goals as goal

-- what a message does with the names that it provides and at which its talk ends
abbrev ends_used : MessageNames → NameUse → List ℕ
ends_used names doing.Provides = option_to_list names.provides
ends_used names doing.Uses = option_to_list names.end
ends_used names doing.Bases = []

pub returns : goal.returns
returns c =
    let names = c.args.names in
    let both = moves-both c.args.tallies.now c.exchange.new.self c.exchange-2.new.self
    (only doing.Provides (option_to_list names.provides)) (only doing.Provides [])
    (only doing.Uses (option_to_list names.end)) (only doing.Uses []) (ends_used names) nothing c.exchange.ensures
    c.exchange-2.ensures (λ d n. ends d n)
    in
    moves-both c.args.tallies.now c.exchange-2.new.self c.exchange-3.new.self (ends_used names) nothing
    (only doing.Uses (option_to_list names.brings)) (only doing.Uses []) (names_used names) nothing both
    c.exchange-3.ensures (λ d n. all d n)
  where
    ends : (d : NameUse) (n : ℕ)
        → count_of n (ends_used c.args.names d) + count_of n (only doing.Provides [] d) + count_of n
        (only doing.Uses [] d)
        ≡ 0 + count_of n (only doing.Provides (option_to_list c.args.names.provides) d)
        + count_of n (only doing.Uses (option_to_list c.args.names.end) d)
    ends doing.Provides n = omega arith
    ends doing.Uses n = omega arith
    ends doing.Bases n = refl

    all : (d : NameUse) (n : ℕ)
        → count_of n (names_used c.args.names d) + 0 + count_of n (only doing.Uses [] d)
        ≡ 0 + count_of n (ends_used c.args.names d) + count_of n
        (only doing.Uses (option_to_list c.args.names.brings) d)
    all doing.Provides n = omega arith
    all doing.Uses n =
        omega (arith, count-append n (option_to_list c.args.names.end) (option_to_list c.args.names.brings))
    all doing.Bases n = refl
