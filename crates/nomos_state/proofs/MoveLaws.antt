-- What becomes of tallies where one thing is done after another.
use Rattle.std.proofs.Common.{◌≡◌, ◌∙◌, ℕ, ◌+◌, false, List, refl, arith}
use Rattle.nomos_ir.specs.Order.{count_of}
use Rattle.nomos_slots.specs.Numbers.{numbers}
use Rattle.nomos_state.specs.Moving.{Moves}
use Rattle.nomos_state.specs.declared.tallies.Tallies.{Tallies}
use Rattle.nomos_state.specs.declared.tally.NameUse.{NameUse}
use Rattle.nomos_state.proofs.TallyLemmas.{suspects-both}

-- nothing is done, where as much is done less as more
pub moves-still : (t : Tallies) (less more : NameUse → List ℕ)
    → ((d : NameUse) (name : ℕ) → count_of name (less d) ≡ count_of name (more d)) → Moves t t less more
moves-still t less more same = record {
  order = refl;
  exact = λ yes. yes;
  counts = λ yes d name. omega (arith, same d name);
  suspects = λ yes known. (known, λ name is. is);
  marked = refl;
}

-- tallies that are exact no longer say nothing
pub moves-lost : (before after : Tallies) (less more : NameUse → List ℕ) → after.exact ≡ false
    → numbers after.names.now ≡ numbers before.names.now → after.names.marked ≡ before.names.marked
    → Moves before after less more
moves-lost before after less more lost order marked = record {
  order = order;
  exact = λ yes. absurd cc;
  counts = λ yes. absurd cc;
  suspects = λ yes. absurd cc;
  marked = marked;
}

-- one thing after another
pub moves-both : (a b c : Tallies) (less_one more_one less_other more_other less more : NameUse → List ℕ)
    → Moves a b less_one more_one → Moves b c less_other more_other
    → ((d : NameUse) (name : ℕ)
    → count_of name (less d) + count_of name (more_one d) + count_of name (more_other d)
    ≡ count_of name (more d) + count_of name (less_one d) + count_of name (less_other d))
    → Moves a c less more
moves-both a b c less_one more_one less_other more_other less more one other balanced = record {
  order = other.order ∙ one.order;
  exact = λ yes. one.exact (other.exact yes);
  counts = λ yes d name.
      omega (arith, one.counts (other.exact yes) d name, other.counts yes d name, balanced d name);
  suspects = λ yes.
      suspects-both a.names.now b.names.now c.names.now a.suspects b.suspects c.suspects
      (one.suspects (other.exact yes))
      (other.suspects yes);
  marked = other.marked ∙ one.marked;
}

-- the same, said by other lists in which names stand as often
pub moves-as : (a b : Tallies) (less more less_too more_too : NameUse → List ℕ) → Moves a b less more
    → ((d : NameUse) (name : ℕ)
    → count_of name (less_too d) + count_of name (more d) ≡ count_of name (more_too d) + count_of name (less d))
    → Moves a b less_too more_too
moves-as a b less more less_too more_too moves same = record {
  order = moves.order;
  exact = moves.exact;
  counts = λ yes d name. omega (arith, moves.counts yes d name, same d name);
  suspects = moves.suspects;
  marked = moves.marked;
}
