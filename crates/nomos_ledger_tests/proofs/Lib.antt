mod OpeningLemmas
mod PartLemmas
