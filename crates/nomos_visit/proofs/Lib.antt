mod LabelLemmas
mod NumberLemmas
mod CourseLemmas
mod TurnLemmas
mod OpeningLemmas
mod ToldLemmas
