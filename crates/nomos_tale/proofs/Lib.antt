mod FiringLemmas
mod TaleLemmas
