mod LegalLemmas
mod WorldLemmas
