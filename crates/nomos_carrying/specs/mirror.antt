-- What the code finds on its way. Private clauses alone cite it.
pub mod Carrying
pub mod Renumbering
pub mod Dense
