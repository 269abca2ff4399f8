-- Mirrors of the code, on which no promise stands.
pub mod Runs
pub mod Courses
