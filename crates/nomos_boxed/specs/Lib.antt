pub mod InBox
