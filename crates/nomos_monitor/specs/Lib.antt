pub mod Talks
pub mod Watching
pub mod Opened
pub mod TalkOpening
pub mod SayAnswers
pub mod TalkCourse
