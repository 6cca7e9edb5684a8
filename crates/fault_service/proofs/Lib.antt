pub mod FrameItems
pub mod Plans
pub mod SoundAnswers
pub mod RoundTrip
pub mod AwayWrites
pub mod WrittenTouches
