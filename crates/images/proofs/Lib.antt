-- The laws of images, in the order to read them.
pub mod RisingLaws
pub mod PieceLaws
pub mod LegalLaws
pub mod FormLaws
pub mod FrameLaws
pub mod ImageLaws
pub mod LoadLaws
pub mod RestoreLaws
pub mod RoundTrip
pub mod SaveLaws
pub mod NotEmpty
