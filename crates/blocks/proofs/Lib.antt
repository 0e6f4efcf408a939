-- The laws of blocks, classes, trees and sound schedules, in the order to read them.
pub mod EndlessTime
pub mod ClassLaws
pub mod MirrorLaws
pub mod NodeLaws
pub mod TreeLaws
pub mod SoundLaws
pub mod RunLaws
pub mod ScheduleLaws
