-- The laws that know nothing of schedules.
pub mod BoolLaws
pub mod BelowLaws
pub mod BytesLaws
pub mod StoreLaws
pub mod LentLaws
pub mod ChunkLaws
