-- What the proofs of several functions use, and the laws of the tree's promises.
mod Bits
mod SwapLaws
mod UnderLaws
mod JoinLaws
pub mod TreeCalls
