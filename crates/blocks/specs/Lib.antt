-- What contracts say of a tree, of classes and of runs.
pub mod Children
pub mod Taking
