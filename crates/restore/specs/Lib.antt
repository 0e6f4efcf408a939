-- What the checks of the connections promise.
pub mod LoadSteps
pub mod Promises
