pub mod Octets
pub mod Stopping
pub mod Stepping
pub mod Sifting
pub mod ModelledNotes
pub mod ModelledTargets
pub mod ModelledSteps
pub mod ModelledReach
