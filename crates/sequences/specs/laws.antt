-- Laws of sequences of calls, and of the answers of the fixed-point iteration and of the slack.
pub mod Calls
pub mod Iterations
pub mod Repriced
