pub mod Answered
pub mod Atoms
pub mod Bounds
pub mod Feeding
pub mod Joined
pub mod Passing
pub mod Reach
pub mod Resuming
pub mod Parentheses
pub mod Wrappings
pub mod Stripped
pub mod Steady
pub mod Whole
pub mod Telling
pub mod TokenTurns
pub mod TokenEnds
pub mod OpenFrames
pub mod ReaderTurns
pub mod TokenBegins
pub mod ReaderSteps
pub mod LimitFacts
pub mod CommandTurns
pub mod FedBytes
pub mod FedBetween
pub mod MachineSteps
pub mod FedPieces
pub mod Counting
pub mod FedAnswers
pub mod FedEnds
pub mod Callers
mod Vectors
pub mod Naming
pub mod Parts
pub mod Building
pub mod ChildCounts
pub mod TokenPositions
pub mod Sizes
pub mod RunSteps
pub mod FedRuns
pub mod ByteTests
pub mod PlainTables
pub mod TokenRuns
pub mod CommentRuns
pub mod PassRuns
mod AheadRuns
mod QuotedRuns
mod PartsOf
mod BlankRuns
mod AtomPlaces
pub mod PrintedAtoms
pub mod PrintedBack
pub mod PrintedLines
pub mod ReadSymbols
mod ReadCommands
