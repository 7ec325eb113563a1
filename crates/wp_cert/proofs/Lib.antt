pub mod Costs
pub mod BoundsHold
pub mod MarkSteps
pub mod Limits
pub mod Testing
pub mod Entering
pub mod TreeNodes
pub mod TreeSteps
pub mod PathSteps
pub mod Ways
pub mod Alive
pub mod WholeTrees
mod Checked
mod OwnTests
mod KeptCuts
mod TextBatches
mod TextCarts
mod TextJson
mod TextLists
mod TextOrders
mod TextPicks
mod TextPlain
mod TextReadBack
mod TextSame
mod TextShown
mod TextTold
mod TextReadable
pub mod TextShows
pub mod OneOutcome
pub mod OneVerdict
mod OrdersBelow
pub mod HaveLengths
pub mod AscendingUnions
pub mod OneFault
pub mod PutIntoBatches
pub mod Walked
pub mod LevelPicks
