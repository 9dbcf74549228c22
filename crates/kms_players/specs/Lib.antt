pub mod Players
pub mod PlayerTurns
pub mod UnderWay
pub mod Took
pub mod AnyPlayers
