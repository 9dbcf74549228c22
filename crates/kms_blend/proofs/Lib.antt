mod LaneByLane
mod Moves
mod Packed
