pub mod Rooms
pub mod FenceSets
pub mod Queues
pub mod InStep
pub mod MachineLaws
pub mod StepLaws
