mod Waits
mod NothingDone
mod Standing
mod PlainSteps
mod Behind
