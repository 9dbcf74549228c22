pub mod BothShown
