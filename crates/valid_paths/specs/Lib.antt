pub mod Readings
pub mod TurnLaws
pub mod ReturnLaws
pub mod LevelLaws
pub mod PathLaws
