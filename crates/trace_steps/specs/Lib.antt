pub mod Runs
pub mod ValueTests
pub mod StartLaws
pub mod RunLaws
pub mod StepOnLaws
pub mod Results
pub mod ResultLaws
