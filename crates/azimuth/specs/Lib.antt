pub mod Problems
pub mod Start
pub mod Lambda
pub mod Newton
