pub mod CountedRules
pub mod CountedForms
pub mod CountedPrograms
pub mod CountedTheorem
pub mod ActiveRules
pub mod ActiveForms
pub mod ActivePrograms
pub mod ActiveTheorem
