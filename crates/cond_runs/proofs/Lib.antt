pub mod Adding
pub mod SectionRuns
pub mod CallRuns
pub mod ProgramCalls
