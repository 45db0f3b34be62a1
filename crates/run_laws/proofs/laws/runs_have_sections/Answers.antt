use Rattle.run_laws.proofs.SectionRuns.{run_sections, short_run_sections}
use Rattle.run_laws.proofs.laws.runs_have_sections.Goals as goal

pub returns-clause-whole : goal.returns-clause-whole
returns-clause-whole c = λ p f handle arg script r checked e. run_sections p f handle arg script checked r e

pub returns-clause-short : goal.returns-clause-short
returns-clause-short c = λ p f handle arg script s checked e. short_run_sections p f handle arg script checked s e
