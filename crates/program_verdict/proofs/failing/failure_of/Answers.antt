use Rattle.program_verdict.proofs.Deciding.{first_of}
use Rattle.program_verdict.proofs.failing.failure_of.Goals as goal

pub returns-in-Ok : goal.returns-in-Ok
returns-in-Ok c =
    let f = c.in-Ok.failing in
    record {
      fails = c.in-Ok.ensures.fails;
      first = first_of c.args.checked.now c.args.model c.args.candidate c.in-Ok.ensures.fails f.handle f.place f.bound c.in-Ok.ensures.first;
    }
