use Rattle.charts.specs.View.{users_of}
use Rattle.trials.proofs.Carrying.{Carried}
use Rattle.trials.proofs.carry_through.Given as goal

abbrev pub invariant-loop-number : goal.invariant-loop-number
invariant-loop-number l = Carried (users_of l.users) l.n l.actions l.initial.file l.file l.t l.number
