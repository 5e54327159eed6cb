use Rattle.std.proofs.Common.{sym}
use Rattle.pon_admit.proofs.Refusals.{refuses_remove-absent, refuses_remove-there}
use Rattle.pon_admit.proofs.roster.Roster.remove_refusal.Goals as goal

pub returns-in-Some : goal.returns-in-Some
returns-in-Some c = sym (refuses_remove-there c.args.alloc_id c.self.view_is c.deref.ensures.value c.in-Some.ensures)

pub returns-in-None : goal.returns-in-None
returns-in-None c = sym (refuses_remove-absent c.args.alloc_id c.self.view_is c.deref.ensures.value c.in-None.ensures)
