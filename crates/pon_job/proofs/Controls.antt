-- The matches of `stop` and `operate`.
use Rattle.std.proofs.Common.{◌≡◌, ℕ, List, None, Some, refl, sym}
use Rattle.std.specs.Prelude.{codes}
use Rattle.clap.specs.Walk.{Row, first_of}
use Rattle.pon_job.specs.Jobs.{IsControlAt, NamesNoJob}
use Rattle.pon_job.specs.declared.task.ControlAt.{ControlAt}
use Rattle.pon_job.specs.declared.task.ControlAt.TheVariants.{Path, Tcp}
use Rattle.pon_job.specs.declared.task.Job.TheVariants.{Plan, Check, Audit, Show, Migrate, Run, Units, Stop, Operate}
use Rattle.pon_job.proofs.Subcommands.{words_differ}
use Rattle.pon_job.proofs.Views.{view_is_no_word}

-- without a place there is no stop
pub no_stop : (rows : List Row) → ((at : ControlAt) → ¬ IsControlAt rows at) → NamesNoJob (Some (codes "stop", rows))
no_stop rows none (Plan plan) j = words_differ (codes "stop") (codes "plan") refl j.0
no_stop rows none (Check file) j = words_differ (codes "stop") (codes "check") refl j.0
no_stop rows none (Audit audit) j = words_differ (codes "stop") (codes "audit") refl j.0
no_stop rows none (Show shown) j = view_is_no_word shown.view (codes "stop") refl (sym j.0)
no_stop rows none (Migrate migration) j = words_differ (codes "stop") (codes "migrate") refl j.0
no_stop rows none (Run run) j = words_differ (codes "stop") (codes "run") refl j.0
no_stop rows none (Units units) j = words_differ (codes "stop") (codes "units") refl j.0
no_stop rows none (Stop at) j = none at j.1
no_stop rows none (Operate at) j = words_differ (codes "stop") (codes "operate") refl j.0

-- without a place there are no lines for a run
pub no_operate : (rows : List Row) → ((at : ControlAt) → ¬ IsControlAt rows at) → NamesNoJob (Some (codes "operate", rows))
no_operate rows none (Plan plan) j = words_differ (codes "operate") (codes "plan") refl j.0
no_operate rows none (Check file) j = words_differ (codes "operate") (codes "check") refl j.0
no_operate rows none (Audit audit) j = words_differ (codes "operate") (codes "audit") refl j.0
no_operate rows none (Show shown) j = view_is_no_word shown.view (codes "operate") refl (sym j.0)
no_operate rows none (Migrate migration) j = words_differ (codes "operate") (codes "migrate") refl j.0
no_operate rows none (Run run) j = words_differ (codes "operate") (codes "run") refl j.0
no_operate rows none (Units units) j = words_differ (codes "operate") (codes "units") refl j.0
no_operate rows none (Stop at) j = words_differ (codes "operate") (codes "stop") refl j.0
no_operate rows none (Operate at) j = none at j.1

-- a path and an address together are no place
pub not_both : (rows : List Row) (path address : List ℕ) → Some path ≡ first_of (codes "control") rows → Some address ≡ first_of (codes "control-tcp") rows → (at : ControlAt) → ¬ IsControlAt rows at
not_both rows path address p a (Path name) is = absurd (cc (a, is.1))
not_both rows path address p a (Tcp name) is = absurd (cc (p, is.1))

-- without a path and without an address there is no place
pub neither : (rows : List Row) → None ≡ first_of (codes "control") rows → None ≡ first_of (codes "control-tcp") rows → (at : ControlAt) → ¬ IsControlAt rows at
neither rows p a (Path name) is = absurd (cc (p, is.0))
neither rows p a (Tcp name) is = absurd (cc (a, is.0))
