-- The matches of `plan`.
use Rattle.std.proofs.Common.{ℕ, List, Option, Some, refl, sym}
use Rattle.std.specs.Prelude.{codes}
use Rattle.clap.specs.Walk.{Row}
use Rattle.pon_job.specs.Jobs.{IsPlan, MayHave, NamesNoJob}
use Rattle.pon_job.specs.declared.task.TheConstants.{MAX_FLUSH}
use Rattle.pon_job.specs.declared.task.Plan.{Plan as PlanOf}
use Rattle.pon_job.specs.declared.task.Job.TheVariants.{Plan, Check, Audit, Show, Migrate, Run, Units, Stop, Operate}
use Rattle.pon_job.proofs.Subcommands.{words_differ}
use Rattle.pon_job.proofs.Views.{view_is_no_word}

-- if a value is missing, there is no plan
no_plan : (rows : List Row) → ((plan : PlanOf) → ¬ IsPlan rows plan) → NamesNoJob (Some (codes "plan", rows))
no_plan rows none (Plan plan) j = none plan j.1
no_plan rows none (Check file) j = absurd (cc (j.0))
no_plan rows none (Audit audit) j = absurd (cc (j.0))
no_plan rows none (Show shown) j = absurd (view_is_no_word shown.view (codes "plan") refl (sym j.0))
no_plan rows none (Migrate migration) j = absurd (cc (j.0))
no_plan rows none (Run run) j = absurd (cc (j.0))
no_plan rows none (Units units) j = absurd (cc (j.0))
no_plan rows none (Stop at) j = words_differ (codes "plan") (codes "stop") refl j.0
no_plan rows none (Operate at) j = words_differ (codes "plan") (codes "operate") refl j.0

pub without_period : (rows : List Row) → ((flush : Option ℕ) → ¬ MayHave (codes "flush") 0 MAX_FLUSH rows flush) → NamesNoJob (Some (codes "plan", rows))
without_period rows none = no_plan rows (λ plan is. none plan.flush is.flushes)
