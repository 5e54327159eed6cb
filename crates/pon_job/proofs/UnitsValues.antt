-- The matches of `units`.
use Rattle.std.proofs.Common.{◌≡◌, ℕ, List, Option, Some, None, refl, sym}
use Rattle.std.specs.Prelude.{codes}
use Rattle.clap.specs.Walk.{Row, first_of}
use Rattle.pon_job.specs.Jobs.{IsUnits, MayHave, NamesNoJob}
use Rattle.pon_job.specs.declared.task.TheConstants.{MAX_PORT, MAX_WAIT}
use Rattle.pon_job.specs.declared.task.Units.{Units as UnitsOf}
use Rattle.pon_job.specs.declared.task.Job.TheVariants.{Plan, Check, Audit, Show, Migrate, Run, Units, Stop, Operate}
use Rattle.pon_job.proofs.Subcommands.{words_differ}
use Rattle.pon_job.proofs.Views.{view_is_no_word}

-- if a value is missing, there are no units
no_units : (rows : List Row) → ((units : UnitsOf) → ¬ IsUnits rows units) → NamesNoJob (Some (codes "units", rows))
no_units rows none (Plan plan) j = words_differ (codes "units") (codes "plan") refl j.0
no_units rows none (Check file) j = words_differ (codes "units") (codes "check") refl j.0
no_units rows none (Audit audit) j = words_differ (codes "units") (codes "audit") refl j.0
no_units rows none (Show shown) j = view_is_no_word shown.view (codes "units") refl (sym j.0)
no_units rows none (Migrate migration) j = words_differ (codes "units") (codes "migrate") refl j.0
no_units rows none (Run run) j = words_differ (codes "units") (codes "run") refl j.0
no_units rows none (Units units) j = none units j.1
no_units rows none (Stop at) j = words_differ (codes "units") (codes "stop") refl j.0
no_units rows none (Operate at) j = words_differ (codes "units") (codes "operate") refl j.0

pub without_rows : (rows : List Row) → None ≡ first_of (codes "config") rows → NamesNoJob (Some (codes "units", rows))
without_rows rows none = no_units rows (λ units is. absurd (cc (none, is.settings)))

pub without_terminal : (rows : List Row) → None ≡ first_of (codes "connect") rows → NamesNoJob (Some (codes "units", rows))
without_terminal rows none = no_units rows (λ units is. absurd (cc (none, is.terminal)))

pub without_port : (rows : List Row) → ((port : Option ℕ) → ¬ MayHave (codes "port") 0 MAX_PORT rows port) → NamesNoJob (Some (codes "units", rows))
without_port rows none = no_units rows (λ units is. none units.port is.selection)

pub without_wait : (rows : List Row) → ((wait : Option ℕ) → ¬ MayHave (codes "wait") 1 MAX_WAIT rows wait) → NamesNoJob (Some (codes "units", rows))
without_wait rows none = no_units rows (λ units is. none units.wait is.waiting)
