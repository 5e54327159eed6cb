-- The matches of `migrate`.
use Rattle.std.proofs.Common.{◌≡◌, List, Some, None, refl, sym}
use Rattle.std.specs.Prelude.{codes}
use Rattle.clap.specs.Walk.{Row, first_of}
use Rattle.pon_job.specs.Jobs.{IsMigration, NamesNoJob}
use Rattle.pon_job.specs.declared.task.Migration.{Migration as MigrationOf}
use Rattle.pon_job.proofs.Subcommands.{words_differ}
use Rattle.pon_job.proofs.Views.{view_is_no_word}
use Rattle.pon_job.specs.declared.task.Job.TheVariants.{Plan, Check, Audit, Show, Migrate, Run, Units, Stop, Operate}

-- if a file is missing, there is no migration
no_migration : (rows : List Row) → ((migration : MigrationOf) → ¬ IsMigration rows migration) → NamesNoJob (Some (codes "migrate", rows))
no_migration rows none (Plan plan) j = absurd (cc (j.0))
no_migration rows none (Check file) j = absurd (cc (j.0))
no_migration rows none (Audit audit) j = absurd (cc (j.0))
no_migration rows none (Show shown) j = absurd (view_is_no_word shown.view (codes "migrate") refl (sym j.0))
no_migration rows none (Migrate migration) j = none migration j.1
no_migration rows none (Run run) j = absurd (cc (j.0))
no_migration rows none (Units units) j = absurd (cc (j.0))
no_migration rows none (Stop at) j = words_differ (codes "migrate") (codes "stop") refl j.0
no_migration rows none (Operate at) j = words_differ (codes "migrate") (codes "operate") refl j.0

pub without_file : (rows : List Row) → None ≡ first_of (codes "file") rows → NamesNoJob (Some (codes "migrate", rows))
without_file rows none = no_migration rows (λ migration is. absurd (cc (none, is.recording)))

pub without_out : (rows : List Row) → None ≡ first_of (codes "out") rows → NamesNoJob (Some (codes "migrate", rows))
without_out rows none = no_migration rows (λ migration is. absurd (cc (none, is.written)))
