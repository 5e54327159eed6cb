-- The numbers of the matches, and the matches of `run`.
use Rattle.std.proofs.Common.{◌≡◌, ℕ, List, Option, Some, None, refl, subst, sym}
use Rattle.std.specs.Prelude.{IfSome, IsNone, IsSomeAnd, MatchOption, codes}
use Rattle.clap.specs.Walk.{Row, first_of}
use Rattle.pon_job.specs.Jobs.{AreSegments, HasNumber, IsControl, IsMeeting, IsRun, MayHave, NamesNoJob, Spells}
use Rattle.pon_job.specs.declared.task.TheConstants.{MAX_FLUSH, MAX_MAPS}
use Rattle.pon_job.specs.declared.task.Control.{Control}
use Rattle.pon_job.specs.declared.task.Meeting.{Meeting}
use Rattle.pon_job.specs.declared.task.Run.{Run as RunOf}
use Rattle.pon_job.specs.declared.task.Segments.{Segments}
use Rattle.pon_job.specs.declared.task.Job.TheVariants.{Plan, Check, Audit, Show, Migrate, Run, Units, Stop, Operate}
use Rattle.pon_job.proofs.Subcommands.{words_differ}
use Rattle.pon_job.proofs.Views.{view_is_no_word}

-- the number that is parsed from the text of an argument
pub number_read : (id : List ℕ) (low high : ℕ) (rows : List Row) (text : List ℕ) (r : Option ℕ) → Some text ≡ first_of id rows
    → MatchOption r ((number : ℕ) → ¬ Spells low high text number) (Spells low high text) → IfSome r (HasNumber id low high rows)
number_read id low high rows text None is spells = tt
number_read id low high rows text (Some number) is spells = subst (λ o. IsSomeAnd o (λ t. Spells low high t number)) is spells

pub number_refused : (id : List ℕ) (low high : ℕ) (rows : List Row) (text : List ℕ) (r : Option ℕ) → Some text ≡ first_of id rows
    → MatchOption r ((number : ℕ) → ¬ Spells low high text number) (Spells low high text) → IsNone r → (number : ℕ) → ¬ HasNumber id low high rows number
number_refused id low high rows text None is spells none number has = spells number (subst (λ o. IsSomeAnd o (λ t. Spells low high t number)) (sym is) has)
number_refused id low high rows text (Some n) is spells none number has = absurd (cc none)

pub number_missing : (id : List ℕ) (low high : ℕ) (rows : List Row) → None ≡ first_of id rows → (number : ℕ) → ¬ HasNumber id low high rows number
number_missing id low high rows none number has = subst (λ o. IsSomeAnd o (λ t. Spells low high t number)) (sym none) has

-- a value that is no number leaves no choice
pub choice_refused : (id : List ℕ) (low high : ℕ) (rows : List Row) (text : List ℕ) → Some text ≡ first_of id rows
    → ((number : ℕ) → ¬ Spells low high text number) → (number : Option ℕ) → ¬ MayHave id low high rows number
choice_refused id low high rows text is none None has = absurd (cc (is, has))
choice_refused id low high rows text is none (Some number) has = none number (subst (λ o. IsSomeAnd o (λ t. Spells low high t number)) (sym is) has)

-- if a value is missing, there is no run
no_run : (rows : List Row) → ((run : RunOf) → ¬ IsRun rows run) → NamesNoJob (Some (codes "run", rows))
no_run rows none (Plan plan) j = absurd (cc (j.0))
no_run rows none (Check file) j = absurd (cc (j.0))
no_run rows none (Audit audit) j = absurd (cc (j.0))
no_run rows none (Show shown) j = absurd (view_is_no_word shown.view (codes "run") refl (sym j.0))
no_run rows none (Migrate migration) j = absurd (cc (j.0))
no_run rows none (Run run) j = none run j.1
no_run rows none (Units units) j = absurd (cc (j.0))
no_run rows none (Stop at) j = words_differ (codes "run") (codes "stop") refl j.0
no_run rows none (Operate at) j = words_differ (codes "run") (codes "operate") refl j.0

pub without_settings : (rows : List Row) → None ≡ first_of (codes "config") rows → NamesNoJob (Some (codes "run", rows))
without_settings rows none = no_run rows (λ run is. absurd (cc (none, is.settings)))

pub without_address : (rows : List Row) → None ≡ first_of (codes "listen") rows → NamesNoJob (Some (codes "run", rows))
without_address rows none = no_run rows (λ run is. absurd (cc (none, is.address)))

pub without_meeting : (rows : List Row) → ((meeting : Meeting) → ¬ IsMeeting rows meeting) → NamesNoJob (Some (codes "run", rows))
without_meeting rows none = no_run rows (λ run is. none run.meeting is.meets)

pub without_control : (rows : List Row) → ((control : Control) → ¬ IsControl rows control) → NamesNoJob (Some (codes "run", rows))
without_control rows none = no_run rows (λ run is. none run.control is.controlled)

pub without_segments : (rows : List Row) → ((segments : Segments) → ¬ AreSegments rows segments) → NamesNoJob (Some (codes "run", rows))
without_segments rows none = no_run rows (λ run is. none run.segments is.segmented)

pub without_flush : (rows : List Row) → ((flush : Option ℕ) → ¬ MayHave (codes "flush") 0 MAX_FLUSH rows flush) → NamesNoJob (Some (codes "run", rows))
without_flush rows none = no_run rows (λ run is. none run.flush is.flushes)

pub without_number : (rows : List Row) → ((maps : Option ℕ) → ¬ MayHave (codes "maps") 1 MAX_MAPS rows maps) → NamesNoJob (Some (codes "run", rows))
without_number rows none = no_run rows (λ run is. none run.maps is.number)
