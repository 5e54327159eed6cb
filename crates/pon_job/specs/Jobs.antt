-- The jobs of the program, from the words of its command line.
use Rattle.std.specs.Prelude.{◌≡◌, ◌⊎◌, ◌↔◌, ℕ, Bool, List, [], ◌∷◌, codes, length, map, Option, Some, None, IsSomeAnd, option_map, false, true, ⊤}
use Rattle.std.specs.Str.Parse.{digits_value, without_leading_plus}
use Rattle.clap.specs.Walk.{Row, Rule, all_of, first_of}
use Rattle.clap.specs.declared.builder.arg.Arg.{Arg}
use Rattle.clap.specs.declared.builder.command.Command.{Command}
use Rattle.clap.specs.declared.builder.command.Command.TheViews.{out-Command}
use Rattle.clap.specs.Simple.{App, Shape, app_of, new_shape, new_rule, subcommand_of, with_subcommand}
use Rattle.clap.specs.Faults.{fault_of}
use Rattle.clap.specs.Kinds.{HasKind}
use Rattle.clap.specs.Values.{IsUnsignedIn, kind_of}
use Rattle.clap.specs.declared.builder.action.ArgAction.TheVariants.{Append, SetTrue}
use Rattle.clap.specs.declared.builder.value_parser.ValueParser.TheVariants.{Unsigned}
use Rattle.clap.specs.declared.error.Error.{Error}
use Rattle.clap.specs.declared.error.kind.ErrorKind.TheVariants.{InvalidSubcommand}
use Rattle.pon_job.specs.declared.task.TheConstants.{MAX_ALLOC, MAX_FLUSH, MAX_FRAME, MAX_KEPT, MAX_MAPS, MAX_OPERATORS, MAX_PACE, MAX_PORT, MAX_WAIT, MIN_ALLOC}
use Rattle.pon_job.specs.declared.task.Audit.{Audit as AuditOf}
use Rattle.pon_job.specs.declared.task.Control.{Control}
use Rattle.pon_job.specs.declared.task.ControlAt.{ControlAt}
use Rattle.pon_job.specs.declared.task.ControlAt.TheVariants.{Path, Tcp}
use Rattle.pon_job.specs.declared.task.Job.{Job}
use Rattle.pon_job.specs.declared.task.Meeting.{Meeting}
use Rattle.pon_job.specs.declared.task.Migration.{Migration as MigrationOf}
use Rattle.pon_job.specs.declared.task.Part.{Part}
use Rattle.pon_job.specs.declared.task.Plan.{Plan as PlanOf}
use Rattle.pon_job.specs.declared.task.Resume.{Resume}
use Rattle.pon_job.specs.declared.task.Run.{Run as RunOf}
use Rattle.pon_job.specs.declared.task.Segments.{Segments}
use Rattle.pon_job.specs.declared.task.Show.{Show as Shown}
use Rattle.pon_job.specs.declared.task.Units.{Units as UnitsOf}
use Rattle.pon_job.specs.declared.task.View.{View}
use Rattle.pon_job.specs.declared.task.View.TheVariants.{Info, Rates, Why, Dump, Picture, Loads}
use Rattle.pon_job.specs.declared.task.Job.TheVariants.{Plan, Check, Audit, Show, Migrate, Run, Units, Stop, Operate}

-- an argument that is given by its place, and is required
abbrev pub place_rule : List ℕ → Rule
place_rule id = record (new_rule id) { value_names = 1; required = true }

-- an option with a value
abbrev pub option_rule : List ℕ → Rule
option_rule id = record (new_rule id) { long = Some id; value_names = 1 }

-- an option whose value is a number in a range
abbrev pub number_rule : List ℕ → ℕ → ℕ → Rule
number_rule id low high = record (option_rule id) { parser = Some (Unsigned low high) }

-- an option without a value
abbrev pub flag_rule : List ℕ → Rule
flag_rule id = record (new_rule id) { long = Some id; action = Some SetTrue }

-- the file of `check` and of `migrate`
abbrev pub file_rule : Rule
file_rule = place_rule (codes "file")

-- the files of `audit` and of each view, one or more
abbrev pub files_rule : Rule
files_rule = record file_rule { action = Some Append }

-- the flag with which the files of `audit` or of a view are one recording
abbrev pub joined_rule : Rule
joined_rule = flag_rule (codes "joined")

-- the file that `migrate` writes
abbrev pub out_rule : Rule
out_rule = place_rule (codes "out")

-- the settings of `plan`
abbrev pub config_rule : Rule
config_rule = option_rule (codes "config")

-- the settings of `run`, which are required
abbrev pub needed_config_rule : Rule
needed_config_rule = record config_rule { required = true }

-- the address of the sockets of `run`, which is required
abbrev pub listen_rule : Rule
listen_rule = record (option_rule (codes "listen")) { required = true }

-- the number of maps of `run`
abbrev pub maps_rule : Rule
maps_rule = number_rule (codes "maps") 1 MAX_MAPS

-- the file of a recording of `run` or `plan`
abbrev pub record_rule : Rule
record_rule = option_rule (codes "record")

-- the maps of a segment of the recording of `run`, and the number of segments that are kept
abbrev pub segment_rule : Rule
segment_rule = number_rule (codes "segment") 1 MAX_MAPS

abbrev pub keep_rule : Rule
keep_rule = number_rule (codes "keep") 1 MAX_KEPT

-- the recording after which the ports of `run` go on
abbrev pub resume_rule : Rule
resume_rule = option_rule (codes "resume")

-- the flags of `run` with which it may be cut, with which the ports keep their window, and with which they change as the
-- settings say
abbrev pub resume_truncated_rule : Rule
resume_truncated_rule = flag_rule (codes "resume-truncated")

abbrev pub warm_rule : Rule
warm_rule = flag_rule (codes "warm")

abbrev pub apply_rule : Rule
apply_rule = flag_rule (codes "apply")

-- the file of management lines for an operator of `run`
abbrev pub operate_rule : Rule
operate_rule = option_rule (codes "operate")

-- the sockets for operators, by a path and by an address
abbrev pub control_rule : Rule
control_rule = option_rule (codes "control")

abbrev pub control_tcp_rule : Rule
control_tcp_rule = option_rule (codes "control-tcp")

-- the number of operators of `run` at once
abbrev pub operators_rule : Rule
operators_rule = number_rule (codes "operators") 1 MAX_OPERATORS

-- where the units of `run` are
abbrev pub units_rule : Rule
units_rule = option_rule (codes "units")

-- how long a connection with external units may keep waiting
abbrev pub wait_rule : Rule
wait_rule = number_rule (codes "wait") 1 MAX_WAIT

-- the maps of a port of `run` in a second
abbrev pub pace_rule : Rule
pace_rule = number_rule (codes "pace") 1 MAX_PACE

-- the address of the terminal of `units`, which is required
abbrev pub connect_rule : Rule
connect_rule = record (option_rule (codes "connect")) { required = true }

-- the flags of `run` for lines on standard error: once a second, and at the end
abbrev pub progress_rule : Rule
progress_rule = flag_rule (codes "progress")

abbrev pub summary_rule : Rule
summary_rule = flag_rule (codes "summary")

-- the address at which `run` answers with metrics
abbrev pub metrics_rule : Rule
metrics_rule = option_rule (codes "metrics")

-- the flag of `run` that settles each port at the end
abbrev pub settle_rule : Rule
settle_rule = flag_rule (codes "settle")

-- the flag of each command that writes a file, with which the file may not exist
abbrev pub no_clobber_rule : Rule
no_clobber_rule = flag_rule (codes "no-clobber")

-- the flag of `plan` with which a full chapter is forgotten
abbrev pub forget_rule : Rule
forget_rule = flag_rule (codes "forget")

-- the seconds after which a chapter of a recording is cut by the clock
abbrev pub flush_rule : Rule
flush_rule = number_rule (codes "flush") 0 MAX_FLUSH

-- the flag of `run` with which a port takes one connection of external units only
abbrev pub once_rule : Rule
once_rule = flag_rule (codes "once")

-- the flag of `run` with which simulated units get queues for Alloc-IDs that are admitted meanwhile
abbrev pub grow_rule : Rule
grow_rule = flag_rule (codes "grow")

-- the flag of `run` with which a recording that lacks a chapter fails the run
abbrev pub strict_record_rule : Rule
strict_record_rule = flag_rule (codes "strict-record")

-- the flag of `plan` with which a refused line is a refusal of the input
abbrev pub strict_rule : Rule
strict_rule = flag_rule (codes "strict")

-- the flag of `plan` that explains each refusal
abbrev pub verbose_rule : Rule
verbose_rule = flag_rule (codes "verbose")

-- the part of a recording that a view shows
abbrev pub port_rule : Rule
port_rule = number_rule (codes "port") 0 MAX_PORT

abbrev pub alloc_rule : Rule
alloc_rule = number_rule (codes "alloc") MIN_ALLOC MAX_ALLOC

-- the Alloc-ID of `loads`, which is required
abbrev pub needed_alloc_rule : Rule
needed_alloc_rule = record alloc_rule { required = true }

abbrev pub frame_rule : Rule
frame_rule = number_rule (codes "frame") 0 MAX_FRAME

abbrev pub from_rule : Rule
from_rule = number_rule (codes "from") 0 MAX_FRAME

abbrev pub to_rule : Rule
to_rule = number_rule (codes "to") 0 MAX_FRAME

-- the format that a view or verdicts are printed in
abbrev pub format_rule : Rule
format_rule = option_rule (codes "format")

-- the flag of `audit` with which a recording has to be complete
abbrev pub complete_rule : Rule
complete_rule = flag_rule (codes "complete")

-- the file of a picture
abbrev pub svg_rule : Rule
svg_rule = option_rule (codes "svg")

-- a subcommand with these arguments
abbrev pub shape_with : List ℕ → List Rule → Shape
shape_with name rules = record (new_shape name) { rules = rules }

abbrev pub plan_shape : Shape
plan_shape = shape_with (codes "plan") (config_rule ∷ strict_rule ∷ verbose_rule ∷ record_rule ∷ no_clobber_rule ∷ forget_rule ∷ flush_rule ∷ [])

abbrev pub check_shape : Shape
check_shape = shape_with (codes "check") (file_rule ∷ [])

abbrev pub audit_shape : Shape
audit_shape = shape_with (codes "audit") (files_rule ∷ joined_rule ∷ complete_rule ∷ format_rule ∷ [])

abbrev pub info_shape : Shape
info_shape = shape_with (codes "info") (files_rule ∷ joined_rule ∷ format_rule ∷ [])

abbrev pub rates_shape : Shape
rates_shape = shape_with (codes "rates") (files_rule ∷ joined_rule ∷ port_rule ∷ alloc_rule ∷ from_rule ∷ to_rule ∷ format_rule ∷ [])

abbrev pub why_shape : Shape
why_shape = shape_with (codes "why") (files_rule ∷ joined_rule ∷ port_rule ∷ frame_rule ∷ alloc_rule ∷ format_rule ∷ [])

abbrev pub dump_shape : Shape
dump_shape = shape_with (codes "dump") (files_rule ∷ joined_rule ∷ port_rule ∷ [])

abbrev pub picture_shape : Shape
picture_shape = shape_with (codes "picture") (files_rule ∷ joined_rule ∷ port_rule ∷ frame_rule ∷ svg_rule ∷ no_clobber_rule ∷ [])

abbrev pub loads_shape : Shape
loads_shape = shape_with (codes "loads") (files_rule ∷ joined_rule ∷ needed_alloc_rule ∷ port_rule ∷ from_rule ∷ to_rule ∷ svg_rule ∷ no_clobber_rule ∷ [])

abbrev pub migrate_shape : Shape
migrate_shape = shape_with (codes "migrate") (file_rule ∷ out_rule ∷ no_clobber_rule ∷ [])

abbrev pub run_shape : Shape
run_shape = shape_with (codes "run") (needed_config_rule ∷ listen_rule ∷ maps_rule ∷ units_rule ∷ once_rule ∷ grow_rule ∷ wait_rule ∷ pace_rule ∷ record_rule ∷ segment_rule ∷ keep_rule ∷ resume_rule ∷ resume_truncated_rule ∷ warm_rule ∷ apply_rule ∷ no_clobber_rule ∷ strict_record_rule ∷ flush_rule ∷ operate_rule ∷ control_rule ∷ control_tcp_rule ∷ operators_rule ∷ settle_rule ∷ progress_rule ∷ summary_rule ∷ metrics_rule ∷ [])

abbrev pub stop_shape : Shape
stop_shape = shape_with (codes "stop") (control_rule ∷ control_tcp_rule ∷ [])

abbrev pub operate_shape : Shape
operate_shape = shape_with (codes "operate") (control_rule ∷ control_tcp_rule ∷ [])

abbrev pub units_shape : Shape
units_shape = shape_with (codes "units") (needed_config_rule ∷ connect_rule ∷ port_rule ∷ wait_rule ∷ [])

abbrev pub top_shape : Shape
top_shape = record (new_shape (codes "olt")) {
  has_version = true;
  subcommand_required = true;
  arg_required_else_help = true;
}

-- no argument is one of the subcommands too
abbrev pub AreLocal : List Arg → Type 0
AreLocal [] = ⊤
AreLocal (a ∷ args) = (a.global ≡ false) × AreLocal args

-- a subcommand, which has none itself
abbrev pub leaf : Shape → App
leaf shape = record { top = shape; subs = [] }

-- the command line of the program: its subcommands in the order of its help
abbrev pub olt_app : App
olt_app = record {
  top = record top_shape { is_leaf = false };
  subs = plan_shape ∷ check_shape ∷ audit_shape ∷ info_shape ∷ rates_shape ∷ why_shape ∷ dump_shape ∷ picture_shape ∷ loads_shape ∷ migrate_shape ∷ run_shape ∷ stop_shape ∷ operate_shape ∷ units_shape ∷ [];
}

-- a command line with the commands that answer from a recording
abbrev pub with_views : App → App
with_views app =
    let shown = with_subcommand (with_subcommand (with_subcommand app info_shape) rates_shape) why_shape in
    with_subcommand (with_subcommand (with_subcommand shown dump_shape) picture_shape) loads_shape

-- the command has this definition, and no global argument
pub record IsDefined (app : App) (c : Command) : Type 0 where
  pub definition : app_of c ≡ app
  pub local : (out-Command c).has_globals ≡ false

-- the subcommand of a view
abbrev pub word_of_view : View → List ℕ
word_of_view Info = codes "info"
word_of_view Rates = codes "rates"
word_of_view Why = codes "why"
word_of_view Dump = codes "dump"
word_of_view Picture = codes "picture"
word_of_view Loads = codes "loads"

-- the subcommand of a job
abbrev pub word_of : Job → List ℕ
word_of (Plan plan) = codes "plan"
word_of (Check file) = codes "check"
word_of (Audit audit) = codes "audit"
word_of (Show shown) = word_of_view shown.view
word_of (Migrate migration) = codes "migrate"
word_of (Run run) = codes "run"
word_of (Units units) = codes "units"
word_of (Stop at) = codes "stop"
word_of (Operate at) = codes "operate"

-- the text is this number, in decimal digits after an optional plus sign, in a range
pub record Spells (low high : ℕ) (text : List ℕ) (number : ℕ) : Type 0 where
  pub in_range : IsUnsignedIn low high text
  pub value : digits_value 10 (without_leading_plus text) ≡ number

-- the matches have this number as the value of an argument
abbrev pub HasNumber : List ℕ → ℕ → ℕ → List Row → ℕ → Type 0
HasNumber id low high rows number = IsSomeAnd (first_of id rows) (λ text. Spells low high text number)

-- the matches have this number as the value of an argument, or no value
abbrev pub MayHave : List ℕ → ℕ → ℕ → List Row → Option ℕ → Type 0
MayHave id low high rows None = first_of id rows ≡ None
MayHave id low high rows (Some number) = HasNumber id low high rows number

-- the matches have the numbers of this part of a recording
pub record IsPart (rows : List Row) (part : Part) : Type 0 where
  pub port : MayHave (codes "port") 0 MAX_PORT rows part.port
  pub alloc_id : MayHave (codes "alloc") MIN_ALLOC MAX_ALLOC rows part.alloc
  pub frame : MayHave (codes "frame") 0 MAX_FRAME rows part.frame
  pub first : MayHave (codes "from") 0 MAX_FRAME rows part.from
  pub last : MayHave (codes "to") 0 MAX_FRAME rows part.to

-- the flag was given
abbrev pub HasFlag : List ℕ → List Row → Bool → Type 0
HasFlag id rows given = (given ≡ true) ↔ (first_of id rows ≡ Some (codes "true"))

-- the value of the format means JSON, or text, which it also is without a value
abbrev pub IsFormat : Option (List ℕ) → Bool → Type 0
IsFormat None json = json ≡ false
IsFormat (Some text) true = text ≡ codes "json"
IsFormat (Some text) false = text ≡ codes "text"

-- the matches of `audit` have these values
pub record IsAudit (rows : List Row) (audit : AuditOf) : Type 0 where
  pub recordings : all_of (codes "file") rows ≡ Some (map (λ name. name.now) audit.files.items)
  pub format : IsFormat (first_of (codes "format") rows) audit.json
  pub whole : HasFlag (codes "complete") rows audit.complete
  pub joins : HasFlag (codes "joined") rows audit.joined

-- the files of a view are joined, or there is one
abbrev pub AreJoinedOrOne : Bool → ℕ → Type 0
AreJoinedOrOne joined count = joined ≡ false → count ≡ 1

-- the matches of a view have these values
pub record IsShown (rows : List Row) (shown : Shown) : Type 0 where
  pub recordings : all_of (codes "file") rows ≡ Some (map (λ name. name.now) shown.files.items)
  pub joins : HasFlag (codes "joined") rows shown.joined
  pub one : AreJoinedOrOne shown.joined (length shown.files.items)
  pub selection : IsPart rows shown.part
  pub picture : first_of (codes "svg") rows ≡ option_map (λ name. name.now) shown.svg
  pub keeps : HasFlag (codes "no-clobber") rows shown.no_clobber
  pub format : IsFormat (first_of (codes "format") rows) shown.json

-- the matches of `plan` have these values
pub record IsPlan (rows : List Row) (plan : PlanOf) : Type 0 where
  pub settings : first_of (codes "config") rows ≡ option_map (λ name. name.now) plan.config
  pub strict : HasFlag (codes "strict") rows plan.strict
  pub verbose : HasFlag (codes "verbose") rows plan.verbose
  pub recording_file : first_of (codes "record") rows ≡ option_map (λ name. name.now) plan.record
  pub keeps : HasFlag (codes "no-clobber") rows plan.no_clobber
  pub forgets : HasFlag (codes "forget") rows plan.forget
  pub flushes : MayHave (codes "flush") 0 MAX_FLUSH rows plan.flush

-- the units are external, or simulated, which they also are without a value
abbrev pub IsPlace : Option (List ℕ) → Bool → Type 0
IsPlace None external = external ≡ false
IsPlace (Some text) true = text ≡ codes "external"
IsPlace (Some text) false = text ≡ codes "simulated"

-- the matches of `run` have these values on how the ports meet their units
pub record IsMeeting (rows : List Row) (meeting : Meeting) : Type 0 where
  pub place : IsPlace (first_of (codes "units") rows) meeting.external
  pub once : HasFlag (codes "once") rows meeting.once
  pub grows : HasFlag (codes "grow") rows meeting.grow
  pub waiting : MayHave (codes "wait") 1 MAX_WAIT rows meeting.wait
  pub speed : MayHave (codes "pace") 1 MAX_PACE rows meeting.pace

-- the matches of `run` have these values on how operators connect to it
pub record IsControl (rows : List Row) (control : Control) : Type 0 where
  pub path : first_of (codes "control") rows ≡ option_map (λ name. name.now) control.path
  pub address : first_of (codes "control-tcp") rows ≡ option_map (λ name. name.now) control.tcp
  pub seats : MayHave (codes "operators") 1 MAX_OPERATORS rows control.operators

-- the matches of `run` have these values on the segments of its recording
pub record AreSegments (rows : List Row) (segments : Segments) : Type 0 where
  pub each : MayHave (codes "segment") 1 MAX_MAPS rows segments.maps
  pub newest : MayHave (codes "keep") 1 MAX_KEPT rows segments.keep

-- the matches of `run` have these values on how the ports go on where a recording ends
pub record IsResume (rows : List Row) (resume : Resume) : Type 0 where
  pub recording : first_of (codes "resume") rows ≡ option_map (λ name. name.now) resume.from
  pub cut : HasFlag (codes "resume-truncated") rows resume.truncated
  pub keeps : HasFlag (codes "warm") rows resume.warm
  pub changes : HasFlag (codes "apply") rows resume.apply

-- the matches of `run` have these values
pub record IsRun (rows : List Row) (run : RunOf) : Type 0 where
  pub settings : first_of (codes "config") rows ≡ Some run.config.now
  pub address : first_of (codes "listen") rows ≡ Some run.listen.now
  pub number : MayHave (codes "maps") 1 MAX_MAPS rows run.maps
  pub recording_file : first_of (codes "record") rows ≡ option_map (λ name. name.now) run.record
  pub segmented : AreSegments rows run.segments
  pub resumed : IsResume rows run.resume
  pub operator : first_of (codes "operate") rows ≡ option_map (λ name. name.now) run.operate
  pub controlled : IsControl rows run.control
  pub keeps : HasFlag (codes "no-clobber") rows run.no_clobber
  pub strict : HasFlag (codes "strict-record") rows run.strict_record
  pub flushes : MayHave (codes "flush") 0 MAX_FLUSH rows run.flush
  pub settles : HasFlag (codes "settle") rows run.settle
  pub meets : IsMeeting rows run.meeting
  pub follows : HasFlag (codes "progress") rows run.progress
  pub sums : HasFlag (codes "summary") rows run.summary
  pub shows : first_of (codes "metrics") rows ≡ option_map (λ name. name.now) run.metrics

-- the matches of `migrate` have these values
pub record IsMigration (rows : List Row) (migration : MigrationOf) : Type 0 where
  pub recording : first_of (codes "file") rows ≡ Some migration.file.now
  pub written : first_of (codes "out") rows ≡ Some migration.out.now
  pub keeps : HasFlag (codes "no-clobber") rows migration.no_clobber

-- the matches of `units` have these values
pub record IsUnits (rows : List Row) (units : UnitsOf) : Type 0 where
  pub settings : first_of (codes "config") rows ≡ Some units.config.now
  pub terminal : first_of (codes "connect") rows ≡ Some units.connect.now
  pub selection : MayHave (codes "port") 0 MAX_PORT rows units.port
  pub waiting : MayHave (codes "wait") 1 MAX_WAIT rows units.wait

-- the matches have a path or an address at which a run is reached, and not both
abbrev pub IsControlAt : List Row → ControlAt → Type 0
IsControlAt rows (Path name) = (first_of (codes "control") rows ≡ Some name.now) × (first_of (codes "control-tcp") rows ≡ None)
IsControlAt rows (Tcp address) = (first_of (codes "control-tcp") rows ≡ Some address.now) × (first_of (codes "control") rows ≡ None)

-- the matches of a job's subcommand have the values of the job, by the names of its arguments
abbrev pub HasValues : List Row → Job → Type 0
HasValues rows (Plan plan) = IsPlan rows plan
HasValues rows (Check file) = first_of (codes "file") rows ≡ Some file.now
HasValues rows (Audit audit) = IsAudit rows audit
HasValues rows (Show shown) = IsShown rows shown
HasValues rows (Migrate migration) = IsMigration rows migration
HasValues rows (Run run) = IsRun rows run
HasValues rows (Units units) = IsUnits rows units
HasValues rows (Stop at) = IsControlAt rows at
HasValues rows (Operate at) = IsControlAt rows at

-- the job is that of the subcommand, with the values of its arguments
abbrev pub IsJob : Option (List ℕ × List Row) → Job → Type 0
IsJob None job = ⊥
IsJob (Some met) job = (met.0 ≡ word_of job) × HasValues met.1 job

-- the subcommand names no job
abbrev pub NamesNoJob : Option (List ℕ × List Row) → Type 0
NamesNoJob met = (job : Job) → ¬ IsJob met job

-- the error for words in which clap finds no fault, but whose subcommand names no job
pub record IsNoSuchJob (words : List (List ℕ)) (e : Error) : Type 0 where
  pub kind : kind_of e ≡ InvalidSubcommand
  pub no_fault : fault_of olt_app words ≡ []
  pub no_job : NamesNoJob (subcommand_of olt_app words)

-- the error of words that give no job: a fault that clap finds in them, refused memory, or a subcommand that names no
-- job
abbrev pub RefusesWords : List (List ℕ) → Error → Type 0
RefusesWords words e = HasKind (fault_of olt_app words) e ⊎ IsNoSuchJob words e
